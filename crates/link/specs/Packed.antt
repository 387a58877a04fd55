-- The solver's answer to a file, and the report, as one number (`answers`, `Packed`).
use Rattle.std.specs.Prelude.{ℕ, ◌≡◌, List}
use Rattle.words.specs.Limits.{Limits}
use Rattle.words.specs.Outcome.{Outcome}
use Rattle.words.specs.Outcome.Outcome.{accepted}
use Rattle.answers.specs.Packed.{packed}
use Rattle.solver.specs.Solving.{SolvesFile}
use Rattle.report.specs.Reporting.{ReportsFile}

-- the solver's answer for right side k, packed: as in `SolvesFile` the certificate is the chosen one (`Gives`), so that it is the
-- only answer (`packed-unique`)
pub record SolvesPacked (limits : Limits) (k : ℕ) (file entry exit : List ℕ) (r : ℕ) : Type 0 where
  pub answer : Outcome ℕ
  pub solves : SolvesFile limits k file entry exit answer
  pub packs : r ≡ packed answer

-- the number of the report's bytes, packed: it refuses nothing
pub record ReportsPacked (limits : Limits) (file entry exit : List ℕ) (r : ℕ) : Type 0 where
  pub count : ℕ
  pub reports : ReportsFile limits file entry exit count
  pub packs : r ≡ packed (accepted count)
