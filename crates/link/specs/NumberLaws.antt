-- How large the numbers of the exported calls' refusals are: packing asks it. Which they are, at which places and when, is said in
-- `words`, `Rows`, and in `Theorems`.
use Rattle.std.specs.Prelude.{ℕ, ◌≡◌, refl, true, List}
use Rattle.words.specs.Limits.{Limits}
use Rattle.words.specs.LimitsLaws.{LimitsFit}
use Rattle.words.specs.Outcome.{Outcome}
use Rattle.words.specs.Bytes.{words_of}
use Rattle.words.specs.Rows.{Row, RefusesBy, solver_file_rows}
use Rattle.words.specs.RowLaws.{between?, numbers_between}
use Rattle.verifier.specs.File.{file_verdict}
use Rattle.verifier.specs.FilesRefused.{files_rows}
use Rattle.solver.specs.Solving.{SolvesFile}
use Rattle.solver.specs.RefusedLaws.{solve_file_rows}
use Rattle.link_values.specs.Refusals.{Numbers}

-- by the rows of the table
pub by_rows : {A : Type 0} {low high : ℕ} {o : Outcome A} (rows : List Row) → RefusesBy rows o → between? low high rows ≡ true
    → Numbers low high o
by_rows {low = low} {high} rows h e = record { each = λ n k r. numbers_between n k low high rows e (h.in_rows n k r) }

module _ (limits : Limits) where
  pub solver_numbers : (k : ℕ) (file entry exit : List ℕ) (answer : Outcome ℕ) → SolvesFile limits k file entry exit answer
      → Numbers 1 40 answer
  solver_numbers k file entry exit answer h =
      by_rows (solver_file_rows (words_of file)) (solve_file_rows limits k file entry exit answer h) refl

  pub check_numbers : LimitsFit limits → (k : ℕ) (f g : List ℕ) → Numbers 1 40 (file_verdict limits k f g)
  check_numbers fit k f g = by_rows _ (files_rows limits fit k f g) refl
