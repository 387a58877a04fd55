-- What the report says of a system that is read: that there is no solution; or the least denominator, and a feedback and a delay
-- of which no rational solution has less (document 02, item 2).
use Rattle.std.specs.Prelude.{ℕ, ◌≡◌, List}
use Rattle.modular.specs.Delay.{degree}
use Rattle.words.specs.System.{System}
use Rattle.truth.specs.Solution.{RationalSolution, LeastDenominator}
use Rattle.truth.specs.Feedback.{TakenOut, LeastOfEither}
use Rattle.report_text.specs.Ascii.{ascii}
use Rattle.report_text.specs.Text.{solution_text}

-- the text is a solution's report: the denominator in it is the least one, the delay is the number of its factors x, the feedback
-- is the degree of what is left of it, and no rational solution has less of either
pub record LeastReported (s : System) (text : List ℕ) : Type 0 where
  pub denominator : List ℕ
  pub factors : ℕ
  pub left : List ℕ
  pub says : text ≡ solution_text denominator (degree left) factors
  pub least_denominator : LeastDenominator s denominator
  pub taken : TakenOut s.modulus denominator factors left
  pub least_both : LeastOfEither s (degree left) factors

-- one of two: there is such a report, or "For none it prints the first line only"
pub data ReportSays (s : System) (text : List ℕ) : Type 0 where
  solved : LeastReported s text → ReportSays s text
  unsolved : text ≡ ascii "answer none\n" → ((M : List (List ℕ)) (e : List ℕ) → ¬ RationalSolution s M e) → ReportSays s text
