-- Reports by computation, in one table with one proposition over its rows.
use Prim.Native.String.{String}
use Rattle.std.specs.Prelude.{◌≡◌, refl, List, [], ◌∷◌, map}
use Rattle.modular.specs.Delay.{delay, feedback}
use Rattle.words.specs.Outcome.{Outcome}
use Rattle.words.specs.Outcome.Outcome.{accepted, refused}
use Rattle.truth.specs.Solution.{Answer}
use Rattle.truth.specs.Solution.Answer.{none, least}
use Rattle.report_text.specs.Ascii.{ascii}
use Rattle.report_text.specs.Decimal.{decimal}
use Rattle.report_text.specs.Text.{denominator_line, feedback_line, solution_text, report_text}

record Example : Type 0 where
  outcome : Outcome Answer
  text : String

abbrev row : Outcome Answer → String → Example
row outcome text = record { outcome = outcome; text = text }

abbrev examples : List Example
examples =
    -- document 02: "so case 1 ends "feedback 0 delay 1""
    row (accepted (least (0 ∷ 1 ∷ []))) "answer solution\ndenominator 0 1\nfeedback 0 delay 1\n"
    ∷ row (accepted none) "answer none\n"
    -- a file of five bytes; the longest system without its end word
    ∷ row (refused 10 0) "refused 10 at 0\n"
    ∷ row (refused 4 2177) "refused 4 at 2177\n"
    -- polynomials alone solve the system: d = 1
    ∷ row (accepted (least (1 ∷ []))) "answer solution\ndenominator 1\nfeedback 0 delay 0\n"
    -- feedback without delay: x + 2; delay without feedback: x³; both: x²·(x + 1); a zero between other coefficients is no factor x
    ∷ row (accepted (least (2 ∷ 1 ∷ []))) "answer solution\ndenominator 2 1\nfeedback 1 delay 0\n"
    ∷ row (accepted (least (0 ∷ 0 ∷ 0 ∷ 1 ∷ []))) "answer solution\ndenominator 0 0 0 1\nfeedback 0 delay 3\n"
    ∷ row (accepted (least (0 ∷ 0 ∷ 1 ∷ 1 ∷ []))) "answer solution\ndenominator 0 0 1 1\nfeedback 1 delay 2\n"
    ∷ row (accepted (least (1 ∷ 0 ∷ 0 ∷ 1 ∷ []))) "answer solution\ndenominator 1 0 0 1\nfeedback 3 delay 0\n"
    -- modulo 65,521: x⁴ - x³ + 10 x² + 65,000 x
    ∷ row (accepted (least (0 ∷ 65000 ∷ 10 ∷ 65520 ∷ 1 ∷ [])))
    "answer solution\ndenominator 0 65000 10 65520 1\nfeedback 3 delay 1\n"
    -- zero, which is no denominator
    ∷ row (accepted (least [])) "answer solution\ndenominator\nfeedback 0 delay 0\n"
    ∷ []

examples_hold : map (λ e. report_text e.outcome) examples ≡ map (λ e. ascii e.text) examples
unfolding report_text solution_text denominator_line feedback_line decimal delay feedback
examples_hold = refl
