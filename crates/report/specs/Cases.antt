-- The reports of document 01's systems to try: in one table each system's report, which is the only one. Behind it, of a system with
-- feedback and delay, and of five bytes.
use Rattle.std.specs.Prelude.{ℕ, ◌≡◌, refl, List, [], ◌∷◌, map, replicate, take}
use Prim.Native.String.{String}
use Rattle.std.proofs.Common.{sym, ap, subst}
use Rattle.modular.specs.Delay.{delay, feedback}
use Rattle.words.specs.Limits.{office}
use Rattle.words.specs.LimitsLaws.{office_fits}
use Rattle.words.specs.Outcome.{Outcome}
use Rattle.words.specs.Outcome.Outcome.{accepted}
use Rattle.words.specs.Systems.{systems_words, single}
use Rattle.words.specs.System.{System}
use Rattle.words.specs.Certificate.{certificate_words}
use Rattle.words.specs.Certificate.Certificate.{solution}
use Rattle.words.proofs.LineLaws.{line_written_of_read}
use Rattle.words.specs.Bytes.{bytes_of, read_line_file}
use Rattle.words.proofs.LineFileLaws.{line_file_read}
use Rattle.truth.specs.Verdict.{verdict}
use Rattle.truth.proofs.Cases.{Case, CaseOutcome, cases, case_outcome, case_row, over, 𝟙, x²+x, wanted, row_true}
use Rattle.solve_meaning.specs.Answers.{answer_of, true_answers}
use Rattle.report_text.specs.Ascii.{ascii}
use Rattle.report_text.specs.Decimal.{decimal}
use Rattle.report_text.specs.Text.{denominator_line, feedback_line, solution_text, report_text}
use Rattle.report.specs.Reporting.{Reports, ReportOf}
use Rattle.report.specs.ReportingLaws.{report_unique}

-- that text and no other
pub record Reported (file text : List ℕ) : Type 0 where
  pub report : ReportOf office file text
  pub only : (t : List ℕ) → ReportOf office file t → t ≡ text

reported : {file text : List ℕ} → ReportOf office file text → Reported file text
reported {file} {text} h = record { report = h; only = λ t k. report_unique office office_fits file t text k h }

-- ---- systems

pub record Example : Type 0 where
  pub case : Case
  pub text : String

abbrev pub with_texts : List Case → List String → List Example
with_texts [] texts = []
with_texts (c ∷ cs) [] = []
with_texts (c ∷ cs) (t ∷ ts) = record { case = c; text = t } ∷ with_texts cs ts

-- cases 1 to 8; 9 and 10 have case 1's system
abbrev pub examples : List Example
examples = with_texts (take 8 cases)
    ("answer solution\ndenominator 0 1\nfeedback 0 delay 1\n"
    ∷ "answer solution\ndenominator 1\nfeedback 0 delay 0\n"
    ∷ "answer none\n"
    ∷ "answer solution\ndenominator 1\nfeedback 0 delay 0\n"
    ∷ "answer none\n"
    ∷ "answer solution\ndenominator 1\nfeedback 0 delay 0\n"
    ∷ "answer solution\ndenominator 0 1\nfeedback 0 delay 1\n"
    ∷ "answer solution\ndenominator 0 0 1\nfeedback 0 delay 2\n"
    ∷ [])

-- the one proposition over all rows
abbrev pub AllReported : List Example → Type 0
AllReported [] = Unit {0}
AllReported (e ∷ es) = Reported (bytes_of (systems_words (single e.case.system))) (ascii e.text) × AllReported es

-- what is computed of a row
record Shown : Type 0 where
  outcome : CaseOutcome
  verdict : Outcome (Unit {0})
  text : List ℕ

abbrev shown : Example → Shown
shown e = record {
  outcome = case_outcome e.case;
  verdict = e.case.expected;
  text = report_text (accepted (answer_of e.case.certificate));
}

abbrev due : Example → Shown
due e = record { outcome = wanted e.case; verdict = accepted tt; text = ascii e.text }

-- a certificate that the check accepts gives the answer, and so the report
row_reported : (e : Example) → shown e ≡ due e → Reported (bytes_of (systems_words (single e.case.system))) (ascii e.text)
unfolding Reports
row_reported e r =
    let s = e.case.system in
    let c = e.case.certificate in
    let row = ap (λ x. x.outcome) r in
    let ws = systems_words (single s) in
    let written = line_written_of_read office office_fits 0 ws (ap (λ t. t.system) row) in
    reported (subst (λ o. Reports o (ascii e.text)) (sym (line_file_read office 0 office_fits s ws written)) (
      answer_of c,
      true_answers s c (row_true e.case row (ap (λ x. x.verdict) r)),
      sym (ap (λ x. x.text) r),
    ))

rows_reported : (es : List Example) → map shown es ≡ map due es → AllReported es
rows_reported [] h = tt
rows_reported (e ∷ es) h = (row_reported e cc, rows_reported es cc)

pub examples_reported : AllReported examples
unfolding cases verdict systems_words single certificate_words answer_of report_text solution_text denominator_line feedback_line decimal
    delay feedback
examples_reported = rows_reported examples refl

-- "Fed case 1 it prints, whole", and by document 02, item 2, "case 1 ends "feedback 0 delay 1""
pub case_1_reported : Reported
    (0x02 ∷ 0x00 ∷ 0x11 ∷ 0x10
    ∷ 0x02 ∷ 0x00 ∷ 0x00 ∷ 0x20 ∷ 0x00 ∷ 0x00 ∷ 0x00 ∷ 0x30 ∷ 0x01 ∷ 0x00 ∷ 0x00 ∷ 0x30
    ∷ 0x01 ∷ 0x00 ∷ 0x00 ∷ 0x20 ∷ 0x01 ∷ 0x00 ∷ 0x00 ∷ 0x30
    ∷ 0x07 ∷ 0x00 ∷ 0x00 ∷ 0x40 ∷ [])
    (ascii "answer solution\ndenominator 0 1\nfeedback 0 delay 1\n")
unfolding cases systems_words single bytes_of
case_1_reported = examples_reported.0

-- feedback and delay both: x² + x is x·(x + 1)
abbrev pub both_system : System
both_system = over 2 1 1 (x²+x ∷ []) (𝟙 ∷ [])

pub both_reported : Reported (bytes_of (systems_words (single both_system)))
    (ascii "answer solution\ndenominator 0 1 1\nfeedback 1 delay 1\n")
unfolding verdict systems_words single certificate_words answer_of report_text solution_text denominator_line feedback_line decimal delay
    feedback
both_reported =
    row_reported (record {
      case = case_row both_system (solution x²+x (𝟙 ∷ []) x²+x (𝟙 ∷ [])) (accepted tt);
      text = "answer solution\ndenominator 0 1 1\nfeedback 1 delay 1\n";
    }) refl

-- ---- a refusal

-- 10: "five bytes"
pub five_bytes_reported : Reported (replicate 5 0) (ascii "refused 10 at 0\n")
unfolding Reports read_line_file report_text decimal
five_bytes_reported = reported refl
