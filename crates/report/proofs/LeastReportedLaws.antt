-- The report says the least denominator, and the least feedback and delay, of every system that is read.
use Rattle.std.specs.Prelude.{ℕ, ◌≡◌, List}
use Rattle.std.proofs.Math.Path.{ap}
use Rattle.std.proofs.Common.{◌∙◌, subst}
use Rattle.modular.specs.Delay.{delay, undelayed, feedback}
use Rattle.words.specs.Limits.{Limits}
use Rattle.words.specs.LimitsLaws.{LimitsFit}
use Rattle.words.specs.Outcome.Outcome.{accepted}
use Rattle.words.specs.System.{System}
use Rattle.words.specs.Certificate.{Certificate}
use Rattle.words.specs.Bytes.{read_line_file}
use Rattle.words.proofs.LineFileLaws.{line_file_within}
use Rattle.truth.specs.Solution.{Answer, Answers}
use Rattle.truth.specs.Solution.Answer.{none, least}
use Rattle.truth.specs.Lift.{Proper}
use Rattle.truth.proofs.Truth.{answer_unique}
use Rattle.truth.proofs.Accepted.{proper}
use Rattle.truth.specs.Demand.{True}
use Rattle.truth.proofs.FeedbackLaws.{taken_out, monic_nonzero, answer_least}
use Rattle.solve_meaning.specs.Answers.{answer_of, true_answers}
use Rattle.report_text.specs.Text.{report_text}
use Rattle.report.specs.Reporting.{Reports, ReportOf}
use Rattle.report.specs.LeastReported.{ReportSays}

module _ (s : System) (P : Proper s) (text : List ℕ) (reports : Reports (accepted s) text) where
  by_answer : (a : Answer) → Answers s a → text ≡ report_text (accepted a) → ReportSays s text
  unfolding Answers report_text feedback
  by_answer none A t = ReportSays.unsolved t A
  by_answer (least d) A t = ReportSays.solved (record {
    denominator = d;
    factors = delay d;
    left = undelayed d;
    says = t;
    least_denominator = A;
    taken = taken_out s.modulus P.prime d A.canonical (monic_nonzero s.modulus d A.monic);
    least_both = answer_least s P.prime d A;
  })

  pub report_says : ReportSays s text
  unfolding Reports
  report_says = by_answer reports.0 reports.1 reports.2

  -- what a certificate says that tells the truth of the system: the report has its kind, and its denominator with the feedback and
  -- the delay of that
  pub report_of_certificate : (c : Certificate) → True s c → text ≡ report_text (accepted (answer_of c))
  unfolding Reports
  report_of_certificate c t =
      let same = answer_unique s P reports.0 (answer_of c) reports.1 (true_answers s c t) in
      reports.2 ∙ ap (λ a. report_text (accepted a)) same

-- of a file
pub file_says : (limits : Limits) → LimitsFit limits → (file : List ℕ) {s : System} → read_line_file limits 0 file ≡ accepted s
    → (text : List ℕ) → ReportOf limits file text → ReportSays s text
file_says limits fit file {s} read text report =
    report_says s (proper limits s (line_file_within limits 0 fit s file read)) text (subst (λ o. Reports o text) read report)
