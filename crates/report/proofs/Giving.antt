-- The report of a refusal, of a certificate in memory, and of a file.
use mathlib.Core.Path.{◌≡◌, refl, sym, ap, ◌∙◌, subst}
use mathlib.Core.Bool.{Bool, true, false}
use mathlib.Core.List.{List}
use Prim.Native.Nat.{ℕ, ◌≤◌, ◌<◌}
use native.Mathlib.Omega.{arith}
use lib.ListN.{length, take}
use borrow.Author.Tests.{lt-ltb, le-ltb}
use Rattle.words.specs.Limits.{office}
use Rattle.words.specs.LimitsLaws.{office_fits}
use Rattle.words.specs.Outcome.{Outcome}
use Rattle.words.specs.Outcome.Outcome.{accepted, refused}
use Rattle.words.specs.System.{System, Shape, shape}
use Rattle.words.specs.Systems.{read_line}
use Rattle.words.proofs.LineLaws.{line_in_within, line_written_of_read}
use Rattle.words.specs.Certificate.{form_when}
use Rattle.words.specs.Bytes.{read_line_file}
use Rattle.truth.specs.Solution.{Answer, Answers}
use Rattle.truth.specs.Solution.Answer.{least, none}
use Rattle.solve_lattice.specs.Output.{ValidOutput}
use Rattle.solve_meaning.specs.Taken.{taken_polynomial, taken_certificate}
use Rattle.solve_meaning.specs.Answers.{answer_of}
use Rattle.report_text.specs.Text.{report_text}
use Rattle.report_text.specs.Longest.{DenominatorWithin, report_space}
use Rattle.report_text.specs.Written.{Written}
use Rattle.solve_meaning.specs.TakenLaws.{polynomial_within}
use Rattle.writer.specs.Output.{size_in}
use Rattle.writer.specs.OutputLaws.{size_most}
use Rattle.solver.specs.Certified.{Read, CertifiedOutput, CertifiedRead, certified_at}
use Rattle.solver.specs.OutputLaws.{taken_part}
use Rattle.report.specs.Reporting.{Reports, ReportGiven, GivenUnless, ReportsFile}

module _ {entry exit : List ℕ} {count : ℕ} where
  pub given_refused : {o : Outcome System} (number place : ℕ) → o ≡ refused number place
      → Written (report_text (refused number place)) entry exit count → ReportGiven o entry exit count
  unfolding Reports
  given_refused number place e w = record {
    text = report_text (refused number place);
    reports = subst (λ o. Reports o (report_text (refused number place))) (sym e) refl;
    written = w;
  }

  given_accepted : {o : Outcome System} (s : System) → o ≡ accepted s → (a : Answer) → Answers s a
      → Written (report_text (accepted a)) entry exit count → ReportGiven o entry exit count
  unfolding Reports
  given_accepted s e a answers w = record {
    text = report_text (accepted a);
    reports = subst (λ o. Reports o (report_text (accepted a))) (sym e) (a, answers, refl);
    written = w;
  }

-- ---- a certificate in memory

module _ {h : Shape} {ws : List ℕ} (R : Read h 0 ws) (output : List ℕ) (solved : Bool)
    (certified : CertifiedRead (read_line office 0 ws) output solved) where
  held : CertifiedOutput R.system output solved
  held = certified_at R.read certified

  valid : ValidOutput R.system.modulus output
  valid = held.valid

  -- d is the first of its polynomials
  module _ {n : ℕ} (size : n ≡ size_in output 0) where
    pub size_inside : n ≤ length output
    size_inside = omega (arith, size, size_most output 0 office.certificate_coefficients, valid.room)

    d_is : taken_polynomial R.system.modulus output 0 ≡ take n output
    d_is =
        taken_part R.system.modulus output valid.below 0 (omega (arith, size, size_inside))
        ∙ ap (λ (k : ℕ). take k output) (sym size)

    pub d_within : DenominatorWithin office (take n output)
    d_within = subst (DenominatorWithin office) d_is (record {
      modulus = R.system.modulus;
      most = (line_in_within office office_fits 0 ws (line_written_of_read office office_fits 0 ws R.read)).shape.modulus;
      within = polynomial_within R.system.modulus (let b = valid.below 0 in omega arith) output 0;
    })

  module _ {entry exit : List ℕ} {count : ℕ} where
    -- d, or that there is none
    by_answer : (a : Answer) → answer_of (taken_certificate (shape R.system) (form_when solved) output) ≡ a
        → Written (report_text (accepted a)) entry exit count → ReportGiven (read_line office 0 ws) entry exit count
    by_answer a e w =
        given_accepted R.system R.read a (subst (Answers R.system) e held.answers) w

    pub given_solution : solved ≡ true → {n : ℕ} → n ≡ size_in output 0
        → Written (report_text (accepted (least (take n output)))) entry exit count
        → ReportGiven (read_line office 0 ws) entry exit count
    unfolding answer_of taken_certificate form_when
    given_solution e {n} size w =
        by_answer (least (take n output))
        (ap (λ b. answer_of (taken_certificate (shape R.system) (form_when b) output)) e ∙ ap least (d_is size)) w

    pub given_none : solved ≡ false → Written (report_text (accepted none)) entry exit count
        → ReportGiven (read_line office 0 ws) entry exit count
    unfolding answer_of taken_certificate form_when
    given_none e w = by_answer none (ap (λ b. answer_of (taken_certificate (shape R.system) (form_when b) output)) e) w

-- ---- a file

module _ (file : List ℕ) {entry exit : List ℕ} {count : ℕ} where
  pub file_short : length entry < report_space → count ≡ 0 → exit ≡ entry → ReportsFile office file entry exit count
  unfolding GivenUnless
  file_short h n e =
      subst (λ b. GivenUnless b (read_line_file office 0 file) entry exit count) (sym (lt-ltb (length entry) report_space h)) (n, e)

  pub file_given : report_space ≤ length entry → ReportGiven (read_line_file office 0 file) entry exit count
      → ReportsFile office file entry exit count
  unfolding GivenUnless
  file_given room g =
      subst (λ b. GivenUnless b (read_line_file office 0 file) entry exit count) (sym (le-ltb (length entry) report_space room)) g
