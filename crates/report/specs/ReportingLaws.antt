-- Every file has a report, and one only, which is written in one way and is short.
use Rattle.std.specs.Prelude.{◌≡◌, Bool, ◌||◌, List, ◌++◌, ℕ, ◌≤◌, ◌<◌, take, ltb}
use Rattle.std.proofs.Math.Path.{refl, sym, ap}
use Rattle.std.proofs.Common.{ap₂, ◌∙◌, subst, le-ltb}
use Rattle.std.proofs.Math.Bool.{true, false}
use native.Mathlib.Omega.{arith}
use Rattle.std.proofs.Math.ListN.{length, drop, length-append}
use Rattle.std.proofs.Math.Seq.{take-append_seam}
use Rattle.modular.specs.LargestPrime.{largest_modulus}
use Rattle.modular.specs.Bits.{bound8}
use Rattle.words.specs.Limits.{Limits, office}
use Rattle.words.specs.LimitsLaws.{LimitsFit, office_fits}
use Rattle.words.specs.Outcome.{Outcome, refuse, mapped}
use Rattle.words.specs.Outcome.Outcome.{accepted, refused}
use Rattle.words.specs.OutcomeLaws.{mapped_refused}
use Rattle.words.specs.System.{System, Shape, SystemWithin, shape}
use Rattle.words.specs.Systems.{Systems, SystemsWithin, systems_words, line, single, read_systems}
use Rattle.words.specs.Line.{LineIn}
use Rattle.words.proofs.LineLaws.{first_line, line_in_within}
use Rattle.words.specs.Certificate.{Certificate, CertificateWithin}
use Rattle.words.specs.Certificate.Certificate.{solution, absence}
use Rattle.words.specs.Rows.{file_rows}
use Rattle.words.specs.RowLaws.{numbers_between}
use Rattle.words.proofs.RefusedLaws.{file_rows_lem, file_place}
use Rattle.words.specs.Bytes.{words_of, bytes_of, broken, too_long, read_systems_file, read_line_file}
use Rattle.words.proofs.LineFileLaws.{line_file_within, line_file_read}
use Rattle.truth.specs.Solution.{Answer, Answers}
use Rattle.truth.specs.Chosen.{chosen_right}
use Rattle.truth.proofs.Accepted.{proper}
use Rattle.truth.proofs.Truth.{answer_unique}
use Rattle.truth.proofs.Lines.{single_line}
use Rattle.solve_meaning.specs.Answers.{answer_of, right_answers}
use Rattle.solve_meaning.specs.Existence.{office_certificate_exists, office_answer_exists}
use Rattle.report_text.specs.Text.{report_text}
use Rattle.report_text.specs.Longest.{ReportWithin, report_space}
use Rattle.report_text.proofs.LongestLaws.{report_fits}
use Rattle.solver.specs.SolvingLaws.{line_of_written}
use Rattle.report.specs.Reporting.{Reports, ReportOf, ReportGiven, GivenUnless, ReportsFile}

module _ (limits : Limits) (fit : LimitsFit limits) (file : List ℕ) where
  -- what is reported is the first line of what is read of the file, or that file's refusal: never 40
  pub first_of_file : read_line_file limits 0 file ≡ mapped (λ s. line s 0) (read_systems_file limits file)
  unfolding read_line_file read_systems_file
  first_of_file =
      ap (refuse (broken file || too_long limits file) 10 0) (first_line limits fit (words_of file))
      ∙ each (broken file || too_long limits file) (read_systems limits (words_of file))
    where
      each : (b : Bool) (o : Outcome Systems)
          → refuse b 10 0 (mapped (λ s. line s 0) o) ≡ mapped (λ s. line s 0) (refuse b 10 0 o)
      each true o = refl
      each false o = refl

  file_refused : {number place : ℕ} → read_line_file limits 0 file ≡ refused number place
      → read_systems_file limits file ≡ refused number place
  file_refused e = mapped_refused (λ s. line s 0) (read_systems_file limits file) (sym first_of_file ∙ e)

  by_outcome : (o : Outcome System) → read_line_file limits 0 file ≡ o → (t t' : List ℕ) → Reports o t → Reports o t' → t ≡ t'
  unfolding Reports
  by_outcome (refused number place) e t t' h h' = h ∙ sym h'
  by_outcome (accepted s) e t t' h h' =
      let same = answer_unique s (proper limits s (line_file_within limits 0 fit s file e)) h.0 h'.0 h.1 h'.1 in
      h.2 ∙ ap (λ a. report_text (accepted a)) same ∙ sym h'.2

  pub report_unique : (t t' : List ℕ) → ReportOf limits file t → ReportOf limits file t' → t ≡ t'
  report_unique t t' = by_outcome (read_line_file limits 0 file) refl t t'

  -- so the bytes left and their number follow from the file and the bytes lent
  module _ (entry exit exit' : List ℕ) {count count' : ℕ} where
    by_space : (b : Bool) → GivenUnless b (read_line_file limits 0 file) entry exit count
        → GivenUnless b (read_line_file limits 0 file) entry exit' count' → (exit ≡ exit') × (count ≡ count')
    unfolding GivenUnless
    by_space true g g' = (g.1 ∙ sym g'.1, g.0 ∙ sym g'.0)
    by_space false g g' =
        let same = report_unique g.text g'.text g.reports g'.reports in (
          g.written.bytes ∙ ap (λ t. t ++ drop (length t) entry) same ∙ sym g'.written.bytes,
          g.written.count ∙ ap length same ∙ sym g'.written.count,
        )

    pub reports_unique : ReportsFile limits file entry exit count → ReportsFile limits file entry exit' count'
        → (exit ≡ exit') × (count ≡ count')
    reports_unique = by_space (ltb (length entry) report_space)

-- a sheet has the report of its first line's single sheet
module _ (limits : Limits) (fit : LimitsFit limits) (s : Systems) (within : SystemsWithin limits s) where
  first_in : LineIn limits 0 (line s 0) (systems_words s)
  first_in = line_of_written limits s within 0 within.head.sides.0

  pub report_alone : (text : List ℕ) → ReportOf limits (bytes_of (systems_words s)) text
      → ReportOf limits (bytes_of (systems_words (single (line s 0)))) text
  report_alone text =
      let some : 1 ≤ limits.sides = omega (arith, within.head.sides.0, within.head.sides.1) in
      let alone = single_line limits some (line s 0) (line_in_within limits fit 0 (systems_words s) first_in) in
      subst (λ o. Reports o text)
      (line_file_read limits 0 fit (line s 0) (systems_words s) first_in
      ∙ sym (line_file_read limits 0 fit (line s 0) (systems_words (single (line s 0))) alone))

-- there is a report of every file, since every system has an answer
module _ (file : List ℕ) where
  exists_by : (o : Outcome System) → read_line_file office 0 file ≡ o → (text : List ℕ) × Reports o text
  unfolding Reports
  exists_by (refused number place) e = (report_text (refused number place), refl)
  exists_by (accepted s) e =
      let answer = office_answer_exists s (line_file_within office 0 office_fits s file e) in
      (report_text (accepted answer.0), (answer.0, answer.1, refl))

  pub report_exists : (text : List ℕ) × ReportOf office file text
  report_exists = exists_by (read_line_file office 0 file) refl

-- no report is longer than the bytes that suffice: of the denominators of a system's certificates all are the same, and one keeps
-- the limits
certificate_reported : (h : Shape) → h.modulus ≤ largest_modulus → (c : Certificate) → CertificateWithin office h c
    → ReportWithin office (accepted (answer_of c))
unfolding ReportWithin CertificateWithin answer_of
certificate_reported h most (solution d N w Z) k = record { modulus = h.modulus; most = most; within = k.denominator }
certificate_reported h most (absence q) k = tt

answer_reported : (s : System) → SystemWithin office s → (a : Answer) → Answers s a → ReportWithin office (accepted a)
answer_reported s h a answers =
    let R = office_certificate_exists s h in
    let c = R.certificate in
    let right = right_answers office s h c R.within (chosen_right s c R.chosen) in
    let same = answer_unique s (proper office s h) (answer_of c) a right answers in
    subst (λ b. ReportWithin office (accepted b)) same (certificate_reported (shape s) h.shape.modulus c R.within)

module _ (file : List ℕ) where
  number_small : (number place : ℕ) → read_line_file office 0 file ≡ refused number place → number < bound8
  number_small number place e =
      let row = (file_rows_lem office file).in_rows number place (file_refused office office_fits file e) in
      omega (arith, numbers_between number place 1 10 (file_rows (words_of file)) refl row)

  short_by : (o : Outcome System) → read_line_file office 0 file ≡ o → (text : List ℕ) → Reports o text → length text ≤ report_space
  unfolding Reports ReportWithin
  short_by (refused number place) e text r =
      omega (
        arith,
        ap length r,
        report_fits (refused number place)
            (number_small number place e, omega (arith, file_place office file (file_refused office office_fits file e))),
      )
  short_by (accepted s) e text r =
      omega (
        arith,
        ap length r.2,
        report_fits (accepted r.0) (answer_reported s (line_file_within office 0 office_fits s file e) r.0 r.1),
      )

  pub report_short : (text : List ℕ) → ReportOf office file text → length text ≤ report_space
  report_short = short_by (read_line_file office 0 file) refl

  module _ (entry exit : List ℕ) {count : ℕ} where
    count_by : (b : Bool) → GivenUnless b (read_line_file office 0 file) entry exit count → count ≤ report_space
    unfolding GivenUnless
    count_by true g = omega (arith, g.0)
    count_by false g = omega (arith, g.written.count, report_short g.text g.reports)

    pub reports_short : ReportsFile office file entry exit count → count ≤ report_space
    reports_short = count_by (ltb (length entry) report_space)

-- the report is among the lent bytes
module _ (entry exit : List ℕ) {count : ℕ} where
  by_lent : (b : Bool) (o : Outcome System) → GivenUnless b o entry exit count → count ≤ length exit
  unfolding GivenUnless
  by_lent true o g = omega (arith, g.0)
  by_lent false o g =
      omega (arith, g.written.count, ap length g.written.bytes, length-append g.text (drop (length g.text) entry))

  pub reports_most : (limits : Limits) (file : List ℕ) → ReportsFile limits file entry exit count → count ≤ length exit
  reports_most limits file = by_lent (ltb (length entry) report_space) (read_line_file limits 0 file)

-- what was written is the first of the lent bytes
pub given_text : {o : Outcome System} {entry exit : List ℕ} {count : ℕ} → ReportGiven o entry exit count
    → Reports o (take count exit)
given_text {o} {entry} g =
    let first = ap₂ take g.written.count g.written.bytes in
    subst (Reports o) (sym (first ∙ take-append_seam g.text (drop (length g.text) entry))) g.reports

-- so where bytes enough are lent, they are the report
pub reports_text : (limits : Limits) (file entry exit : List ℕ) (count : ℕ) → report_space ≤ length entry
    → ReportsFile limits file entry exit count
    → ReportOf limits file (take count exit)
unfolding GivenUnless
reports_text limits file entry exit count room h =
    given_text
    (subst
    (λ b. GivenUnless b (read_line_file limits 0 file) entry exit count)
    (le-ltb (length entry) report_space room)
    h)
