-- No report is longer than the definition says, so the bytes that callers lend suffice.
use Rattle.std.specs.Prelude.{ℕ, zero, suc, ◌+◌, ◌-◌, ◌*◌, ◌≤◌, ◌<◌, ◌≡◌, refl, List, [], ◌∷◌, map, length, replicate}
use Rattle.std.proofs.Common.{arith, length-append}
use Rattle.std.proofs.Math.Decide.{dec_lt}
use Rattle.modular.specs.LargestPrime.{largest_modulus}
use Rattle.modular.specs.Canonical.{Canonical}
use Rattle.modular.specs.Delay.{delay, feedback}
use Rattle.modular.proofs.DelayLaws.{length_undelayed}
use Rattle.words.specs.Limits.{Limits, office}
use Rattle.words.specs.Outcome.{Outcome}
use Rattle.words.specs.Outcome.Outcome.{accepted, refused}
use Rattle.truth.specs.Solution.{Answer}
use Rattle.truth.specs.Solution.Answer.{none, least}
use Rattle.report_text.specs.Decimal.{decimal}
use Rattle.report_text.specs.DecimalLaws.{decimal_length}
use Rattle.report_text.specs.Text.{all_spaced, denominator_line, feedback_line, solution_text, report_text}
use Rattle.report_text.specs.Longest.{DenominatorWithin, ReportWithin, longest_report, report_space}

-- a factor x is a coefficient 0, which takes four bytes less
coefficients_length : (p : ℕ) → p ≤ largest_modulus → (d : List ℕ) → Canonical p d
    → length (all_spaced (map decimal d)) + 4 * delay d ≤ 6 * length d
unfolding Canonical delay
coefficients_length p h [] c = omega arith
coefficients_length p h (zero ∷ d) c =
    let ih = coefficients_length p h d c.2 in
    let digits = decimal_length 0 0 (omega arith) in
    simp length-append (omega arith)
coefficients_length p h (suc a ∷ d) c =
    let ih = coefficients_length p h d c.2 in
    let digits = decimal_length 4 (suc a) (omega arith) in
    simp length-append (omega arith)

denominator_length : (limits : Limits) (d : List ℕ) → DenominatorWithin limits d
    → length (denominator_line d) + 4 * delay d ≤ 12 + 6 * limits.certificate_coefficients
unfolding denominator_line
denominator_length limits d h =
    let each = coefficients_length h.modulus h.most d h.within.canonical in
    let size = h.within.size in
    simp length-append (omega arith)

-- so many coefficients, at most: the feedback has three digits
abbrev most_reported : ℕ
most_reported = 1000

short_decimal : (n : ℕ) → n ≤ most_reported → length (decimal n) ≤ 1 + n
short_decimal n h = go (dec_lt n 10)
  where
    go : Dec (n < 10) → length (decimal n) ≤ 1 + n
    go (yes l) = let one = decimal_length 0 n (omega arith) in omega arith
    go (no l) = let four = decimal_length 3 n (omega arith) in omega arith

feedback_length : (d : List ℕ) → length d ≤ most_reported → length (feedback_line (feedback d) (delay d)) ≤ 21 + delay d
unfolding feedback_line feedback
feedback_length d h =
    let parts = length_undelayed d in
    let first = decimal_length 2 (feedback d) (omega arith) in
    let second = short_decimal (delay d) (omega arith) in
    simp length-append (omega arith)

-- no report within the limits is longer
pub report_length : (limits : Limits) → limits.certificate_coefficients ≤ most_reported → (o : Outcome Answer)
    → ReportWithin limits o → length (report_text o) ≤ longest_report limits
unfolding ReportWithin report_text solution_text
report_length limits small (accepted none) h = omega arith
report_length limits small (accepted (least d)) h =
    let second = denominator_length limits d h in
    let size = h.within.size in
    let third = feedback_length d (omega arith) in
    simp length-append (omega arith)
report_length limits small (refused number place) h =
    let first = decimal_length 2 number (omega arith) in
    let second = decimal_length 19 place (omega arith) in
    simp length-append (omega arith)

-- 775 bytes, which some list of the most coefficients takes
longest_reached : length (report_text (accepted (least (replicate office.certificate_coefficients (largest_modulus - 1)))))
    ≡ longest_report office
unfolding report_text solution_text denominator_line feedback_line decimal delay feedback
longest_reached = refl

pub report_fits : (o : Outcome Answer) → ReportWithin office o → length (report_text o) ≤ report_space
report_fits o h = let longest = report_length office (omega arith) o h in omega arith
