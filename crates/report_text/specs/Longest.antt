-- How long a report can be, so that whoever lends bytes for one knows how many suffice.
use Rattle.std.specs.Prelude.{ℕ, ◌+◌, ◌*◌, ◌≤◌, ◌<◌, List}
use Rattle.modular.specs.LargestPrime.{largest_modulus}
use Rattle.modular.specs.Bits.{bound8, bound64}
use Rattle.words.specs.Limits.{Limits}
use Rattle.words.specs.Polynomial.{Within}
use Rattle.words.specs.Outcome.{Outcome}
use Rattle.words.specs.Outcome.Outcome.{accepted, refused}
use Rattle.truth.specs.Solution.{Answer}
use Rattle.truth.specs.Solution.Answer.{none, least}

-- a denominator modulo some p up to the largest
pub record DenominatorWithin (limits : Limits) (d : List ℕ) : Type 0 where
  pub modulus : ℕ
  pub most : modulus ≤ largest_modulus
  pub within : Within modulus limits.certificate_coefficients d

-- what is reported within the limits. A refusal's number fits 8 bits and its place 64.
unfoldable pub ReportWithin : Limits → Outcome Answer → Type 0
ReportWithin limits (accepted none) = Unit {0}
ReportWithin limits (accepted (least d)) = DenominatorWithin limits d
ReportWithin limits (refused number place) = (number < bound8) × (place < bound64)

-- the labels, feedback and delay, and the line ends take 49 bytes; a coefficient takes a space and up to five digits. Where the
-- delay takes more than one digit there are as many coefficients 0, of one digit each.
abbrev pub longest_report : Limits → ℕ
longest_report limits = 49 + 6 * limits.certificate_coefficients

-- bytes that always suffice
abbrev pub report_space : ℕ
report_space = 1024
