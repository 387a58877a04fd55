-- What the writers refuse, said without trying (document 01, "Turned back"): "p, n and m, tried first (2, then 3, at 0). The first
-- value at fault in written order decides, .., at the place its word would have; after these comes 11." Before all of these a
-- sheet's writer tries the number of right sides: 1, "place 0, tried first" (document 02, item 1).
use Rattle.std.specs.Prelude.{◌≡◌, List, ℕ, ◌≤◌, ◌<◌}
use Rattle.modular.specs.LargestPrime.{largest_modulus}
use Rattle.modular.specs.Prime.{Prime}
use Rattle.words.specs.Limits.{Limits, longest_system, longest_certificate}
use Rattle.words.specs.Polynomial.{AllWithin}
use Rattle.words.specs.System.{Shape, ShapeWithin}
use Rattle.words.specs.Systems.{Systems, systems_entries}
use Rattle.words.specs.Certificate.{Certificate, certificate_entries}
use Rattle.write_frame.specs.Fault.{ValueFault}

-- not a "number of right sides outside 1 to 8"
abbrev pub MayBeSides : Limits → ℕ → Type 0
MayBeSides limits sides = (1 ≤ sides) × (sides ≤ limits.sides)

-- "p: any prime from 2 to 65,521"
abbrev pub MayBeModulus : ℕ → Type 0
MayBeModulus p = Prime p × (p ≤ largest_modulus)

-- "Rows and columns: 1 to 8 each"
abbrev pub MayBeSizes : Limits → Shape → Type 0
MayBeSizes limits h =
    ((1 ≤ h.rows) × (h.rows ≤ limits.rows)) × ((1 ≤ h.columns) × (h.columns ≤ limits.columns))

-- Of a shape and polynomials of at most so many coefficients, where so many words are lent for a longest form: refusals of
-- polynomials have numbers that are greater by so many.
pub data WriterFault (limits : Limits) (h : Shape) (limit by longest lent : ℕ) (fs : List (List ℕ)) (number place : ℕ)
    : Type 0 where
  modulus : ¬ MayBeModulus h.modulus → number ≡ 2 → place ≡ 0 → WriterFault limits h limit by longest lent fs number place
  sizes : MayBeModulus h.modulus → ¬ MayBeSizes limits h → number ≡ 3 → place ≡ 0
      → WriterFault limits h limit by longest lent fs number place
  value : ShapeWithin limits h → ValueFault h.modulus limit by fs number place
      → WriterFault limits h limit by longest lent fs number place
  room : ShapeWithin limits h → AllWithin h.modulus limit fs → lent < longest → number ≡ 11 → place ≡ 0
      → WriterFault limits h limit by longest lent fs number place

-- of a matrix with right sides: 1; then 2, 3, 6 to 8 in A and in one right side after another, 11
pub data SystemFault (limits : Limits) (lent : ℕ) (s : Systems) (number place : ℕ) : Type 0 where
  sides : ¬ MayBeSides limits s.head.sides → number ≡ 1 → place ≡ 0 → SystemFault limits lent s number place
  others : MayBeSides limits s.head.sides
      → WriterFault limits s.head.shape limits.system_coefficients 0 (longest_system limits) lent (systems_entries s) number
      place
      → SystemFault limits lent s number place

-- of a certificate for a system of that shape: 2, 3, 26 to 28, 11
abbrev pub CertificateFault : Limits → ℕ → Shape → Certificate → ℕ → ℕ → Type 0
CertificateFault limits lent h c =
    WriterFault limits h limits.certificate_coefficients 20 (longest_certificate limits) lent (certificate_entries c)
