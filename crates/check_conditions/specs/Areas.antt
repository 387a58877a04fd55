-- The areas that the check works on: the polynomials of a system and of a certificate that were read, a slot for each, and the
-- values that they stand for. The limits are the office's.
use Rattle.std.specs.Prelude.{List, ℕ, ◌+◌, ◌*◌, ◌≤◌, ◌<◌}
use Rattle.words.specs.Limits.{office}
use Rattle.residue.specs.Modulus.{ValidModulus, valid_modulus}
use Rattle.words.specs.System.{System}
use Rattle.truth.specs.Listed.{listed}
use Rattle.loader.specs.Slot.{slot, SlotFilled}
use Rattle.loader.specs.Widths.{system_width, certificate_width}
use Rattle.check_conditions.specs.declared.dimensions.Dimensions.{Dimensions}

-- ---- values

-- A row by row, then b
unfoldable pub system_in_slots : Dimensions → List ℕ → System
unfolding listed slot
system_in_slots l area = record {
  modulus = l.modulus.p;
  rows = l.rows;
  columns = l.columns;
  matrix = listed (l.rows * l.columns) (slot system_width area);
  side = listed l.rows (λ i. slot system_width area (l.rows * l.columns + i));
}

-- so many polynomials of a certificate, from one on
unfoldable pub vector_in : ℕ → ℕ → List ℕ → List (List ℕ)
unfolding listed slot
vector_in count start area = listed count (λ k. slot certificate_width area (start + k))

-- d, N, w, Z
abbrev pub denominator_in : List ℕ → List ℕ
denominator_in area = slot certificate_width area 0

abbrev pub numerators_in : Dimensions → List ℕ → List (List ℕ)
numerators_in l area = vector_in l.columns 1 area

abbrev pub certifying_denominator_in : Dimensions → List ℕ → List ℕ
certifying_denominator_in l area = slot certificate_width area (l.columns + 1)

abbrev pub certifying_numerators_in : Dimensions → List ℕ → List (List ℕ)
certifying_numerators_in l area = vector_in l.rows (l.columns + 2) area

-- ---- what makes them sound

pub record ValidDimensions (l : Dimensions) : Type 0 where
  pub modulus : ValidModulus l.modulus
  pub rows : l.rows ≤ office.rows
  pub columns : l.columns ≤ office.columns

-- all that there are
pub valid_dimensions : (l : Dimensions) → ValidDimensions l
valid_dimensions l = record { modulus = valid_modulus l.modulus; rows = l.within.0; columns = l.within.1 }

-- so many polynomials stand in the certificate's area
pub record CertificateLoaded (l : Dimensions) (count : ℕ) (C : List ℕ) : Type 0 where
  pub dimensions : ValidDimensions l
  pub filled : (k : ℕ) → k < count → SlotFilled l.modulus.p certificate_width C k

-- and all of A and b in the system's
pub record Loaded (l : Dimensions) (count : ℕ) (S C : List ℕ) : Type 0 where
  pub certificate : CertificateLoaded l count C
  pub system : (k : ℕ) → k < l.rows * l.columns + l.rows → SlotFilled l.modulus.p system_width S k
