-- Monic polynomials modulo a prime: each that is not zero has one monic associate.
use Rattle.std.specs.Prelude.{◌≡◌, ℕ, ◌<◌}
use Rattle.algebra.specs.Field.{Field}
use Rattle.algebra.specs.Divides.{Divides}
use Rattle.algebra.specs.Monic
use Rattle.modular.specs.Prime.{Prime}
use Rattle.modular.specs.Residue.{Residue, residues}
use Rattle.modular.specs.Arithmetic.{Arithmetic}
use Rattle.modular.specs.Carried.{number_arithmetic, carried}

module _ {K A : Type 0} (S : Arithmetic K A) where
  open S use {ring, size, Monic, monic}
  open ring use {mul as ◌*◌, zero as 𝟘, one as 𝟙}

  infixl 70 ◌*◌
  pub record MonicLaws : Type 0 where
    pub monic_zero : monic 𝟘 ≡ 𝟘
    pub monic_nonzero : (x : A) → Monic x → ¬ (x ≡ 𝟘)
    pub monic_positive : (x : A) → Monic x → 0 < size x
    pub monic_one : Monic 𝟙
    pub monic_monic : (x : A) → 0 < size x → Monic (monic x)
    pub monic_same : (x : A) → Monic x → monic x ≡ x
    pub monic_mul : (x y : A) → Monic x → Monic y → Monic (x * y)
    pub monic_cofactor : (x y : A) → Monic x → Monic (x * y) → Monic y
    pub monic_unit : (x : A) → Monic x → size x ≡ 1 → x ≡ 𝟙
    -- x and its monic associate divide each other, and monic polynomials that do are equal
    pub divides_monic : (x : A) → Divides ring x (monic x)
    pub monic_divides : (x : A) → Divides ring (monic x) x
    pub monic_associates : (x y : A) → Monic x → Monic y → Divides ring x y → Divides ring y x → x ≡ y

module _ (p : ℕ) (prime : Prime p) where
  abbrev F : Field (Residue p)
  F = residues p prime

  pub monic_laws : MonicLaws (number_arithmetic p prime)
  monic_laws = carried p prime (λ X S. MonicLaws S) record {
    monic_zero = Monic.monic_zero F;
    monic_nonzero = Monic.monic_nonzero F;
    monic_positive = Monic.monic_positive F;
    monic_one = Monic.monic_one F;
    monic_monic = Monic.monic_monic F;
    monic_same = Monic.monic_same F;
    monic_mul = Monic.monic_mul F;
    monic_cofactor = Monic.monic_cofactor F;
    monic_unit = Monic.monic_unit F;
    divides_monic = Monic.divides_monic F;
    monic_divides = Monic.monic_divides F;
    monic_associates = Monic.monic_associates F;
  }
