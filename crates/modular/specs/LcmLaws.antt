-- The least common multiple modulo a prime.
use Rattle.std.specs.Prelude.{◌≡◌, ℕ, ◌≤◌, ◌+◌ as ◌+ₙ◌}
use Rattle.algebra.specs.Field.{Field}
use Rattle.algebra.specs.Divides.{Divides}
use Rattle.algebra.specs.Lcm
use Rattle.algebra.specs.Lcm.{LeastMultiple}
use Rattle.modular.specs.Prime.{Prime}
use Rattle.modular.specs.Residue.{Residue, residues}
use Rattle.modular.specs.Arithmetic.{Arithmetic}
use Rattle.modular.specs.Carried.{number_arithmetic, carried}

module _ {K A : Type 0} (S : Arithmetic K A) where
  open S use {ring, size, quotient, gcd, Monic}
  open ring use {mul as ◌*◌, zero as 𝟘}

  infixl 70 ◌*◌
  abbrev pub lcm : A → A → A
  lcm x y = quotient x (gcd x y) * y

  pub record LcmLaws : Type 0 where
    -- both divide it, and it divides whatever both divide
    pub lcm_common : (x y : A) → LeastMultiple ring x y (lcm x y)
    pub lcm_gcd : (x y : A) → lcm x y * gcd x y ≡ x * y
    pub lcm_monic : (x y : A) → Monic x → Monic y → Monic (lcm x y)
    pub lcm_unique : (x y l : A) → Monic x → Monic y → Monic l → LeastMultiple ring x y l → lcm x y ≡ l
    pub size_lcm : (x y : A) → Monic x → Monic y → size (lcm x y) +ₙ size (gcd x y) ≡ size x +ₙ size y
    pub size_lcm_le : (x y c : A) → Divides ring x c → Divides ring y c → ¬ (c ≡ 𝟘) → size (lcm x y) ≤ size c

module _ (p : ℕ) (prime : Prime p) where
  abbrev F : Field (Residue p)
  F = residues p prime

  pub lcm_laws : LcmLaws (number_arithmetic p prime)
  lcm_laws = carried p prime (λ X S. LcmLaws S) record {
    lcm_common = Lcm.lcm_common F;
    lcm_gcd = Lcm.lcm_gcd F;
    lcm_monic = Lcm.lcm_monic F;
    lcm_unique = Lcm.lcm_unique F;
    size_lcm = Lcm.size_lcm F;
    size_lcm_le = Lcm.size_lcm_le F;
  }
