-- The greatest common divisor and coprimality modulo a prime.
use Rattle.std.specs.Prelude.{◌≡◌, ℕ, ◌≤◌, ◌<◌, ◌+◌ as ◌+ₙ◌}
use Rattle.std.proofs.Common.{arith}
use Rattle.algebra.specs.Field.{Field}
use Rattle.algebra.specs.Divides.{Divides}
use Rattle.algebra.specs.Bezout.{Greatest, greatest_step}
use Rattle.algebra.specs.Polynomial.{Polynomial}
use Rattle.algebra.specs.Size
use Rattle.algebra.specs.Division
use Rattle.algebra.specs.Gcd
use Rattle.algebra.specs.Coprime
use Rattle.modular.specs.Prime.{Prime}
use Rattle.modular.specs.Residue.{Residue, residues}
use Rattle.modular.specs.Arithmetic.{Arithmetic}
use Rattle.modular.specs.Carried.{number_arithmetic, carried}

module _ {K A : Type 0} (S : Arithmetic K A) where
  open S use {ring, size, quotient, remainder, gcd, Monic, monic}
  open ring use {add as ◌+◌, mul as ◌*◌, zero as 𝟘, one as 𝟙}

  infixl 65 ◌+◌
  infixl 70 ◌*◌
  pub record GcdLaws : Type 0 where
    -- it divides both, and is a combination of them
    pub gcd_common : (x y : A) → Greatest ring x y (gcd x y)
    pub gcd_greatest : (x y d : A) → Divides ring d x → Divides ring d y → Divides ring d (gcd x y)
    pub gcd_monic : (x y : A) → 0 < size x +ₙ size y → Monic (gcd x y)
    pub gcd_unique : (x y g : A) → Monic g → Greatest ring x y g → gcd x y ≡ g
    pub gcd_comm : (x y : A) → gcd x y ≡ gcd y x
    pub size_gcd : (x y : A) → 0 < size x → size (gcd x y) ≤ size x
    -- Euclid's algorithm
    pub gcd_zero_right : (x : A) → gcd x 𝟘 ≡ monic x
    pub gcd_step : (x y : A) → 0 < size y → gcd x y ≡ gcd y (remainder x y)
    -- coprime, just where a combination is one
    pub bezout_coprime : (x y s t : A) → 𝟙 ≡ s * x + t * y → gcd x y ≡ 𝟙
    pub coprime_bezout : (x y : A) → gcd x y ≡ 𝟙 → Greatest ring x y 𝟙
    pub coprime_divides : (c d s : A) → gcd d s ≡ 𝟙 → Divides ring d (c * s) → Divides ring d c
    pub coprime_mul : (d x y : A) → gcd d x ≡ 𝟙 → gcd d y ≡ 𝟙 → gcd d (x * y) ≡ 𝟙
    pub coprime_quotients : (x y : A) → 0 < size x +ₙ size y → gcd (quotient x (gcd x y)) (quotient y (gcd x y)) ≡ 𝟙

module _ (p : ℕ) (prime : Prime p) where
  abbrev F : Field (Residue p)
  F = residues p prime

  gcd_step : (x y : Polynomial F) → 0 < Size.size F y → Gcd.gcd F x y ≡ Gcd.gcd F y (Division.remainder F x y)
  gcd_step x y h = let r = Division.remainder F x y in
      Gcd.gcd_unique F x y (Gcd.gcd F y r) (Gcd.gcd_monic F y r (omega arith))
      (greatest_step (Division.quotient F x y) (Division.division F x y h) (Gcd.gcd_common F y r))

  pub gcd_laws : GcdLaws (number_arithmetic p prime)
  gcd_laws = carried p prime (λ X S. GcdLaws S) record {
    gcd_common = Gcd.gcd_common F;
    gcd_greatest = Gcd.gcd_greatest F;
    gcd_monic = Gcd.gcd_monic F;
    gcd_unique = Gcd.gcd_unique F;
    gcd_comm = Gcd.gcd_comm F;
    size_gcd = Gcd.size_gcd F;
    gcd_zero_right = Gcd.gcd_zero_right F;
    gcd_step = gcd_step;
    bezout_coprime = Coprime.bezout_coprime F;
    coprime_bezout = Coprime.coprime_bezout F;
    coprime_divides = Coprime.coprime_divides F;
    coprime_mul = Coprime.coprime_mul F;
    coprime_quotients = Coprime.coprime_quotients F;
  }
