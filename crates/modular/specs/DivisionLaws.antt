-- Division with remainder and divisibility of polynomials modulo a prime.
use Rattle.std.specs.Prelude.{◌≡◌, ℕ, suc, ◌-◌, ◌≤◌, ◌<◌, ◌+◌ as ◌+ₙ◌}
use Rattle.std.proofs.Common.{ap, arith}
use Rattle.std.proofs.Math.Decide.{dec_lt}
use Rattle.ring.specs.Ring.{Ring}
use Rattle.algebra.specs.Field.{Field}
use Rattle.algebra.specs.Sized.{Sized, size_longer, size_mul_le}
use Rattle.algebra.specs.Size
use Rattle.algebra.specs.Divides.{Divides}
use Rattle.algebra.specs.Division
use Rattle.algebra.specs.Exact
use Rattle.modular.specs.Prime.{Prime}
use Rattle.modular.specs.Residue.{Residue, residues}
use Rattle.modular.specs.Arithmetic.{Arithmetic}
use Rattle.modular.specs.Carried.{number_arithmetic, carried}

module _ {K A : Type 0} (S : Arithmetic K A) where
  open S use {ring, size, quotient, remainder}
  open ring use {add as ◌+◌, mul as ◌*◌, zero as 𝟘}

  infixl 65 ◌+◌
  infixl 70 ◌*◌
  pub record DivisionLaws : Type 0 where
    pub division : (x d : A) → 0 < size d → x ≡ quotient x d * d + remainder x d
    pub size_remainder : (x d : A) → 0 < size d → size (remainder x d) < size d
    pub size_quotient : (x d : A) → 0 < size d → size d ≤ size x → size (quotient x d) +ₙ size d ≡ suc (size x)
    pub remainder_zero : (x : A) → remainder x 𝟘 ≡ x
    -- nothing else has these properties
    pub quotient_unique : (x d q r : A) → x ≡ q * d + r → size r < size d → quotient x d ≡ q
    pub remainder_unique : (x d q r : A) → x ≡ q * d + r → size r < size d → remainder x d ≡ r
    -- d divides x just where the remainder is zero, and the quotient is then exact
    pub remainder_divides : (x d : A) → remainder x d ≡ 𝟘 → Divides ring d x
    pub divides_remainder : (x d : A) → Divides ring d x → remainder x d ≡ 𝟘
    pub divides_decided : (x d : A) → Dec (Divides ring d x)
    pub quotient_exact : (x d : A) → Divides ring d x → x ≡ quotient x d * d
    pub quotient_mul : (q d : A) → 0 < size d → quotient (q * d) d ≡ q
    pub remainder_mul : (q d : A) → 0 < size d → remainder (q * d) d ≡ 𝟘
    -- what is short is its own remainder; remainders add up; a factor may be replaced by its remainder
    pub remainder_short : (x d : A) → size x < size d → remainder x d ≡ x
    pub remainder_add : (x y d : A) → 0 < size d → remainder (x + y) d ≡ remainder x d + remainder y d
    pub remainder_factor : (x y d : A) → 0 < size d → remainder (x * y) d ≡ remainder (x * remainder y d) d

-- the size of a quotient in any ring with a size
module _ {A : Type 0} {R : Ring A} (S : Sized R) (x d q r : A) (e : x ≡ R.add (R.mul q d) r) where
  open S use {size, size_mul, size_add}

  short : ¬ (0 < size q) → size (R.mul q d) ≤ size d - 1
  short h = omega (arith, size_mul_le S q d 0 (size d) (omega arith) (omega arith))

  quotient_size : size r < size d → size d ≤ size x → size q +ₙ size d ≡ suc (size x)
  quotient_size l m = go (dec_lt 0 (size q))
    where
      go : Dec (0 < size q) → size q +ₙ size d ≡ suc (size x)
      go (yes h) =
          let product = size_mul q d h (omega arith) in
          omega (arith, ap size e, size_longer S (R.mul q d) r (omega arith))
      go (no h) = absurd (omega (arith, ap size e, size_add (size d - 1) (R.mul q d) r (short h) (omega arith)))

module _ (p : ℕ) (prime : Prime p) where
  abbrev F : Field (Residue p)
  F = residues p prime

  pub division_laws : DivisionLaws (number_arithmetic p prime)
  division_laws = carried p prime (λ X S. DivisionLaws S) record {
    division = Division.division F;
    size_remainder = Division.size_remainder F;
    size_quotient = λ x d h. quotient_size (Size.sized F) x d (Division.quotient F x d) (Division.remainder F x d)
        (Division.division F x d h) (Division.size_remainder F x d h);
    remainder_zero = Division.remainder_zero F;
    quotient_unique = Division.quotient_unique F;
    remainder_unique = Division.remainder_unique F;
    remainder_divides = Exact.remainder_divides F;
    divides_remainder = Exact.divides_remainder F;
    divides_decided = Exact.divides_decided F;
    quotient_exact = Exact.quotient_exact F;
    quotient_mul = Exact.quotient_mul F;
    remainder_mul = Exact.remainder_mul F;
    remainder_short = Division.remainder_short F;
    remainder_add = Division.remainder_add F;
    remainder_factor = Division.remainder_factor F;
  }
