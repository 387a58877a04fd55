-- Sizes, leading coefficients and multiples of polynomials modulo a prime.
use Rattle.std.specs.Prelude.{◌≡◌, ℕ, suc, ◌-◌, ◌≤◌, ◌<◌, ◌+◌ as ◌+ₙ◌}
use Rattle.algebra.specs.Field.{Field}
use Rattle.algebra.specs.Sized.{Sized}
use Rattle.algebra.specs.Expressions
use Rattle.algebra.specs.Size
use Rattle.algebra.specs.Cancellation
use Rattle.modular.specs.Prime.{Prime}
use Rattle.modular.specs.Residue.{Residue, residues}
use Rattle.modular.specs.Step
use Rattle.modular.specs.Arithmetic.{Arithmetic}
use Rattle.modular.specs.Numbers
use Rattle.modular.specs.Carried.{number_arithmetic, carried}

module _ {K A : Type 0} (F : Field K) (S : Arithmetic K A) where
  open S use {ring, size, constant, scale, shift, leading}
  open ring use {add as ◌+◌, mul as ◌*◌, neg as -◌, zero as 𝟘, one as 𝟙}

  infixl 65 ◌+◌
  infixl 70 ◌*◌
  infix 75 -◌
  pub record SizeLaws : Type 0 where
    pub size_zero : size 𝟘 ≡ 0
    pub size_none : (x : A) → size x ≡ 0 → x ≡ 𝟘
    pub size_one : size 𝟙 ≡ 1
    pub size_mul : (x y : A) → 0 < size x → 0 < size y → suc (size (x * y)) ≡ size x +ₙ size y
    pub size_add : (n : ℕ) (x y : A) → size x ≤ n → size y ≤ n → size (x + y) ≤ n
    pub size_neg : (n : ℕ) (x : A) → size x ≤ n → size (- x) ≤ n
    pub size_scale : (c : K) (x : A) → ¬ (c ≡ F.ring.zero) → size (scale c x) ≡ size x
    pub size_shift : (k : ℕ) (x : A) → 0 < size x → size (shift k x) ≡ k +ₙ size x
    -- leading coefficients
    pub leading_positive : (x : A) → 0 < size x → ¬ (leading x ≡ F.ring.zero)
    pub leading_mul : (x y : A) → 0 < size x → 0 < size y → leading (x * y) ≡ F.ring.mul (leading x) (leading y)
    pub leading_scale : (c : K) (x : A) → ¬ (c ≡ F.ring.zero) → 0 < size x → leading (scale c x) ≡ F.ring.mul c (leading x)
    pub leading_shift : (k : ℕ) (x : A) → 0 < size x → leading (shift k x) ≡ leading x
    -- multiples as products
    pub scale_constant : (c : K) (x : A) → scale c x ≡ constant c * x
    pub constant_one : constant F.ring.one ≡ 𝟙
    pub shift_mul : (k : ℕ) (x y : A) → shift k (x * y) ≡ shift k x * y
    -- equal sizes and leading coefficients cancel; so does the multiple of y that a step takes off x
    pub size_difference : (x y : A) → 0 < size x → size y ≡ size x → leading y ≡ leading x → size (x + (- y)) < size x
    pub size_step : (x y : A) → 0 < size y → size y ≤ size x
        → size (x + (- shift (size x - size y) (scale (F.ring.mul (leading x) (F.inverse (leading y))) y))) < size x

module _ (p : ℕ) (prime : Prime p) where
  abbrev F : Field (Residue p)
  F = residues p prime

  pub size_laws : SizeLaws (residues p prime) (number_arithmetic p prime)
  size_laws = carried p prime (λ X S. SizeLaws (residues p prime) S) record {
    size_zero = Size.size_zero F;
    size_none = Size.size_none F;
    size_one = Size.size_one F;
    size_mul = Size.size_mul F;
    size_add = Size.size_add F;
    size_neg = Size.size_neg F;
    size_scale = Size.size_scale F;
    size_shift = Size.size_shift F;
    leading_positive = Size.leading_positive F;
    leading_mul = Size.leading_mul F;
    leading_scale = Size.leading_scale F;
    leading_shift = Size.leading_shift F;
    scale_constant = Expressions.scale_constant F;
    constant_one = Expressions.constant_one F;
    shift_mul = Expressions.shift_mul F;
    size_difference = Cancellation.size_difference F;
    size_step = Step.size_step F;
  }

  -- what is proved of rings with a size holds of lists of numbers
  abbrev pub sized : Sized (Numbers.numbers p prime)
  sized = record {
    size = Numbers.size p prime;
    size_zero = size_laws.size_zero;
    size_none = size_laws.size_none;
    size_one = size_laws.size_one;
    size_mul = size_laws.size_mul;
    size_add = size_laws.size_add;
    size_neg = size_laws.size_neg;
  }
