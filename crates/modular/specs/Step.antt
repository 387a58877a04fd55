-- One step of a division as code takes it: the multiple of y taken off x is y scaled and shifted. `Cancellation` says the same of
-- a product.
use Rattle.std.specs.Prelude.{◌≡◌, ℕ, ◌-◌, ◌≤◌, ◌<◌}
use Rattle.std.proofs.Common.{sym, ◌∙◌, ap}
use Rattle.ring.specs.Ring.{one_mul}
use Rattle.algebra.specs.Field.{Field}
use Rattle.algebra.specs.Polynomial.{Polynomial, polynomials}
use Rattle.algebra.specs.Expressions.{constant, scale, shift, scale_constant, scale_mul, shift_mul}
use Rattle.algebra.specs.Size.{size, leading}
use Rattle.algebra.specs.Cancellation.{multiplier, size_cancelled}

module _ {K : Type 0} (F : Field K) where
  open polynomials F use {add as ◌+◌, mul as ◌*◌, neg as -◌, one as 𝟙, mul_comm}

  infixl 65 ◌+◌
  infixl 70 ◌*◌
  infix 75 -◌
  multiple_mul : (k : ℕ) (c : K) (y : Polynomial F) → shift F k (scale F c y) ≡ scale F c (shift F k 𝟙) * y
  multiple_mul k c y =
      ap (shift F k) (scale_constant F c y ∙ mul_comm (constant F c) y)
      ∙ shift_mul F k y (constant F c)
      ∙ mul_comm (shift F k y) (constant F c)
      ∙ sym (scale_constant F c (shift F k y))
      ∙ ap (λ z. scale F c (shift F k z)) (sym (one_mul (polynomials F) y))
      ∙ ap (scale F c) (shift_mul F k 𝟙 y)
      ∙ scale_mul F c (shift F k 𝟙) y

  module _ (x y : Polynomial F) where
    abbrev ratio : K
    ratio = F.ring.mul (leading F x) (F.inverse (leading F y))

    pub size_step : 0 < size F y → size F y ≤ size F x
        → size F (x + (- shift F (size F x - size F y) (scale F ratio y))) < size F x
    unfolding multiplier
    size_step h le = rw (multiple_mul (size F x - size F y) ratio y) (size_cancelled F x y h le)
