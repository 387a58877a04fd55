-- One step of a division: the multiple c·x^k of y that takes the leading coefficient off x.
use Rattle.std.specs.Prelude.{ℕ, suc, ◌<◌, ◌≤◌, ◌-◌, ◌≡◌}
use Rattle.std.proofs.Common.{sym, ◌∙◌, ap₂, arith}
use Rattle.std.proofs.Math.Path.{ap}
use Rattle.std.proofs.Math.Decide.{ℕ_discrete}
use Rattle.ring.specs.Ring.{Ring}
use Rattle.algebra.specs.Field.{Field, mul_nonzero, inverse_mul, inverse_nonzero}
use Rattle.algebra.specs.Polynomial.{Polynomial, polynomials, coefficients, coefficients_add, coefficients_neg}
use Rattle.algebra.specs.Expressions.{scale, shift}
use Rattle.algebra.specs.Size.{size, leading, size_bound, coefficients_beyond, coefficients_last}
use Rattle.algebra.specs.Size.{size_one, size_mul, size_scale, size_shift, leading_one, leading_positive}
use Rattle.algebra.specs.Size.{leading_mul, leading_scale, leading_shift}

module _ {A : Type 0} (F : Field A) where
  abbrev K : Ring A
  K = F.ring

  open polynomials F use {add as ◌+◌, mul as ◌*◌, neg as -◌, one as 𝟙}

  infixl 65 ◌+◌
  infixl 70 ◌*◌
  infix 75 -◌
  -- equal sizes and leading coefficients: the difference is shorter
  pub size_difference : (x y : Polynomial F) → 0 < size F x → size F y ≡ size F x → leading F y ≡ leading F x
      → size F (x + (- y)) < size F x
  size_difference x y h e l =
      let short : size F (x + (- y)) ≤ n = size_bound F (x + (- y)) n (λ i k. at i ∙ vanish i k (ℕ_discrete i n)) in omega arith
    where
      n : ℕ
      n = size F x - 1

      at : (i : ℕ) → coefficients F (x + (- y)) i ≡ K.add (coefficients F x i) (K.neg (coefficients F y i))
      at i = coefficients_add F x (- y) i ∙ ap (K.add (coefficients F x i)) (coefficients_neg F y i)

      top : coefficients F y n ≡ coefficients F x n
      top = coefficients_last F y n (omega arith) ∙ l ∙ sym (coefficients_last F x n (omega arith))

      vanish : (i : ℕ) → n ≤ i → Dec (i ≡ n) → K.add (coefficients F x i) (K.neg (coefficients F y i)) ≡ K.zero
      vanish i k (yes q) =
          ap (λ j. K.add (coefficients F x j) (K.neg (coefficients F y j))) q
          ∙ ap (λ b. K.add (coefficients F x n) (K.neg b)) top
          ∙ K.add_neg (coefficients F x n)
      vanish i k (no q) =
          ap₂ (λ a b. K.add a (K.neg b)) (coefficients_beyond F x i (omega arith)) (coefficients_beyond F y i (omega arith))
          ∙ K.add_neg K.zero

  -- the multiplier: leading x / leading y times the power of x by which the sizes differ
  unfoldable pub multiplier : Polynomial F → Polynomial F → Polynomial F
  multiplier x y = scale F (K.mul (leading F x) (F.inverse (leading F y))) (shift F (size F x - size F y) 𝟙)

  module _ (x y : Polynomial F) (h : 0 < size F y) (le : size F y ≤ size F x) where
    ratio : A
    ratio = K.mul (leading F x) (F.inverse (leading F y))

    nonzero : ¬ (ratio ≡ K.zero)
    unfolding ratio
    nonzero = mul_nonzero F (leading F x) (F.inverse (leading F y))
        (leading_positive F x (omega arith)) (inverse_nonzero F (leading F y) (leading_positive F y h))

    power : Polynomial F
    power = shift F (size F x - size F y) 𝟙

    power_size : size F power ≡ suc (size F x - size F y)
    unfolding power
    power_size = omega (arith, size_shift F (size F x - size F y) 𝟙 (omega (arith, size_one F)), size_one F)

    pub size_multiplier : size F (multiplier x y) ≡ suc (size F x - size F y)
    unfolding multiplier ratio power
    size_multiplier = size_scale F ratio power nonzero ∙ power_size

    leading_multiplier : leading F (multiplier x y) ≡ ratio
    unfolding multiplier ratio power
    leading_multiplier =
        leading_scale F ratio power nonzero (omega (arith, power_size))
        ∙ ap (K.mul ratio) (leading_shift F (size F x - size F y) 𝟙 (omega (arith, size_one F)) ∙ leading_one F)
        ∙ K.mul_one ratio

    leading_product : leading F (multiplier x y * y) ≡ leading F x
    unfolding ratio
    leading_product =
        leading_mul F (multiplier x y) y (omega (arith, size_multiplier)) h
        ∙ ap (λ a. K.mul a (leading F y)) leading_multiplier
        ∙ K.mul_assoc (leading F x) (F.inverse (leading F y)) (leading F y)
        ∙ ap (K.mul (leading F x)) (inverse_mul F (leading F y) (leading_positive F y h))
        ∙ K.mul_one (leading F x)

    pub size_cancelled : size F (x + (- (multiplier x y * y))) < size F x
    size_cancelled = size_difference x (multiplier x y * y) (omega arith)
        (omega (arith, size_mul F (multiplier x y) y (omega (arith, size_multiplier)) h, size_multiplier)) leading_product
