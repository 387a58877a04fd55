-- The size of a polynomial, the number of its coefficients, and its leading coefficient, under the ring's operations.
use Rattle.std.specs.Prelude.{ℕ, zero, suc, ◌<◌, ◌≤◌, ◌-◌, ◌+◌ as ◌+ₙ◌, ◌≡◌, List, [], ◌∷◌, length}
use Rattle.std.proofs.Math.Path.{refl, ap}
use Rattle.std.proofs.Common.{sym, ◌∙◌, ap₂}
use native.Mathlib.Omega.{arith}
use Rattle.std.proofs.Math.Decide.{dec_lt}
use Rattle.ring.specs.Ring.{Ring, neg_zero, mul_zero}
use Rattle.algebra.specs.Operations.{Operations}
use Rattle.algebra.specs.Field.{Field, operations, mul_nonzero, inverse_mul}
use Rattle.algebra.specs.Coefficients
use Rattle.algebra.specs.Series.{convolution_top, convolution_beyond}
use Rattle.algebra.specs.Coefficient.{coefficient_beyond, coefficient_last, coefficient_shift}
use Rattle.algebra.specs.Canonical.{Canonical, length_bound, leading_nonzero}
use Rattle.algebra.specs.Polynomial.{Polynomial, polynomials, coefficients, list_zero, zero_list}
use Rattle.algebra.specs.Polynomial.{coefficients_one, coefficients_add, coefficients_neg, coefficients_mul}
use Rattle.algebra.specs.Expressions.{cons, scale, shift, coefficients_cons, coefficients_scale, scale_scale, scale_one}
use Rattle.algebra.specs.Sized.{Sized}

module _ {A : Type 0} (F : Field A) where
  abbrev o : Operations A
  o = operations F

  abbrev K : Ring A
  K = F.ring

  open polynomials F use {add as ◌+◌, mul as ◌*◌, neg as -◌, zero as 𝟘, one as 𝟙}

  infixl 65 ◌+◌
  infixl 70 ◌*◌
  infix 75 -◌
  abbrev pub size : Polynomial F → ℕ
  size x = length x.0

  abbrev pub leading : Polynomial F → A
  leading x = Coefficients.leading o x.0

  -- sizes by coefficients
  pub coefficients_beyond : (x : Polynomial F) (n : ℕ) → size x ≤ n → coefficients F x n ≡ K.zero
  coefficients_beyond x n h = coefficient_beyond F x.0 n h

  pub size_bound : (x : Polynomial F) (n : ℕ) → ((i : ℕ) → n ≤ i → coefficients F x i ≡ K.zero) → size x ≤ n
  size_bound x n e = length_bound F x.0 n x.1 e

  pub size_exact : (x : Polynomial F) (n : ℕ) → ¬ (coefficients F x n ≡ K.zero)
      → ((i : ℕ) → n < i → coefficients F x i ≡ K.zero) → size x ≡ suc n
  size_exact x n h e = go (dec_lt n (size x)) (size_bound x (suc n) e)
    where
      go : Dec (n < size x) → size x ≤ suc n → size x ≡ suc n
      go (yes l) b = omega arith
      go (no l) b = absurd (h (coefficients_beyond x n (omega arith)))

  pub coefficients_last : (x : Polynomial F) (n : ℕ) → size x ≡ suc n → coefficients F x n ≡ leading x
  coefficients_last x n e = coefficient_last F x.0 n e

  -- zero and one
  pub size_zero : size 𝟘 ≡ 0
  size_zero = ap length (list_zero F)

  pub size_none : (x : Polynomial F) → size x ≡ 0 → x ≡ 𝟘
  size_none x e = zero_list F x (empty x.0 e)
    where
      empty : (f : List A) → length f ≡ 0 → f ≡ []
      empty [] h = refl
      empty (a ∷ f) h = absurd (omega arith)

  pub size_one : size 𝟙 ≡ 1
  size_one = size_exact 𝟙 0 (λ e. F.one_nonzero (sym (coefficients_one F 0) ∙ e)) high
    where
      high : (i : ℕ) → 0 < i → coefficients F 𝟙 i ≡ K.zero
      high zero h = absurd (omega arith)
      high (suc i) h = coefficients_one F (suc i)

  pub leading_zero : leading 𝟘 ≡ K.zero
  unfolding polynomials Coefficients.leading
  leading_zero = refl

  pub leading_one : leading 𝟙 ≡ K.one
  leading_one = sym (coefficients_last 𝟙 0 size_one) ∙ coefficients_one F 0

  pub leading_positive : (x : Polynomial F) → 0 < size x → ¬ (leading x ≡ K.zero)
  leading_positive x h = go x.0 x.1 h
    where
      go : (f : List A) → Canonical F f → 0 < length f → ¬ (Coefficients.leading o f ≡ K.zero)
      go [] c k = absurd (omega arith)
      go (a ∷ f) c k = leading_nonzero F a f c

  -- sums
  pub size_add : (n : ℕ) (x y : Polynomial F) → size x ≤ n → size y ≤ n → size (x + y) ≤ n
  size_add n x y hx hy = size_bound (x + y) n (λ i h.
      coefficients_add F x y i
      ∙ ap₂ K.add (coefficients_beyond x i (omega arith)) (coefficients_beyond y i (omega arith))
      ∙ K.add_zero K.zero)

  pub size_neg : (n : ℕ) (x : Polynomial F) → size x ≤ n → size (- x) ≤ n
  size_neg n x hx = size_bound (- x) n (λ i h.
      coefficients_neg F x i ∙ ap K.neg (coefficients_beyond x i (omega arith)) ∙ neg_zero K)

  pub size_cons : (n : ℕ) (a : A) (x : Polynomial F) → size x ≤ n → size (cons F a x) ≤ suc n
  size_cons n a x h = size_bound (cons F a x) (suc n) high
    where
      high : (i : ℕ) → suc n ≤ i → coefficients F (cons F a x) i ≡ K.zero
      high zero l = absurd (omega arith)
      high (suc i) l = coefficients_cons F a x i ∙ coefficients_beyond x i (omega arith)

  -- products: the top coefficient is the product of the top coefficients
  module _ (x y : Polynomial F) (i j : ℕ) (hx : size x ≡ suc i) (hy : size y ≡ suc j) where
    above_x : (k : ℕ) → i < k → coefficients F x k ≡ K.zero
    above_x k h = coefficients_beyond x k (omega arith)

    above_y : (k : ℕ) → j < k → coefficients F y k ≡ K.zero
    above_y k h = coefficients_beyond y k (omega arith)

    mul_top : coefficients F (x * y) (i +ₙ j) ≡ K.mul (leading x) (leading y)
    mul_top =
        coefficients_mul F x y (i +ₙ j)
        ∙ convolution_top K (coefficients F y) j above_y (coefficients F x) i above_x
        ∙ ap₂ K.mul (coefficients_last x i hx) (coefficients_last y j hy)

    mul_size : size (x * y) ≡ suc (i +ₙ j)
    mul_size = size_exact (x * y) (i +ₙ j) nonzero beyond
      where
        nonzero : ¬ (coefficients F (x * y) (i +ₙ j) ≡ K.zero)
        nonzero e = mul_nonzero F (leading x) (leading y)
            (leading_positive x (omega arith)) (leading_positive y (omega arith)) (sym mul_top ∙ e)

        beyond : (k : ℕ) → i +ₙ j < k → coefficients F (x * y) k ≡ K.zero
        beyond k h =
            coefficients_mul F x y k
            ∙ convolution_beyond K (coefficients F y) j above_y (coefficients F x) i above_x k h

    mul_leading : leading (x * y) ≡ K.mul (leading x) (leading y)
    mul_leading = sym (coefficients_last (x * y) (i +ₙ j) mul_size) ∙ mul_top

  pub size_mul : (x y : Polynomial F) → 0 < size x → 0 < size y → suc (size (x * y)) ≡ size x +ₙ size y
  size_mul x y hx hy = omega (arith, mul_size x y (size x - 1) (size y - 1) (omega arith) (omega arith))

  pub leading_mul : (x y : Polynomial F) → 0 < size x → 0 < size y → leading (x * y) ≡ K.mul (leading x) (leading y)
  leading_mul x y hx hy = mul_leading x y (size x - 1) (size y - 1) (omega arith) (omega arith)

  -- multiples by a constant and by a power of x
  pub size_scale_bound : (c : A) (x : Polynomial F) → size (scale F c x) ≤ size x
  size_scale_bound c x = size_bound (scale F c x) (size x) (λ i h.
      coefficients_scale F c x i ∙ ap (K.mul c) (coefficients_beyond x i h) ∙ mul_zero K c)

  pub size_scale : (c : A) (x : Polynomial F) → ¬ (c ≡ K.zero) → size (scale F c x) ≡ size x
  size_scale c x h =
      omega (arith, size_scale_bound c x, size_scale_bound (F.inverse c) (scale F c x), ap size back)
    where
      back : scale F (F.inverse c) (scale F c x) ≡ x
      back = scale_scale F (F.inverse c) c x ∙ ap (λ a. scale F a x) (inverse_mul F c h) ∙ scale_one F x

  pub leading_scale : (c : A) (x : Polynomial F) → ¬ (c ≡ K.zero) → 0 < size x → leading (scale F c x) ≡ K.mul c (leading x)
  leading_scale c x h k =
      let n = size x - 1 in
      sym (coefficients_last (scale F c x) n (omega (arith, size_scale c x h)))
      ∙ coefficients_scale F c x n
      ∙ ap (K.mul c) (coefficients_last x n (omega arith))

  module _ (k : ℕ) (x : Polynomial F) (n : ℕ) (e : size x ≡ suc n) where
    shift_top : coefficients F (shift F k x) (k +ₙ n) ≡ leading x
    unfolding shift
    shift_top = coefficient_shift F k x.0 n ∙ coefficients_last x n e

    shift_size : size (shift F k x) ≡ suc (k +ₙ n)
    unfolding shift
    shift_size = size_exact (shift F k x) (k +ₙ n) (λ z. leading_positive x (omega arith) (sym shift_top ∙ z)) beyond
      where
        beyond : (i : ℕ) → k +ₙ n < i → coefficients F (shift F k x) i ≡ K.zero
        beyond i h =
            let split : i ≡ k +ₙ (i - k) = omega arith in
            ap (coefficients F (shift F k x)) split
            ∙ coefficient_shift F k x.0 (i - k)
            ∙ coefficients_beyond x (i - k) (omega arith)

    shift_leading : leading (shift F k x) ≡ leading x
    shift_leading = sym (coefficients_last (shift F k x) (k +ₙ n) shift_size) ∙ shift_top

  pub size_shift : (k : ℕ) (x : Polynomial F) → 0 < size x → size (shift F k x) ≡ k +ₙ size x
  size_shift k x h = omega (arith, shift_size k x (size x - 1) (omega arith))

  pub leading_shift : (k : ℕ) (x : Polynomial F) → 0 < size x → leading (shift F k x) ≡ leading x
  leading_shift k x h = shift_leading k x (size x - 1) (omega arith)

  abbrev pub sized : Sized (polynomials F)
  sized = record {
    size = size;
    size_zero = size_zero;
    size_none = size_none;
    size_one = size_one;
    size_mul = size_mul;
    size_add = size_add;
    size_neg = size_neg;
  }
