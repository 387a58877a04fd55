-- The operations of `Coefficients` as expressions of the ring of polynomials: a + x·f, c·f, x^k·f and differences.
use Rattle.std.specs.Prelude.{ℕ, zero, suc, ◌≡◌, List, ◌∷◌}
use Rattle.std.proofs.Math.Path.{refl, sym, fun_ext}
use Rattle.std.proofs.Common.{◌∙◌, ap, ap₂}
use Rattle.ring.specs.Ring.{Ring, zero_add, zero_mul, one_mul}
use Rattle.algebra.specs.Operations.{Operations}
use Rattle.algebra.specs.Field.{Field, operations}
use Rattle.algebra.specs.Coefficients
use Rattle.algebra.specs.Coefficients.{coefficient}
use Rattle.algebra.specs.Series.{convolution, constant_convolution, tail_convolution}
use Rattle.algebra.specs.Coefficient.{coefficient_cons, coefficient_scale}
use Rattle.algebra.specs.Canonical.{Canonical, canonical_tail, canonical_cons}
use Rattle.algebra.specs.Canonical.{canonical_constant, canonical_scale, canonical_shift}
use Rattle.algebra.specs.Polynomial.{Polynomial, polynomials, coefficients, equal_lists, equal_coefficients}
use Rattle.algebra.specs.Polynomial.{coefficients_zero, coefficients_add, coefficients_mul}

module _ {A : Type 0} (F : Field A) where
  abbrev o : Operations A
  o = operations F

  abbrev K : Ring A
  K = F.ring

  open polynomials F use {add as ◌+◌, mul as ◌*◌, neg as -◌, zero as 𝟘, one as 𝟙}

  infixl 65 ◌+◌
  infixl 70 ◌*◌
  infix 75 -◌
  unfoldable pub constant : A → Polynomial F
  constant a = (Coefficients.constant o a, canonical_constant F a)

  unfoldable pub cons : A → Polynomial F → Polynomial F
  cons a x = (Coefficients.cons o a x.0, canonical_cons F a x.0 x.1)

  unfoldable pub scale : A → Polynomial F → Polynomial F
  scale c x = (Coefficients.scale o c x.0, canonical_scale F c x.0)

  unfoldable pub shift : ℕ → Polynomial F → Polynomial F
  shift k x = (Coefficients.shift o k x.0, canonical_shift F k x.0 x.1)

  unfoldable pub X : Polynomial F
  X = cons K.zero 𝟙

  -- their lists
  pub list_constant : (a : A) → (constant a).0 ≡ Coefficients.constant o a
  unfolding constant
  list_constant a = refl

  pub list_cons : (a : A) (x : Polynomial F) → (cons a x).0 ≡ Coefficients.cons o a x.0
  unfolding cons
  list_cons a x = refl

  pub list_scale : (c : A) (x : Polynomial F) → (scale c x).0 ≡ Coefficients.scale o c x.0
  unfolding scale
  list_scale c x = refl

  pub list_shift : (k : ℕ) (x : Polynomial F) → (shift k x).0 ≡ Coefficients.shift o k x.0
  unfolding shift
  list_shift k x = refl

  pub list_subtract : (x y : Polynomial F) → (x + (- y)).0 ≡ Coefficients.subtract o x.0 y.0
  unfolding polynomials Coefficients.subtract
  list_subtract x y = refl

  -- their coefficients
  pub coefficients_cons_zero : (a : A) (x : Polynomial F) → coefficients F (cons a x) 0 ≡ a
  unfolding cons coefficient
  coefficients_cons_zero a x = coefficient_cons F a x.0 0

  pub coefficients_cons : (a : A) (x : Polynomial F) (n : ℕ) → coefficients F (cons a x) (suc n) ≡ coefficients F x n
  unfolding cons coefficient
  coefficients_cons a x n = coefficient_cons F a x.0 (suc n)

  pub coefficients_scale : (c : A) (x : Polynomial F) (n : ℕ) → coefficients F (scale c x) n ≡ K.mul c (coefficients F x n)
  unfolding scale
  coefficients_scale c x n = coefficient_scale F c x.0 n

  pub constant_cons : (a : A) → constant a ≡ cons a 𝟘
  unfolding constant cons polynomials Coefficients.constant
  constant_cons a = equal_lists F (constant a) (cons a 𝟘) refl

  -- c·x as a product
  pub scale_constant : (c : A) (x : Polynomial F) → scale c x ≡ constant c * x
  scale_constant c x = equal_coefficients F (scale c x) (constant c * x) (λ n. coefficients_scale c x n ∙ sym (product n))
    where
      low : coefficients F (constant c) 0 ≡ c
      low = ap (λ y. coefficients F y 0) (constant_cons c) ∙ coefficients_cons_zero c 𝟘

      high : (i : ℕ) → coefficients F (constant c) (suc i) ≡ K.zero
      high i = ap (λ y. coefficients F y (suc i)) (constant_cons c) ∙ coefficients_cons c 𝟘 i ∙ coefficients_zero F i

      product : (n : ℕ) → coefficients F (constant c * x) n ≡ K.mul c (coefficients F x n)
      product n =
          coefficients_mul F (constant c) x n
          ∙ constant_convolution K (coefficients F (constant c)) (coefficients F x) high n
          ∙ ap (λ a. K.mul a (coefficients F x n)) low

  -- what stands behind the first coefficient
  abbrev pub rest : (a : A) (f : List A) → Canonical F (a ∷ f) → Polynomial F
  rest a f h = (f, canonical_tail F a f h)

  pub cons_rest : (a : A) (f : List A) (h : Canonical F (a ∷ f)) → (a ∷ f, h) ≡ cons a (rest a f h)
  unfolding cons
  cons_rest a f h = equal_coefficients F (a ∷ f, h) (cons a (rest a f h)) (λ n. sym (coefficient_cons F a f n))

  pub X_mul : (x : Polynomial F) → X * x ≡ cons K.zero x
  unfolding X
  X_mul x = equal_coefficients F (X * x) (cons K.zero x) at
    where
      low : coefficients F X 0 ≡ K.zero
      low = coefficients_cons_zero K.zero 𝟙

      at : (n : ℕ) → coefficients F (X * x) n ≡ coefficients F (cons K.zero x) n
      at zero =
          coefficients_mul F X x 0
          ∙ ap (λ a. K.mul a (coefficients F x 0)) low
          ∙ zero_mul K (coefficients F x 0)
          ∙ sym (coefficients_cons_zero K.zero x)
      at (suc n) =
          coefficients_mul F X x (suc n)
          ∙ tail_convolution K (coefficients F X) (coefficients F x) low n
          ∙ ap (λ f. convolution K f (coefficients F x) n) (fun_ext (coefficients_cons K.zero 𝟙))
          ∙ sym (coefficients_mul F 𝟙 x n)
          ∙ ap (λ y. coefficients F y n) (one_mul (polynomials F) x)
          ∙ sym (coefficients_cons K.zero x n)

  pub cons_add : (a : A) (x : Polynomial F) → cons a x ≡ constant a + X * x
  cons_add a x = equal_coefficients F (cons a x) (constant a + X * x) (λ n. at n ∙ sym (sum n))
    where
      sum : (n : ℕ) → coefficients F (constant a + X * x) n
          ≡ K.add (coefficients F (cons a 𝟘) n) (coefficients F (cons K.zero x) n)
      sum n =
          ap₂ (λ y z. coefficients F (y + z) n) (constant_cons a) (X_mul x)
          ∙ coefficients_add F (cons a 𝟘) (cons K.zero x) n

      at : (n : ℕ) → coefficients F (cons a x) n ≡ K.add (coefficients F (cons a 𝟘) n) (coefficients F (cons K.zero x) n)
      at zero =
          coefficients_cons_zero a x
          ∙ sym (ap₂ K.add (coefficients_cons_zero a 𝟘) (coefficients_cons_zero K.zero x) ∙ K.add_zero a)
      at (suc n) =
          coefficients_cons a x n
          ∙ sym (ap₂ K.add (coefficients_cons a 𝟘 n ∙ coefficients_zero F n) (coefficients_cons K.zero x n)
          ∙ zero_add K (coefficients F x n))

  -- constants
  pub constant_one : constant K.one ≡ 𝟙
  unfolding constant polynomials Coefficients.one
  constant_one = equal_lists F (constant K.one) 𝟙 refl

  pub scale_one : (x : Polynomial F) → scale K.one x ≡ x
  scale_one x = scale_constant K.one x ∙ ap (λ y. y * x) constant_one ∙ one_mul (polynomials F) x

  pub scale_scale : (a b : A) (x : Polynomial F) → scale a (scale b x) ≡ scale (K.mul a b) x
  scale_scale a b x = equal_coefficients F (scale a (scale b x)) (scale (K.mul a b) x) (λ n.
      coefficients_scale a (scale b x) n
      ∙ ap (K.mul a) (coefficients_scale b x n)
      ∙ sym (coefficients_scale (K.mul a b) x n ∙ K.mul_assoc a b (coefficients F x n)))

  pub scale_mul : (c : A) (x y : Polynomial F) → scale c (x * y) ≡ scale c x * y
  scale_mul c x y =
      scale_constant c (x * y)
      ∙ sym ((polynomials F).mul_assoc (constant c) x y)
      ∙ ap (λ z. z * y) (sym (scale_constant c x))

  -- shifts: x^k·f
  pub shift_zero : (x : Polynomial F) → shift 0 x ≡ x
  unfolding shift Coefficients.shift
  shift_zero x = equal_lists F (shift 0 x) x refl

  pub shift_suc : (k : ℕ) (x : Polynomial F) → shift (suc k) x ≡ X * shift k x
  unfolding shift cons Coefficients.shift
  shift_suc k x = equal_lists F (shift (suc k) x) (cons K.zero (shift k x)) refl ∙ sym (X_mul (shift k x))

  pub shift_mul : (k : ℕ) (x y : Polynomial F) → shift k (x * y) ≡ shift k x * y
  shift_mul zero x y = shift_zero (x * y) ∙ ap (λ z. z * y) (sym (shift_zero x))
  shift_mul (suc k) x y =
      shift_suc k (x * y)
      ∙ ap (λ z. X * z) (shift_mul k x y)
      ∙ sym ((polynomials F).mul_assoc X (shift k x) y)
      ∙ ap (λ z. z * y) (sym (shift_suc k x))
