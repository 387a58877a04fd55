-- A polynomial held by an array of coefficients: a tail, or one lane of a flat block. A step there is one loop over one range.
use Prim.Native.Nat.{ℕ, zero, suc, ◌<◌, ◌≤◌}
use Rattle.std.specs.Prelude.{◌+◌ as ◌+ₙ◌, ◌-◌ as ◌-ₙ◌, ◌≡◌}
use Rattle.std.proofs.Math.Path.{sym, ap}
use Rattle.std.proofs.Common.{◌∙◌, ap₂}
use native.Mathlib.Omega.{arith}
use Rattle.std.proofs.Math.Decide.{dec_le}
use Rattle.ring.specs.Ring.{one_mul, mul_zero, neg_zero}
use Rattle.algebra.specs.Field.{Field}
use Rattle.algebra.specs.Polynomial.{Polynomial, polynomials, coefficients, equal_coefficients}
use Rattle.algebra.specs.Polynomial.{coefficients_zero, coefficients_add, coefficients_neg}
use Rattle.algebra.specs.Expressions.{cons, scale, shift, coefficients_cons_zero, coefficients_cons, coefficients_scale}
use Rattle.algebra.specs.Expressions.{scale_mul, shift_mul}
use Rattle.algebra.specs.Size.{size, size_bound, size_exact, size_one, size_scale_bound, size_shift}
use Rattle.algebra.specs.Coefficient.{coefficient_shift, coefficient_shift_below}

module _ {K : Type 0} (F : Field K) where
  open F.ring use {add as ◌⊕◌, mul as ◌⊗◌, neg as ⊝◌, zero as 𝟎}
  open polynomials F use {add as ◌+◌, mul as ◌*◌, neg as -◌, zero as 𝟘, one as 𝟙}

  infixl 65 ◌⊕◌
  infixl 65 ◌+◌
  infixl 70 ◌⊗◌
  infixl 70 ◌*◌
  infix 75 ⊝◌
  infix 75 -◌
  -- the array H holds the polynomial x
  pub record Holds (H : ℕ → K) (x : Polynomial F) : Type 0 where
    pub at : (k : ℕ) → coefficients F x k ≡ H k

  -- a·x^k
  unfoldable pub monomial : K → ℕ → Polynomial F
  monomial a k = scale F a (shift F k 𝟙)

  pub monomial_mul : (a : K) (k : ℕ) (x : Polynomial F) → monomial a k * x ≡ scale F a (shift F k x)
  unfolding monomial
  monomial_mul a k x =
      sym (scale_mul F a (shift F k 𝟙) x)
      ∙ ap (scale F a) (sym (shift_mul F k 𝟙 x) ∙ ap (shift F k) (one_mul (polynomials F) x))

  -- its coefficients in a product: those of x, k places up, times a
  pub monomial_at : (a : K) (k : ℕ) (x : Polynomial F) (j : ℕ)
      → coefficients F (monomial a k * x) (k +ₙ j) ≡ a ⊗ coefficients F x j
  unfolding shift
  monomial_at a k x j =
      ap (λ y. coefficients F y (k +ₙ j)) (monomial_mul a k x)
      ∙ coefficients_scale F a (shift F k x) (k +ₙ j)
      ∙ ap (λ y. a ⊗ y) (coefficient_shift F k x.0 j)

  pub monomial_below : (a : K) (k : ℕ) (x : Polynomial F) (j : ℕ) → j < k → coefficients F (monomial a k * x) j ≡ 𝟎
  unfolding shift
  monomial_below a k x j h =
      ap (λ y. coefficients F y j) (monomial_mul a k x)
      ∙ coefficients_scale F a (shift F k x) j
      ∙ ap (λ y. a ⊗ y) (coefficient_shift_below F k x.0 j h)
      ∙ mul_zero F.ring a

  pub monomial_size : (a : K) (k : ℕ) → size F (monomial a k) ≤ suc k
  unfolding monomial
  monomial_size a k = omega (arith, size_scale_bound F a (shift F k 𝟙), size_shift F k 𝟙 (omega (arith, size_one F)), size_one F)

  -- the size, by the last place that is not zero
  pub holds_size : {H : ℕ → K} {x : Polynomial F} → Holds H x → (e : ℕ) → ((j : ℕ) → e ≤ j → H j ≡ 𝟎) → size F x ≤ e
  holds_size {H} {x} h e z = size_bound F x e (λ j l. h.at j ∙ z j l)

  pub holds_size_exact : {H : ℕ → K} {x : Polynomial F} → Holds H x → (e : ℕ) → ¬ (H e ≡ 𝟎) → ((j : ℕ) → e < j → H j ≡ 𝟎)
      → size F x ≡ suc e
  holds_size_exact {H} {x} h e ne z = size_exact F x e (λ y. ne (sym (h.at e) ∙ y)) (λ j l. h.at j ∙ z j l)

  -- an array holds one polynomial, and lanes of equal places equal polynomials
  pub holds_unique : {H : ℕ → K} {x y : Polynomial F} → Holds H x → Holds H y → x ≡ y
  holds_unique {H} {x} {y} h g = equal_coefficients F x y (λ k. h.at k ∙ sym (g.at k))

  pub shift_injective : (k : ℕ) (x y : Polynomial F) → shift F k x ≡ shift F k y → x ≡ y
  unfolding shift
  shift_injective k x y e = equal_coefficients F x y (λ j.
      sym (coefficient_shift F k x.0 j) ∙ ap (λ z. coefficients F z (k +ₙ j)) e ∙ coefficient_shift F k y.0 j)

  -- x^k·f: k zeros, then f
  pub holds_shift : {H : ℕ → K} {x : Polynomial F} (k : ℕ) → Holds (λ j. H (k +ₙ j)) x → ((j : ℕ) → j < k → H j ≡ 𝟎)
      → Holds H (shift F k x)
  unfolding shift
  holds_shift {H} {x} k h z = record { at = λ j. go j (dec_le k j) }
    where
      go : (j : ℕ) → Dec (k ≤ j) → coefficients F (shift F k x) j ≡ H j
      go j (no l) = coefficient_shift_below F k x.0 j (omega arith) ∙ sym (z j (omega arith))
      go j (yes l) =
          let e : j ≡ k +ₙ (j -ₙ k) = omega arith in
          ap (coefficients F (shift F k x)) e ∙ coefficient_shift F k x.0 (j -ₙ k) ∙ h.at (j -ₙ k) ∙ ap H (sym e)

  -- a step: from place k on, a times the array U is taken off
  module _ {H U H' : ℕ → K} {h u : Polynomial F} (a : K) (k : ℕ) (A : Holds H h) (B : Holds U u)
      (upper : (j : ℕ) → H' (k +ₙ j) ≡ H (k +ₙ j) ⊕ (⊝ (a ⊗ U j))) (lower : (j : ℕ) → j < k → H' j ≡ H j) where
    difference : (j : ℕ)
        → coefficients F (h + (- (monomial a k * u))) j ≡ coefficients F h j ⊕ (⊝ coefficients F (monomial a k * u) j)
    difference j =
        coefficients_add F h (- (monomial a k * u)) j
        ∙ ap (λ y. coefficients F h j ⊕ y) (coefficients_neg F (monomial a k * u) j)

    place : (j : ℕ) → Dec (k ≤ j) → coefficients F (h + (- (monomial a k * u))) j ≡ H' j
    place j (yes l) =
        let e : j ≡ k +ₙ (j -ₙ k) = omega arith in
        ap (coefficients F (h + (- (monomial a k * u)))) e
        ∙ difference (k +ₙ (j -ₙ k))
        ∙ ap₂ (λ y z. y ⊕ (⊝ z)) (A.at (k +ₙ (j -ₙ k))) (monomial_at a k u (j -ₙ k) ∙ ap (λ y. a ⊗ y) (B.at (j -ₙ k)))
        ∙ sym (upper (j -ₙ k))
        ∙ ap H' (sym e)
    place j (no l) =
        difference j
        ∙ ap₂ (λ y z. y ⊕ (⊝ z)) (A.at j) (monomial_below a k u j (omega arith))
        ∙ ap (λ y. H j ⊕ y) (neg_zero F.ring)
        ∙ F.ring.add_zero (H j)
        ∙ sym (lower j (omega arith))

    pub holds_step : Holds H' (h + (- (monomial a k * u)))
    holds_step = record { at = λ j. place j (dec_le k j) }

  -- the polynomial with the coefficients f 0 .. f (l - 1)
  unfoldable pub read : ℕ → (ℕ → K) → Polynomial F
  read zero f = 𝟘
  read (suc l) f = cons F (f 0) (read l (λ k. f (suc k)))

  pub read_at : (l : ℕ) (f : ℕ → K) (k : ℕ) → k < l → coefficients F (read l f) k ≡ f k
  unfolding read
  read_at zero f k h = absurd (omega arith)
  read_at (suc l) f zero h = coefficients_cons_zero F (f 0) (read l (λ k. f (suc k)))
  read_at (suc l) f (suc k) h = coefficients_cons F (f 0) (read l (λ k. f (suc k))) k ∙ read_at l (λ k. f (suc k)) k (omega arith)

  pub read_beyond : (l : ℕ) (f : ℕ → K) (k : ℕ) → l ≤ k → coefficients F (read l f) k ≡ 𝟎
  unfolding read
  read_beyond zero f k h = coefficients_zero F k
  read_beyond (suc l) f zero h = absurd (omega arith)
  read_beyond (suc l) f (suc k) h =
      coefficients_cons F (f 0) (read l (λ k. f (suc k))) k ∙ read_beyond l (λ k. f (suc k)) k (omega arith)

  -- an array that is zero from l on holds the polynomial read from it
  pub read_holds : (l : ℕ) (f : ℕ → K) → ((k : ℕ) → l ≤ k → f k ≡ 𝟎) → Holds f (read l f)
  read_holds l f z = record { at = λ k. go k (dec_le l k) }
    where
      go : (k : ℕ) → Dec (l ≤ k) → coefficients F (read l f) k ≡ f k
      go k (yes h) = read_beyond l f k h ∙ sym (z k h)
      go k (no h) = read_at l f k (omega arith)
