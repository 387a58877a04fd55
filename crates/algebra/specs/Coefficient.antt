-- The coefficients of the result of each operation of `Coefficients`. Canonical lists with equal coefficients are equal, so the
-- laws of the operations need nothing else.
use Prim.Native.Nat.{ℕ, zero, suc, ◌<◌, ◌≤◌, ◌-◌}
use Rattle.std.specs.Prelude.{◌+◌ as ◌+ₙ◌, ◌≡◌, Bool, length}
use Rattle.std.proofs.Math.Path.{refl, sym, ap, ap₂}
use Rattle.std.proofs.Common.{◌∙◌}
use Rattle.std.proofs.Math.Bool.{true, false}
use mathlib.Core.List.{List, [], ◌∷◌}
use native.Mathlib.Omega.{arith}
use Rattle.ring.specs.Ring.{zero_add, mul_zero, neg_zero}
use Rattle.algebra.specs.Field.{Field, operations}
use Rattle.algebra.specs.Operations.{Operations}
use Rattle.algebra.specs.Series.{convolution, unit, zero_convolution}
use Rattle.algebra.specs.Coefficients.{single, cons, one, coefficient, leading, add, negate, subtract, scale, shift, mul}

module _ {A : Type 0} (F : Field A) where
  open F.ring use {add as ◌+◌, mul as ◌*◌, neg as -◌, zero as 𝟘, one as 𝟙, add_zero}

  infixl 65 ◌+◌
  infixl 70 ◌*◌
  infix 75 -◌
  abbrev o : Operations A
  o = operations F

  coefficient_single : (a : A) (b : Bool) → F.zero? a ≡ b → (n : ℕ) → coefficient o (single b a) n ≡ coefficient o (a ∷ []) n
  unfolding single coefficient
  coefficient_single a true e zero = sym (F.zero?_true a e)
  coefficient_single a true e (suc n) = refl
  coefficient_single a false e n = refl

  -- `cons` is `◌∷◌` as far as coefficients go
  pub coefficient_cons : (a : A) (f : List A) (n : ℕ) → coefficient o (cons o a f) n ≡ coefficient o (a ∷ f) n
  unfolding cons
  coefficient_cons a [] n = coefficient_single a (F.zero? a) refl n
  coefficient_cons a (b ∷ f) n = refl

  pub coefficient_one : (n : ℕ) → coefficient o (one o) n ≡ unit F.ring n
  unfolding one coefficient
  coefficient_one zero = coefficient_cons 𝟙 [] 0
  coefficient_one (suc n) = coefficient_cons 𝟙 [] (suc n)

  pub coefficient_add : (f g : List A) (n : ℕ) → coefficient o (add o f g) n ≡ coefficient o f n + coefficient o g n
  unfolding add coefficient
  coefficient_add [] g n = sym (zero_add F.ring (coefficient o g n))
  coefficient_add (a ∷ f) [] n = sym (add_zero (coefficient o (a ∷ f) n))
  coefficient_add (a ∷ f) (b ∷ g) zero = coefficient_cons (a + b) (add o f g) 0
  coefficient_add (a ∷ f) (b ∷ g) (suc n) = coefficient_cons (a + b) (add o f g) (suc n) ∙ coefficient_add f g n

  pub coefficient_negate : (f : List A) (n : ℕ) → coefficient o (negate o f) n ≡ - coefficient o f n
  unfolding negate coefficient
  coefficient_negate [] n = sym (neg_zero F.ring)
  coefficient_negate (a ∷ f) zero = coefficient_cons (- a) (negate o f) 0
  coefficient_negate (a ∷ f) (suc n) = coefficient_cons (- a) (negate o f) (suc n) ∙ coefficient_negate f n

  pub coefficient_subtract : (f g : List A) (n : ℕ) → coefficient o (subtract o f g) n ≡ coefficient o f n + (- coefficient o g n)
  unfolding subtract
  coefficient_subtract f g n =
      coefficient_add f (negate o g) n ∙ ap (λ x. coefficient o f n + x) (coefficient_negate g n)

  pub coefficient_scale : (c : A) (f : List A) (n : ℕ) → coefficient o (scale o c f) n ≡ c * coefficient o f n
  unfolding scale coefficient
  coefficient_scale c [] n = sym (mul_zero F.ring c)
  coefficient_scale c (a ∷ f) zero = coefficient_cons (c * a) (scale o c f) 0
  coefficient_scale c (a ∷ f) (suc n) = coefficient_cons (c * a) (scale o c f) (suc n) ∙ coefficient_scale c f n

  pub coefficient_shift : (k : ℕ) (f : List A) (n : ℕ) → coefficient o (shift o k f) (k +ₙ n) ≡ coefficient o f n
  unfolding shift coefficient
  coefficient_shift zero f n = let e : 0 +ₙ n ≡ n = omega arith in ap (coefficient o f) e
  coefficient_shift (suc k) f n =
      let e : suc k +ₙ n ≡ suc (k +ₙ n) = omega arith in
      ap (coefficient o (cons o 𝟘 (shift o k f))) e
      ∙ coefficient_cons 𝟘 (shift o k f) (suc (k +ₙ n))
      ∙ coefficient_shift k f n

  pub coefficient_shift_below : (k : ℕ) (f : List A) (n : ℕ) → n < k → coefficient o (shift o k f) n ≡ 𝟘
  unfolding shift coefficient
  coefficient_shift_below zero f n h = absurd (omega arith)
  coefficient_shift_below (suc k) f zero h = coefficient_cons 𝟘 (shift o k f) 0
  coefficient_shift_below (suc k) f (suc n) h =
      coefficient_cons 𝟘 (shift o k f) (suc n) ∙ coefficient_shift_below k f n (omega arith)

  pub coefficient_mul : (f g : List A) (n : ℕ)
      → coefficient o (mul o f g) n ≡ convolution F.ring (coefficient o f) (coefficient o g) n
  unfolding mul coefficient
  coefficient_mul [] g n = sym (zero_convolution F.ring (coefficient o g) n)
  coefficient_mul (a ∷ f) g zero =
      coefficient_add (scale o a g) (cons o 𝟘 (mul o f g)) 0
      ∙ ap₂ ◌+◌ (coefficient_scale a g 0) (coefficient_cons 𝟘 (mul o f g) 0)
      ∙ add_zero (a * coefficient o g 0)
  coefficient_mul (a ∷ f) g (suc n) =
      coefficient_add (scale o a g) (cons o 𝟘 (mul o f g)) (suc n)
      ∙ ap₂ ◌+◌ (coefficient_scale a g (suc n)) (coefficient_cons 𝟘 (mul o f g) (suc n) ∙ coefficient_mul f g n)

  pub coefficient_beyond : (f : List A) (n : ℕ) → length f ≤ n → coefficient o f n ≡ 𝟘
  unfolding coefficient
  coefficient_beyond [] n h = refl
  coefficient_beyond (a ∷ f) zero h = absurd (omega arith)
  coefficient_beyond (a ∷ f) (suc n) h = coefficient_beyond f n (omega arith)

  pub coefficient_last : (f : List A) (n : ℕ) → length f ≡ suc n → coefficient o f n ≡ leading o f
  unfolding coefficient leading
  coefficient_last [] n e = absurd (omega arith)
  coefficient_last (a ∷ []) zero e = refl
  coefficient_last (a ∷ []) (suc n) e = absurd (omega arith)
  coefficient_last (a ∷ b ∷ f) zero e = absurd (omega arith)
  coefficient_last (a ∷ b ∷ f) (suc n) e = coefficient_last (b ∷ f) n (omega arith)
