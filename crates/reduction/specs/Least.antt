-- The tail with which an insertion of a into U ends generates the ideal of all κ with κ·a in the span of U; where it is stuck, that
-- is 0.
use Rattle.std.specs.Prelude.{ℕ, suc, ◌-◌ as ◌-ₙ◌, ◌+◌ as ◌+ₙ◌, ◌<◌, ◌≤◌, ◌≡◌, refl, [], ◌∷◌}
use Rattle.std.proofs.Common.{sym, ◌∙◌, ap, ap₂, arith}
use Rattle.ring.specs.Ring.{Ring, zero_mul, mul_zero}
use Rattle.ring.specs.Sum.{sum_none}
use Rattle.ring.specs.Identity.{quotes, identity}
use Rattle.ring.specs.Combination.{given, combination}
use Rattle.algebra.specs.Sized.{Sized, zero_decided, size_positive, size_neg_equal}
use Rattle.algebra.specs.Divides.{Divides}
use Rattle.reduction.specs.Replace.{extend, extend_below, extend_at}
use Rattle.reduction.specs.Pivot.{Vanishes, pivot_ext, pivot_scale}
use Rattle.reduction.specs.Slots.{Slots, Filled}
use Rattle.reduction.specs.Span.{combined, InSpan, InSpanWith, span_combine}
use Rattle.reduction.specs.Independence.{span_independent, span_pivot}
use Rattle.reduction.specs.Trace.{State}
use Rattle.reduction.specs.Insert.{Stuck}
use Rattle.reduction.specs.Inserting.{Inserting, kept, inserting_old, inserting_new}

module _ {A : Type 0} {R : Ring A} {S : Sized R} {n : ℕ} {ω : ℕ → ℕ} {U : Slots A} {a : ℕ → A}
    (full : Filled S n ω U) (X : Inserting S n ω U a) (κ : A) (s : InSpan R n n U (λ k. R.mul κ (a k))) where
  open R use {add as ◌+◌, mul as ◌*◌, neg as -◌, zero as 𝟘, one as 𝟙}

  infixl 65 ◌+◌
  infixl 65 ◌-◌
  infixl 70 ◌*◌
  infix 75 -◌
  abbrev ◌-◌ : A → A → A
  a - b = a + (- b)

  abbrev t : State A
  t = X.now

  old : InSpanWith R n (suc n) X.now.slots X.now.hand (extend n (λ k. κ * a k) 𝟘)
  old = inserting_old full X (λ k. κ * a k) s

  new : InSpanWith R n (suc n) X.now.slots X.now.hand (extend n a 𝟙)
  new = inserting_new full X

  μ : A
  μ = κ * new.multiple - old.multiple

  -- (0 | κ) = κ·(a | 1) - (κ·a | 0)
  abbrev x : ℕ → A
  x k = κ * extend n a 𝟙 k - extend n (λ i. κ * a i) 𝟘 k

  rest : InSpan R n (suc n) X.now.slots (λ k. x k - μ * X.now.hand k)
  unfolding μ
  rest = span_combine R κ (- 𝟙) new.rest old.rest (λ k. x k - μ * t.hand k)
      (λ k h. identity R (κ ∷ extend n a 𝟙 k ∷ extend n (λ i. κ * a i) 𝟘 k ∷ new.multiple ∷ old.multiple ∷ t.hand k ∷ [])
      (λ ρ qκ qa qb qn qo qh. search quotes depth 20) refl)

  block : (k : ℕ) → k < n → x k ≡ 𝟘
  block k h = ap₂ (λ y z. κ * y - z) (extend_below n a 𝟙 k h) (extend_below n (λ i. κ * a i) 𝟘 k h) ∙ R.add_neg (κ * a k)

  tail : x n ≡ κ
  tail = ap₂ (λ y z. κ * y - z) (extend_at n a 𝟙) (extend_at n (λ i. κ * a i) 𝟘)
      ∙ identity R (κ ∷ []) (λ ρ qκ. search quotes depth 16) refl

  multiple : ((k : ℕ) → k < n → μ * t.hand k ≡ 𝟘) → κ ≡ μ * t.hand n
  multiple z = combination R κ (μ * t.hand n)
      (given (- 𝟙) tail ∷ given 𝟙 (rest.equal n (omega arith) ∙ none) ∷ [])
      (identity R (κ ∷ x n ∷ μ ∷ t.hand n ∷ []) (λ ρ qκ qx qm qh. search quotes depth 16) refl)
    where
      coefficients : (q : ℕ) → q < n → rest.coefficient q ≡ 𝟘
      coefficients = span_independent (kept full X).filled (omega arith) rest
          (λ k h. ap₂ (λ y v. y - v) (block k h) (z k h) ∙ R.add_neg 𝟘)

      none : combined R n rest.coefficient t.slots n ≡ 𝟘
      none = sum_none R n (λ q. rest.coefficient q * t.slots.at q n)
          (λ q h. ap (λ y. y * t.slots.at q n) (coefficients q h) ∙ zero_mul R (t.slots.at q n))

  pub inserting_least : Vanishes R n X.now.hand → Divides R (X.now.hand n) κ
  inserting_least z = record { cofactor = μ; product = multiple (λ k h. ap (λ y. μ * y) (z k h) ∙ mul_zero R μ) }

  -- μ·(hand) would have its pivot at the empty slot
  pub inserting_none : Stuck S n ω X.now → κ ≡ 𝟘
  inserting_none K = multiple (λ k h. ap (λ y. y * t.hand k) none ∙ zero_mul R (t.hand k)) ∙ ap (λ y. y * t.hand n) none
      ∙ zero_mul R (t.hand n)
    where
      none : μ ≡ 𝟘
      none = go (zero_decided S μ)
        where
          go : Dec (μ ≡ 𝟘) → μ ≡ 𝟘
          go (yes e) = e
          go (no e) = absurd (omega (arith, filled.0, K.empty))
            where
              filled : (0 < t.slots.size K.at) × (t.slots.size K.at ≤ (S.size (- μ) +ₙ t.size) -ₙ 1)
              filled = span_pivot (kept full X).filled (omega arith) rest
                  (pivot_ext (λ k h. sym (ap (λ y. y - μ * t.hand k) (block k h)
                  ∙ identity R (μ ∷ t.hand k ∷ []) (λ ρ qm qh. search quotes depth 16) refl))
                  (pivot_scale (- μ) (omega (arith, size_positive S μ e, size_neg_equal S μ)) K.pivot))
