-- A vector with tail in memory: its block in one flat array, its tail in another. What loops over these arrays do to the vector.
use Rattle.std.specs.Prelude.{ℕ, ◌<◌, ◌+◌ as ◌+ₙ◌, ◌*◌ as ◌*ₙ◌, ◌≡◌}
use Rattle.algebra.specs.Field.{Field}
use Rattle.algebra.specs.Polynomial.{Polynomial, polynomials}
use Rattle.reduction.specs.Holds.{Holds, monomial, holds_step}
use Rattle.reduction.specs.Flat.{Flat, flat_step}

module _ {K : Type 0} (F : Field K) where
  open F.ring use {add as ◌⊕◌, mul as ◌⊗◌, neg as ⊝◌}
  open polynomials F use {add as ◌+◌, mul as ◌*◌, neg as -◌}

  infixl 65 ◌⊕◌
  infixl 65 ◌+◌
  infixl 70 ◌⊗◌
  infixl 70 ◌*◌
  infix 75 ⊝◌
  infix 75 -◌
  pub record Held (n W : ℕ) (ω : ℕ → ℕ) (H τ : ℕ → K) (v : ℕ → Polynomial F) : Type 0 where
    pub block : Flat F n W ω H v
    pub tail : Holds F τ (v n)

  -- a step on both arrays, by k degrees, is a step on the vector
  module _ {n W : ℕ} {ω : ℕ → ℕ} {H τ U σ H' τ' : ℕ → K} {h u : ℕ → Polynomial F} (a : K) (k : ℕ)
      (A : Held n W ω H τ h) (B : Held n W ω U σ u)
      (upper : (x : ℕ) → H' (k *ₙ W +ₙ x) ≡ H (k *ₙ W +ₙ x) ⊕ (⊝ (a ⊗ U x))) (lower : (x : ℕ) → x < k *ₙ W → H' x ≡ H x)
      (tail_upper : (x : ℕ) → τ' (k +ₙ x) ≡ τ (k +ₙ x) ⊕ (⊝ (a ⊗ σ x))) (tail_lower : (x : ℕ) → x < k → τ' x ≡ τ x) where
    pub held_step : Held n W ω H' τ' (λ i. h i + (- (monomial F a k * u i)))
    held_step = record {
      block = flat_step F a k A.block B.block upper lower;
      tail = holds_step F a k A.tail B.tail tail_upper tail_lower;
    }
