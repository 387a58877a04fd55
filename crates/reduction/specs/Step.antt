-- L1, a step: a multiple of a vector with the same pivot takes the leading coefficient away, and what is left comes before in the
-- order of pivots. `place` makes this order a number, so that insert and divide end.
use Rattle.std.specs.Prelude.{ℕ, suc, ◌<◌, ◌≤◌, ◌+◌ as ◌+ₙ◌, ◌-◌ as ◌-ₙ◌, ◌*◌ as ◌*ₙ◌, ◌≡◌}
use Rattle.std.proofs.Common.{sym, ap, subst, inl, inr, arith, mul-le-mul_right}
use Rattle.std.proofs.Math.Decide.{ℕ_discrete}
use Rattle.ring.specs.Ring.{Ring}
use Rattle.algebra.specs.Sized.{Sized}
use Rattle.reduction.specs.Pivot.{Pivot, Low, Before, pivot_scale}

-- where a vector of pivot q and weighted size d stands among those of n coordinates
unfoldable pub place : ℕ → ℕ → ℕ → ℕ
place n q d = d *ₙ n +ₙ (n -ₙ suc q)

pub place_before : (n q d q' d' : ℕ) → q < n → q' < n → Before q d q' d' → place n q d < place n q' d'
unfolding place
place_before n q d q' d' h h' (inl k) = omega (arith, mul-le-mul_right n k)
place_before n q d q' d' h h' (inr k) = omega (arith, ap (λ x. x *ₙ n) k.0)

module _ {A : Type 0} (R : Ring A) where
  open R use {add as ◌+◌, mul as ◌*◌, neg as -◌}

  infixl 65 ◌+◌
  infixl 65 ◌-◌
  infixl 70 ◌*◌
  infix 75 -◌
  abbrev ◌-◌ : A → A → A
  a - b = a + (- b)

  module _ {S : Sized R} {n : ℕ} {ω : ℕ → ℕ} where
    open S use {size, size_add, size_neg}

    -- L1: v - c·u, where c has the difference of the degrees and the coefficient at the common pivot gets smaller
    pub step_low : {v u : ℕ → A} {q d e : ℕ} → Pivot S n ω v q d → Pivot S n ω u q e → e ≤ d
        → (c : A) → size c ≡ suc (d -ₙ e) → size (v q - c * u q) < size (v q) → Low S n ω (λ i. v i - c * u i) q d
    step_low {v} {u} {q} {d} {e} P Q le c hc hq = record {
      upto = λ i h k. upto i h k (ℕ_discrete i q);
      all = λ i h. size_add (d -ₙ ω i) (v i) (- (c * u i)) (P.all i h) (size_neg (d -ₙ ω i) (c * u i) (M.all i h));
    }
      where
        M : Pivot S n ω (λ i. c * u i) q d
        M = subst (λ x. Pivot S n ω (λ i. c * u i) q x) (omega arith) (pivot_scale c (omega arith) Q)

        upto : (i : ℕ) → i < n → i ≤ q → Dec (i ≡ q) → size (v i - c * u i) ≤ (d -ₙ 1) -ₙ ω i
        upto i h k (yes r) = subst (λ x. size (v x - c * u x) ≤ (d -ₙ 1) -ₙ ω x) (sym r) (omega arith)
        upto i h k (no r) = size_add ((d -ₙ 1) -ₙ ω i) (v i) (- (c * u i)) (P.before i (omega arith))
            (size_neg ((d -ₙ 1) -ₙ ω i) (c * u i) (M.before i (omega arith)))
