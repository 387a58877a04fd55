-- L3, no cancellation: in a combination of vectors with different pivots the term that comes last in the order of pivots decides
-- the pivot and the weighted size. So slots are independent, and a vector of their span bounds its coefficients.
use Rattle.std.specs.Prelude.{ℕ, zero, suc, ◌-◌, ◌<◌, ◌≤◌, ◌+◌ as ◌+ₙ◌, ◌≡◌, ◌⊎◌}
use Rattle.std.proofs.Math.Path.{sym, ap}
use Rattle.std.proofs.Common.{◌∙◌, subst, inl, inr, arith}
use Rattle.std.proofs.Math.Decide.{ℕ_discrete}
use Rattle.ring.specs.Ring.{Ring, zero_add, zero_mul}
use Rattle.ring.specs.Sum.{sum, sum_none}
use Rattle.algebra.specs.Sized.{Sized, positive_nonzero}
use Rattle.reduction.specs.Replace.{below_suc}
use Rattle.reduction.specs.Pivot.{Vanishes, Pivot, Before, before_decided, pivot_low, pivot_add, pivot_ext, pivot_scale}
use Rattle.reduction.specs.Pivot.{pivot_unique}
use Rattle.reduction.specs.Slots.{Slots, Filled}
use Rattle.reduction.specs.Span.{combined, InSpan}

-- the combination of the first s slots has the pivot and the weighted size of its leading term
pub record Leading {A : Type 0} {R : Ring A} (S : Sized R) (n : ℕ) (ω : ℕ → ℕ) (U : Slots A) (c : ℕ → A) (s : ℕ) : Type 0 where
  pub at : ℕ
  pub inside : at < s
  pub positive : 0 < S.size (c at)
  pub pivot : Pivot S n ω (combined R s c U) at ((S.size (c at) +ₙ U.size at) - 1)
  pub most : (q : ℕ) → q < s → 0 < S.size (c q) → S.size (c q) +ₙ U.size q ≤ S.size (c at) +ₙ U.size at

-- of two weighted sizes, from the order of pivots
before_le : (a b : ℕ) {q q' : ℕ} → 0 < a → 0 < b → Before q (a - 1) q' (b - 1) → a ≤ b
before_le a b ha hb (inl y) = omega arith
before_le a b ha hb (inr y) = omega arith

module _ {A : Type 0} {R : Ring A} {S : Sized R} {n : ℕ} {ω : ℕ → ℕ} where
  open R use {add as ◌+◌, mul as ◌*◌, zero as 𝟘, add_zero}
  open S use {size, size_none}

  infixl 65 ◌+◌
  infixl 70 ◌*◌
  -- by induction on the number of vectors: the new term and the leading one so far have different pivots
  module _ (U : Slots A) (c : ℕ → A) (s : ℕ)
      (pivots : (q : ℕ) → q < suc s → 0 < size (c q) → Pivot S n ω (U.at q) q (U.size q)) where
    -- the weighted size of a term, and one more
    abbrev M : ℕ → ℕ
    M q = size (c q) +ₙ U.size q

    filled : (q : ℕ) → q < suc s → 0 < size (c q) → 0 < U.size q
    filled q h p = let P = pivots q h p in omega (arith, P.positive, P.reached)

    new : 0 < size (c s) → Pivot S n ω (λ j. c s * U.at s j) s (M s - 1)
    new p = pivot_scale (c s) p (pivots s (omega arith) p)

    only_new : ((q : ℕ) → q < s → c q ≡ 𝟘) → 0 < size (c s) → Leading S n ω U c (suc s)
    unfolding sum
    only_new z p = record {
      at = s;
      inside = omega arith;
      positive = p;
      pivot = pivot_ext (λ j h. sym (ap (λ x. x + c s * U.at s j) (none j) ∙ zero_add R (c s * U.at s j))) (new p);
      most = below_suc s (λ q. 0 < size (c q) → M q ≤ M s) (λ q h k. absurd (positive_nonzero S (c q) k (z q h)))
          (λ k. omega arith);
    }
      where
        none : (j : ℕ) → combined R s c U j ≡ 𝟘
        none j = sum_none R s (λ q. c q * U.at q j) (λ q h. ap (λ x. x * U.at q j) (z q h) ∙ zero_mul R (U.at q j))

    only_old : Leading S n ω U c s → size (c s) ≡ 0 → Leading S n ω U c (suc s)
    unfolding sum
    only_old l e = record {
      at = l.at;
      inside = omega (arith, l.inside);
      positive = l.positive;
      pivot = pivot_ext (λ j h. sym (ap (λ x. combined R s c U j + x) (gone j) ∙ add_zero (combined R s c U j))) l.pivot;
      most = below_suc s (λ q. 0 < size (c q) → M q ≤ M l.at) l.most (λ k. absurd (omega arith));
    }
      where
        gone : (j : ℕ) → c s * U.at s j ≡ 𝟘
        gone j = ap (λ x. x * U.at s j) (size_none (c s) e) ∙ zero_mul R (U.at s j)

    both : (l : Leading S n ω U c s) → 0 < size (c s)
        → Before l.at (M l.at - 1) s (M s - 1) ⊎ Before s (M s - 1) l.at (M l.at - 1) → Leading S n ω U c (suc s)
    unfolding sum
    both l p (inr x) = record {
      at = l.at;
      inside = omega (arith, l.inside);
      positive = l.positive;
      pivot = pivot_add l.pivot (pivot_low (new p) x);
      most = below_suc s (λ q. 0 < size (c q) → M q ≤ M l.at) l.most
          (λ k. before_le (M s) (M l.at) (omega arith) (omega (arith, l.positive)) x);
    }
    both l p (inl x) = record {
      at = s;
      inside = omega arith;
      positive = p;
      pivot = pivot_ext (λ j h. R.add_comm (c s * U.at s j) (combined R s c U j)) (pivot_add (new p) (pivot_low l.pivot x));
      most = below_suc s (λ q. 0 < size (c q) → M q ≤ M s)
          (λ q h k. omega (arith, l.most q h k, before_le (M l.at) (M s) (omega (arith, l.positive)) (omega arith) x))
          (λ k. omega arith);
    }

  -- L3
  pub no_cancellation : (U : Slots A) (c : ℕ → A) (s : ℕ)
      → ((q : ℕ) → q < s → 0 < size (c q) → Pivot S n ω (U.at q) q (U.size q))
      → Leading S n ω U c s ⊎ ((q : ℕ) → q < s → c q ≡ 𝟘)
  no_cancellation U c zero p = inr (λ q h. absurd (omega arith))
  no_cancellation U c (suc s) p = go (no_cancellation U c s (λ q h. p q (omega arith))) (ℕ_discrete (size (c s)) 0)
    where
      go : Leading S n ω U c s ⊎ ((q : ℕ) → q < s → c q ≡ 𝟘) → Dec (size (c s) ≡ 0)
          → Leading S n ω U c (suc s) ⊎ ((q : ℕ) → q < suc s → c q ≡ 𝟘)
      go (inr z) (yes e) = inr (below_suc s (λ q. c q ≡ 𝟘) z (size_none (c s) e))
      go (inr z) (no e) = inl (only_new U c s p z (omega arith))
      go (inl l) (yes e) = inl (only_old U c s p l e)
      go (inl l) (no e) = inl (both U c s p l (omega arith)
          (before_decided l.at (M U c s p l.at - 1) s (M U c s p s - 1) (omega (arith, l.inside))))

  -- of a vector of the span
  module _ {l : ℕ} {U : Slots A} {u : ℕ → A} (full : Filled S n ω U) (h : n ≤ l) (s : InSpan R n l U u) where
    -- a slot with a coefficient is filled
    pub coefficient_filled : (q : ℕ) → q < n → 0 < size (s.coefficient q) → 0 < U.size q
    coefficient_filled q g p = go (ℕ_discrete (U.size q) 0)
      where
        go : Dec (U.size q ≡ 0) → 0 < U.size q
        go (yes e) = absurd (positive_nonzero S (s.coefficient q) p (s.empty q g e))
        go (no e) = omega arith

    abbrev Cases : Type 0
    Cases = Leading S n ω U s.coefficient n ⊎ ((q : ℕ) → q < n → s.coefficient q ≡ 𝟘)

    cases : Cases
    cases = no_cancellation U s.coefficient n (λ q g p. full q g (coefficient_filled q g p))

    -- the slots are independent
    pub span_independent : Vanishes R n u → (q : ℕ) → q < n → s.coefficient q ≡ 𝟘
    span_independent z = go cases
      where
        go : Cases → (q : ℕ) → q < n → s.coefficient q ≡ 𝟘
        go (inr y) = y
        go (inl y) = absurd (positive_nonzero S (combined R n s.coefficient U y.at) y.pivot.positive
            (sym (s.equal y.at (omega (arith, y.inside))) ∙ z y.at y.inside))

    -- the coefficients are no larger than the vector allows
    pub coefficient_size : (M : ℕ) → ((k : ℕ) → k < n → size (u k) ≤ M - ω k)
        → (q : ℕ) → q < n → 0 < size (s.coefficient q) → size (s.coefficient q) +ₙ U.size q ≤ suc M
    coefficient_size M b = go cases
      where
        go : Cases → (q : ℕ) → q < n → 0 < size (s.coefficient q) → size (s.coefficient q) +ₙ U.size q ≤ suc M
        go (inr y) q g p = absurd (positive_nonzero S (s.coefficient q) p (y q g))
        go (inl y) q g p = omega (
          arith,
          y.most q g p,
          y.pivot.positive,
          y.pivot.reached,
          b y.at y.inside,
          ap size (s.equal y.at (omega (arith, y.inside))),
        )

    -- its pivot is at a filled slot of no greater weighted size
    pub span_pivot : {p M : ℕ} → Pivot S n ω u p M → (0 < U.size p) × (U.size p ≤ M)
    span_pivot {p} {M} P = go cases
      where
        go : Cases → (0 < U.size p) × (U.size p ≤ M)
        go (inr y) = absurd (positive_nonzero S (u p) P.positive (s.equal p (omega arith)
            ∙ sum_none R n (λ q. s.coefficient q * U.at q p) (λ q g. ap (λ x. x * U.at q p) (y q g) ∙ zero_mul R (U.at q p))))
        go (inl y) =
            let e = pivot_unique (pivot_ext (λ i g. sym (s.equal i (omega arith))) y.pivot) P in
            let f : 0 < U.size y.at = coefficient_filled y.at y.inside y.positive in
            subst (λ x. (0 < U.size x) × (U.size x ≤ M)) e.0 (f, omega (arith, e.1, y.positive))
