-- A column that fills an empty slot and leaves the others as they are: less a vector of the span of the slots U, its block a has
-- its pivot at the empty slot q. Then the way down needs no division: the coordinate of the column is the coefficient of slot q.
use Rattle.std.specs.Prelude.{ℕ, suc, ◌<◌, ◌≤◌, ◌≡◌, refl, [], ◌∷◌}
use Rattle.std.proofs.Common.{sym, ◌∙◌, ap₂, arith}
use Rattle.std.proofs.Math.Path.{ap}
use Rattle.std.proofs.Math.Decide.{ℕ_discrete}
use Rattle.ring.specs.Ring.{Ring, mul_zero}
use Rattle.ring.specs.Sum.{sum_single}
use Rattle.ring.specs.Identity.{quotes, identity}
use Rattle.algebra.specs.Sized.{Sized}
use Rattle.reduction.specs.Replace.{replace, replace_here, replace_other, extend, extend_below, extend_at, below_suc}
use Rattle.reduction.specs.Pivot.{Pivot, pivot_ext}
use Rattle.reduction.specs.Slots.{Slots, Filled, unweighted, put, put_same, put_here, SameBlocks, same_but_sym}
use Rattle.reduction.specs.Span.{combined, InSpan, span_change, span_change_coefficient, span_combine}
use Rattle.reduction.specs.Span.{span_combine_coefficient, span_blocks, span_blocks_coefficient}
use Rattle.reduction.specs.Trace.{start}
use Rattle.reduction.specs.Insert.{Stuck}
use Rattle.reduction.specs.Inserting.{cleared, begin, Inserting}
use Rattle.reduction.specs.Link.{Link, link_shift}
use Rattle.reduction.specs.Column.{link_put}

-- all tails 0, and (a | 1) of size d in slot q
abbrev pub filled_with : {A : Type 0} (R : Ring A) (n : ℕ) → Slots A → ℕ → (ℕ → A) → ℕ → Slots A
filled_with R n U q a d = put (cleared R n U) q (extend n a R.one) d

-- its blocks, whatever tails W has
pub filled_with_blocks : {A : Type 0} (R : Ring A) {n : ℕ} {U W : Slots A} (q : ℕ) (a : ℕ → A) (d : ℕ) (τ : A) → SameBlocks n W U
    → SameBlocks n (put W q (extend n a τ) d) (filled_with R n U q a d)
filled_with_blocks {A} R {n} {U} {W} q a d τ e = record {
  sizes = λ i h. size i h (ℕ_discrete i q);
  vectors = λ i k h f l. vector i k h f l (ℕ_discrete i q);
}
  where
    W' : Slots A
    W' = put W q (extend n a τ) d

    U' : Slots A
    U' = filled_with R n U q a d

    size : (i : ℕ) → i < n → Dec (i ≡ q) → W'.size i ≡ U'.size i
    size i h (yes r) = ap W'.size r ∙ replace_here W.size q d ∙ sym (ap U'.size r ∙ replace_here U.size q d)
    size i h (no r) = replace_other W.size q d i r ∙ e.sizes i h ∙ sym (replace_other U.size q d i r)

    vector : (i k : ℕ) → i < n → 0 < W'.size i → k < n → Dec (i ≡ q) → W'.at i k ≡ U'.at i k
    vector i k h f l (yes r) =
        ap (λ x. W'.at x k) r ∙ put_here W q (extend n a τ) d k ∙ extend_below n a τ k l
        ∙ sym (ap (λ x. U'.at x k) r ∙ put_here (cleared R n U) q (extend n a R.one) d k ∙ extend_below n a R.one k l)
    vector i k h f l (no r) =
        ap (λ x. x k) (replace_other W.at q (extend n a τ) i r)
        ∙ e.vectors i k h (omega (arith, replace_other W.size q d i r)) l
        ∙ sym (ap (λ x. x k) (replace_other (cleared R n U).at q (extend n a R.one) i r)
        ∙ extend_below n (U.at i) R.zero k l)

module _ {A : Type 0} {R : Ring A} (S : Sized R) (n δ : ℕ) {U : Slots A} (full : Filled S n unweighted U) {a : ℕ → A} {q d : ℕ}
    (P : Pivot S n unweighted a q d) (empty : U.size q ≡ 0) where
  open R use {add as ◌+◌, mul as ◌*◌, neg as -◌, zero as 𝟘, one as 𝟙}

  infixl 65 ◌+◌
  infixl 65 ◌-◌
  infixl 70 ◌*◌
  infix 75 -◌
  abbrev ◌-◌ : A → A → A
  x - y = x + (- y)

  abbrev U' : Slots A
  U' = filled_with R n U q a d

  -- an insertion that stops at once
  X : Inserting S n unweighted U a
  X = record { size = d; now = begin R n U a d; trace = start }

  stuck : Stuck S n unweighted (begin R n U a d)
  stuck = record { at = q; pivot = pivot_ext (λ i h. sym (extend_below n a 𝟙 i h)) P; empty = empty }

  pub filled_link : {b : ℕ → A} → d ≤ suc δ → InSpan R n n U (λ k. b k - a k) → Link S n δ b U (filled_with R n U q a d) R.zero
  unfolding X stuck
  filled_link small s = link_shift S n δ s (link_put S n δ a U full X U' stuck
      (put_same (cleared R n U) q (extend n a 𝟙) d P.inside) (λ k h. put_here (cleared R n U) q (extend n a 𝟙) d k)
      (replace_here U.size q d) small)

  -- the way down: t is in the span of the blocks of U', b less a in that of U
  module _ {t : ℕ → A} (s : InSpan R n n (filled_with R n U q a d) t) {b : ℕ → A} (f : InSpan R n n U (λ k. b k - a k)) where
    abbrev c : ℕ → A
    c = s.coefficient

    tail : (i : ℕ) → i < n → ¬ (i ≡ q) → c i * U'.at i n ≡ 𝟘
    tail i h r = ap (λ x. c i * x n) (replace_other (cleared R n U).at q (extend n a 𝟙) i r)
        ∙ ap (λ x. c i * x) (extend_at n (U.at i) 𝟘) ∙ mul_zero R (c i)

    -- the combination of the tails is the coefficient of slot q
    pub filled_tails : InSpan R n (suc n) (filled_with R n U q a d) (extend n t (s.coefficient q))
    filled_tails = record {
      coefficient = c;
      empty = s.empty;
      equal = below_suc n (λ k. extend n t (c q) k ≡ combined R n c U' k) (λ k h. extend_below n t (c q) k h ∙ s.equal k h)
          (extend_at n t (c q) ∙ sym (sum_single R n q (λ i. c i * U'.at i n) P.inside tail
          ∙ ap (λ x. c q * x) (put_here (cleared R n U) q (extend n a 𝟙) d n ∙ extend_at n a 𝟙)
          ∙ identity R (c q ∷ []) (λ ρ qc. search quotes depth 16) refl));
    }

    blocks : SameBlocks n (cleared R n U) U
    blocks = record { sizes = λ i h. refl; vectors = λ i k h g l. extend_below n (U.at i) 𝟘 k l }

    kept : (k : ℕ) → k < n → t k - c q * a k ≡ t k - c q * U'.at q k + 𝟘 * (cleared R n U).at q k
    kept k h = sym (ap (λ x. t k - c q * x + 𝟘 * (cleared R n U).at q k)
        (put_here (cleared R n U) q (extend n a 𝟙) d k ∙ extend_below n a 𝟙 k h)
        ∙ identity R (t k ∷ c q ∷ a k ∷ (cleared R n U).at q k ∷ []) (λ ρ qt qc qa qu. search quotes depth 16) refl)

    abbrev changed : InSpan R n n (cleared R n U) (λ k. t k - c q * a k)
    changed = span_change R (omega arith) (same_but_sym (put_same (cleared R n U) q (extend n a 𝟙) d P.inside)) s 𝟘 (λ z. refl)
        (λ k. t k - c q * a k) kept

    without : InSpan R n n U (λ k. t k - c q * a k)
    without = span_blocks R blocks changed

    less_without : (k : ℕ) → k < n → t k - c q * b k ≡ 𝟙 * (t k - c q * a k) + (- c q) * (b k - a k)
    less_without k h = identity R (t k ∷ c q ∷ a k ∷ b k ∷ []) (λ ρ qt qc qa qb. search quotes depth 16) refl

    -- and what is left without its multiple of b is in the span of U
    pub filled_lowered : InSpan R n n U (λ k. t k - s.coefficient q * b k)
    filled_lowered = span_combine R 𝟙 (- c q) without f (λ k. t k - c q * b k) less_without

    abbrev g : ℕ → A
    g = f.coefficient

    lowered_coefficient : (i : ℕ) → filled_lowered.coefficient i ≡ 𝟙 * replace c q 𝟘 i + (- c q) * g i
    unfolding filled_lowered without
    lowered_coefficient i =
        span_combine_coefficient R 𝟙 (- c q) without f (λ k. t k - c q * b k) less_without i
        ∙ ap (λ x. 𝟙 * x + (- c q) * g i) (span_blocks_coefficient R blocks changed i
        ∙ span_change_coefficient R (omega arith) (same_but_sym (put_same (cleared R n U) q (extend n a 𝟙) d P.inside)) s 𝟘
        (λ z. refl) (λ k. t k - c q * a k) kept i)

    pub filled_coefficient : (i : ℕ) → i < n
        → filled_lowered.coefficient i ≡ s.coefficient i - s.coefficient q * replace f.coefficient q 𝟙 i
    filled_coefficient i h = lowered_coefficient i ∙ go (ℕ_discrete i q)
      where
        go : Dec (i ≡ q) → 𝟙 * replace c q 𝟘 i + (- c q) * g i ≡ c i - c q * replace g q 𝟙 i
        go (yes r) =
            ap₂ (λ x y. 𝟙 * x + (- c q) * y) (ap (replace c q 𝟘) r ∙ replace_here c q 𝟘)
            (ap g r ∙ f.empty q P.inside empty)
            ∙ identity R (c q ∷ []) (λ ρ qc. search quotes depth 16) refl
            ∙ sym (ap₂ (λ x y. x - c q * y) (ap c r) (ap (replace g q 𝟙) r ∙ replace_here g q 𝟙))
        go (no r) =
            ap (λ x. 𝟙 * x + (- c q) * g i) (replace_other c q 𝟘 i r)
            ∙ identity R (c q ∷ c i ∷ g i ∷ []) (λ ρ qc qi qg. search quotes depth 16) refl
            ∙ sym (ap (λ y. c i - c q * y) (replace_other g q 𝟙 i r))
