-- How a column a is inserted into slots U: all tails 0, the hand (a | 1). What is in the span of such slots and hand, in terms of
-- blocks alone.
use Rattle.std.specs.Prelude.{ℕ, suc, ◌<◌, ◌≡◌, refl, [], ◌∷◌}
use Rattle.std.proofs.Common.{sym, ◌∙◌, ap, ap₂, arith}
use Rattle.ring.specs.Ring.{Ring, mul_zero}
use Rattle.ring.specs.Sum.{sum_ext, sum_none}
use Rattle.ring.specs.Identity.{quotes, identity}
use Rattle.ring.specs.Combination.{given, combination}
use Rattle.algebra.specs.Sized.{Sized}
use Rattle.reduction.specs.Replace.{extend, extend_below, extend_at, below_suc}
use Rattle.reduction.specs.Slots.{Slots, Filled, tailed, filled_tailed}
use Rattle.reduction.specs.Span.{combined, InSpan, InSpanWith, with_hand, with_none}
use Rattle.reduction.specs.Trace.{State, Trace}
use Rattle.reduction.specs.Kept.{InsertionBegins, Kept, trace_kept}

module _ {A : Type 0} (R : Ring A) (n : ℕ) (U : Slots A) where
  open R use {add as ◌+◌, mul as ◌*◌, neg as -◌, zero as 𝟘, one as 𝟙}

  infixl 65 ◌+◌
  infixl 65 ◌-◌
  infixl 70 ◌*◌
  infix 75 -◌
  abbrev ◌-◌ : A → A → A
  a - b = a + (- b)

  -- U with all tails 0
  abbrev pub cleared : Slots A
  cleared = tailed n U (λ q. 𝟘)

  -- the weighted size of a is d
  abbrev pub begin : (ℕ → A) → ℕ → State A
  begin a d = record { slots = cleared; hand = extend n a 𝟙; size = d }

  pub begins : {S : Sized R} {ω : ℕ → ℕ} → Filled S n ω U → (a : ℕ → A) (d : ℕ) → InsertionBegins S n ω (begin a d)
  begins full a d = record {
    filled = filled_tailed (λ q. 𝟘) full;
    tails = λ q h f. extend_at n (U.at q) 𝟘;
    tail = extend_at n a 𝟙;
  }

  combined_block : (c : ℕ → A) (k : ℕ) → k < n → combined R n c cleared k ≡ combined R n c U k
  combined_block c k h = sum_ext R n (λ q. c q * extend n (U.at q) 𝟘 k) (λ q. c q * U.at q k)
      (λ q g. ap (λ x. c q * x) (extend_below n (U.at q) 𝟘 k h))

  combined_tail : (c : ℕ → A) → combined R n c cleared n ≡ 𝟘
  combined_tail c = sum_none R n (λ q. c q * extend n (U.at q) 𝟘 n)
      (λ q g. ap (λ x. c q * x) (extend_at n (U.at q) 𝟘) ∙ mul_zero R (c q))

  -- (x | τ) in the span of slots and hand: x - τ·a is in the span of U
  pub begin_blocks : (a x : ℕ → A) → InSpanWith R n (suc n) cleared (extend n a 𝟙) x → InSpan R n n U (λ k. x k - x n * a k)
  begin_blocks a x s = record { coefficient = c; empty = s.rest.empty; equal = equal }
    where
      c : ℕ → A
      c = s.rest.coefficient

      b : A
      b = s.multiple

      tail : b ≡ x n
      tail = combination R b (x n)
          (given (- 𝟙) (s.rest.equal n (omega arith) ∙ combined_tail c) ∷ given (- b) (extend_at n a 𝟙) ∷ [])
          (identity R (b ∷ x n ∷ extend n a 𝟙 n ∷ []) (λ ρ qb qx qa. search quotes depth 16) refl)

      equal : (k : ℕ) → k < n → x k - x n * a k ≡ combined R n c U k
      equal k h =
          ap₂ (λ y z. x k - y * z) (sym tail) (sym (extend_below n a 𝟙 k h))
          ∙ s.rest.equal k (omega arith)
          ∙ combined_block c k h

  -- x in the span of U: (x | 0) is in the span of slots and hand
  pub begin_lift : (a x : ℕ → A) → InSpan R n n U x → InSpanWith R n (suc n) cleared (extend n a 𝟙) (extend n x 𝟘)
  begin_lift a x s = with_none R (extend n a 𝟙) (record {
    coefficient = s.coefficient;
    empty = s.empty;
    equal = below_suc n (λ k. extend n x 𝟘 k ≡ combined R n s.coefficient cleared k)
        (λ k h. extend_below n x 𝟘 k h ∙ s.equal k h ∙ sym (combined_block s.coefficient k h))
        (extend_at n x 𝟘 ∙ sym (combined_tail s.coefficient));
  })

-- the insertion of a into U, as far as it has come
pub record Inserting {A : Type 0} {R : Ring A} (S : Sized R) (n : ℕ) (ω : ℕ → ℕ) (U : Slots A) (a : ℕ → A) : Type 0 where
  pub size : ℕ
  pub now : State A
  pub trace : Trace S n ω (begin R n U a size) now

module _ {A : Type 0} {R : Ring A} {S : Sized R} {n : ℕ} {ω : ℕ → ℕ} {U : Slots A} {a : ℕ → A}
    (full : Filled S n ω U) (X : Inserting S n ω U a) where
  open R use {add as ◌+◌, mul as ◌*◌, neg as -◌, zero as 𝟘, one as 𝟙}

  infixl 65 ◌+◌
  infixl 70 ◌*◌
  infix 75 -◌
  pub kept : Kept S n ω (begin R n U a X.size) X.now
  kept = trace_kept (begins R n U full a X.size) X.trace

  -- the span of its slots and hand has U and a, and nothing else
  pub inserting_old : (x : ℕ → A) → InSpan R n n U x → InSpanWith R n (suc n) X.now.slots X.now.hand (extend n x 𝟘)
  inserting_old x s = kept.to (extend n x 𝟘) (begin_lift R n U a x s)

  pub inserting_new : InSpanWith R n (suc n) X.now.slots X.now.hand (extend n a 𝟙)
  inserting_new = kept.to (extend n a 𝟙) (with_hand R (cleared R n U) (extend n a 𝟙))

  pub inserting_blocks : (x : ℕ → A) → InSpanWith R n (suc n) X.now.slots X.now.hand x
      → InSpan R n n U (λ k. x k + (- (x n * a k)))
  inserting_blocks x s = begin_blocks R n U a x (kept.from x s)

  -- of the hand itself
  pub inserting_hand : InSpan R n n U (λ k. X.now.hand k + (- (X.now.hand n * a k)))
  inserting_hand = inserting_blocks X.now.hand (with_hand R X.now.slots X.now.hand)
