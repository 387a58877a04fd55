-- L5, a column inserted into a level: where it is stuck, the hand goes into a slot of its own; where its block becomes zero, the
-- hand's tail is the column's kernel. The slots U' of the next level may be what memory holds.
use Rattle.std.specs.Prelude.{ℕ, suc, ◌<◌, ◌≤◌, min, ◌+◌ as ◌+ₙ◌, ◌-◌ as ◌-ₙ◌, ◌≡◌, refl, [], ◌∷◌}
use Rattle.std.proofs.Common.{sym, ◌∙◌, ap, ap₂, subst, inl, inr, arith}
use Rattle.ring.specs.Ring.{Ring}
use Rattle.ring.specs.Identity.{quotes, identity}
use Rattle.algebra.specs.Sized.{Sized, size_positive}
use Rattle.algebra.specs.Divides.{divides_refl, divides_equal, divides_trans}
use Rattle.reduction.specs.Total.{degrees, rank_ext, degrees_ext, rank_change, degrees_change}
use Rattle.reduction.specs.Replace.{extend, extend_below}
use Rattle.reduction.specs.Pivot.{Vanishes, Pivot, pivot_ext}
use Rattle.reduction.specs.Slots.{Slots, Filled, unweighted, Same, same_sym, filled_same, SameBut, same_but_sym, filled_but}
use Rattle.reduction.specs.Span.{InSpan, InSpanWith, span_ext, span_fewer, span_same, span_change}
use Rattle.reduction.specs.Tails.{tails_put}
use Rattle.reduction.specs.Trace.{State}
use Rattle.reduction.specs.Kept.{tail_nonzero}
use Rattle.reduction.specs.Insert.{Stuck}
use Rattle.reduction.specs.Inserting.{Inserting, kept, inserting_old, inserting_new, inserting_blocks}
use Rattle.reduction.specs.Least.{inserting_least, inserting_none}
use Rattle.reduction.specs.Link.{Link}

module _ {A : Type 0} {R : Ring A} (S : Sized R) (n δ : ℕ) where
  open R use {add as ◌+◌, mul as ◌*◌, neg as -◌, zero as 𝟘, one as 𝟙}
  open S use {size}

  infixl 65 ◌+◌
  infixl 65 ◌-◌
  infixl 70 ◌*◌
  infix 75 -◌
  abbrev ◌-◌ : A → A → A
  a - b = a + (- b)

  module _ (a : ℕ → A) (U : Slots A) (full : Filled S n unweighted U) (X : Inserting S n unweighted U a) (U' : Slots A) where
    abbrev t : State A
    t = X.now

    abbrev InNow : (ℕ → A) → Type 0
    InNow x = InSpanWith R n (suc n) X.now.slots X.now.hand x

    -- where the span of slots and hand is, in blocks, that of U'
    module _ (into : (x : ℕ → A) → InNow x → InSpan R n n U' x) where
      up_by : (x : ℕ → A) → InSpan R n n U x → InSpan R n n U' x
      up_by x s = span_ext R (into (extend n x 𝟘) (inserting_old full X x s)) x (λ k h. sym (extend_below n x 𝟘 k h))

      new_by : InSpan R n n U' a
      new_by = span_ext R (into (extend n a 𝟙) (inserting_new full X)) a (λ k h. sym (extend_below n a 𝟙 k h))

    -- stuck at p: the hand goes into slot p, and there is no kernel
    module _ (K : Stuck S n unweighted t) (others : SameBut n K.at t.slots U')
        (put : (k : ℕ) → k < suc n → U'.at K.at k ≡ t.hand k) (put_size : U'.size K.at ≡ t.size) where
      abbrev p : ℕ
      p = K.at

      abbrev P : Pivot S n unweighted X.now.hand K.at X.now.size
      P = K.pivot

      positive : 0 < t.size
      positive = omega (arith, P.positive, P.reached)

      sizes : (q : ℕ) → q < n → ¬ (q ≡ p) → U'.size q ≡ t.slots.size q
      sizes q h ne = sym (others.sizes q h ne)

      sums : degrees n U'.size ≡ degrees n t.slots.size +ₙ (t.size -ₙ 1)
      sums = omega (arith, degrees_change n U'.size t.slots.size p P.inside sizes, put_size, K.empty)

      put_into : (x : ℕ → A) → InNow x → InSpan R n n U' x
      put_into x s = span_fewer R (omega arith) (span_change R (omega arith) others s.rest s.multiple
          (λ z. absurd (omega (arith, positive, put_size))) x equal)
        where
          b : A
          b = s.multiple

          equal : (k : ℕ) → k < suc n → x k ≡ x k - b * t.hand k - s.rest.coefficient p * t.slots.at p k + b * U'.at p k
          equal k h = sym (ap₂ (λ y z. x k - b * t.hand k - y * t.slots.at p k + b * z)
              (s.rest.empty p P.inside K.empty) (put k h)
              ∙ identity R (x k ∷ b ∷ t.hand k ∷ t.slots.at p k ∷ []) (λ ρ qx qb qh qp. search quotes depth 16) refl)

      put_from : (x : ℕ → A) → InSpan R n (suc n) U' x → InNow x
      put_from x s = record {
        multiple = c;
        rest = span_change R (omega arith) (same_but_sym others) s 𝟘 (λ z. refl) (λ k. x k - c * t.hand k) equal;
      }
        where
          c : A
          c = s.coefficient p

          equal : (k : ℕ) → k < suc n → x k - c * t.hand k ≡ x k - c * U'.at p k + 𝟘 * t.slots.at p k
          equal k h = ap (λ y. x k - c * y) (sym (put k h))
              ∙ identity R (x k ∷ c ∷ U'.at p k ∷ t.slots.at p k ∷ []) (λ ρ qx qc qu qp. search quotes depth 16) refl

      -- L5, a slot of its own
      pub link_put : X.size ≤ suc δ → Link S n δ a U U' 𝟘
      link_put small = record {
        filled = filled_but others (kept full X).filled
            (subst (Pivot S n unweighted (U'.at p) p) (sym put_size) (pivot_ext (λ i h. sym (put i (omega arith))) P));
        up = up_by put_into;
        new = new_by put_into;
        down = λ x s κ. span_ext R (inserting_blocks full X x (put_from x s)) (λ k. x k - (x n - κ * 𝟘) * a k)
            (λ k h. identity R (x k ∷ x n ∷ κ ∷ a k ∷ []) (λ ρ qx qn qκ qa. search quotes depth 16) refl);
        kind = inl record {
          none = refl;
          one_more = omega (
            arith,
            rank_change n U'.size t.slots.size p P.inside sizes,
            rank_ext n t.slots.size U.size (kept full X).same,
            positive,
            put_size,
            K.empty,
          );
          degrees_le = omega (arith, sums, (kept full X).falls);
          tails = tails_put R (kept full X).tails p P.inside positive U'.size (λ q. U'.at q n) put_size
              (put n (omega arith)) sizes (λ q h ne f. sym (others.vectors q n h ne f (omega arith))) K.empty;
        };
        least = λ κ s. divides_equal (sym (inserting_none full X κ s K)) (divides_refl 𝟘);
      }

    -- block zero: the kernel is the hand's tail
    module _ (z : Vanishes R n X.now.hand) (e : Same n X.now.slots U') where
      keep_into : (x : ℕ → A) → InNow x → InSpan R n n U' x
      keep_into x s = span_same R (omega arith) e (span_ext R (span_fewer R (omega arith) s.rest) x (λ k h.
          sym (ap (λ y. x k - s.multiple * y) (z k h)
          ∙ identity R (x k ∷ s.multiple ∷ []) (λ ρ qx qm. search quotes depth 16) refl)))

      -- x - κ·(hand)
      keep_from : (x : ℕ → A) → InSpan R n (suc n) U' x → (κ : A) → InNow (λ k. x k - κ * t.hand k)
      keep_from x s κ = record {
        multiple = - κ;
        rest = span_ext R (span_same R (omega arith) (same_sym e) s) (λ k. x k - κ * t.hand k - (- κ) * t.hand k)
            (λ k h. identity R (x k ∷ κ ∷ t.hand k ∷ []) (λ ρ qx qκ qh. search quotes depth 16) refl);
      }

      -- L5, a kernel
      pub link_kernel : (kernel : A) → kernel ≡ X.now.hand n → Link S n δ a U U' kernel
      link_kernel kernel ek = record {
        filled = filled_same e (kept full X).filled;
        up = up_by keep_into;
        new = new_by keep_into;
        down = λ x s κ. span_ext R (inserting_blocks full X (λ k. x k - κ * t.hand k) (keep_from x s κ))
            (λ k. x k - (x n - κ * kernel) * a k)
            (λ k h. sym (ap₂ (λ v w. x k - κ * v - (x n - κ * w) * a k) (z k h) (sym ek)
            ∙ identity R (x k ∷ κ ∷ x n ∷ kernel ∷ a k ∷ []) (λ ρ qx qκ qn qe qa. search quotes depth 16) refl));
        kind = inr record {
          positive = nonzero;
          no_more = rank_ext n U'.size U.size (λ q h. ap (min 1) (sym (e.sizes q h)) ∙ (kept full X).same q h);
          degrees_le = omega (
            arith,
            (kept full X).tails.hand (omega (arith, nonzero, ap size ek)),
            ap size ek,
            degrees_ext n t.slots.size U'.size e.sizes,
          );
        };
        least = λ κ s. divides_trans (divides_equal ek (divides_refl kernel)) (inserting_least full X κ s z);
      }
        where
          nonzero : 0 < size kernel
          nonzero = size_positive S kernel (λ y. tail_nonzero (kept full X) z (sym ek ∙ y))
