-- What an insertion keeps, by induction on its trace: L1, L2 and L4 together.
use Rattle.std.specs.Prelude.{ℕ, suc, ◌<◌, ◌≤◌, min, ◌+◌ as ◌+ₙ◌, ◌-◌ as ◌-ₙ◌, ◌≡◌, refl}
use Rattle.std.proofs.Common.{sym, ◌∙◌, ap, subst, subst₂, arith}
use Rattle.std.proofs.Math.Decide.{ℕ_discrete}
use Rattle.ring.specs.Ring.{Ring, mul_zero, zero_mul}
use Rattle.ring.specs.Sum.{sum_none}
use Rattle.algebra.specs.Sized.{Sized, positive_nonzero, one_nonzero}
use Rattle.reduction.specs.Total.{degrees, degrees_ext, degrees_change}
use Rattle.reduction.specs.Replace.{below_suc}
use Rattle.reduction.specs.Pivot.{Vanishes, Pivot, pivot_ext}
use Rattle.reduction.specs.Slots.{Filled, same_sym, filled_same, filled_but}
use Rattle.reduction.specs.Span.{InSpanWith, span_zero}
use Rattle.reduction.specs.Tails.{Tails, tails_less, tails_step, tails_exchange}
use Rattle.reduction.specs.Moves.{taken_sym, swap_sym, with_same, with_taken, with_swap}
use Rattle.reduction.specs.Moves.{Fresh, fresh_same, fresh_taken, fresh_swap}
use Rattle.reduction.specs.Trace.{State, SameState, Step, Exchange, Trace, start, alike, step, exchange}

-- how an insertion begins: slots with tails 0, a hand with tail 1
pub record InsertionBegins {A : Type 0} {R : Ring A} (S : Sized R) (n : ℕ) (ω : ℕ → ℕ) (s : State A) : Type 0 where
  pub filled : Filled S n ω s.slots
  pub tails : (q : ℕ) → q < n → 0 < s.slots.size q → s.slots.at q n ≡ R.zero
  pub tail : s.hand n ≡ R.one

-- what holds of the state t of an insertion that began with s
pub record Kept {A : Type 0} {R : Ring A} (S : Sized R) (n : ℕ) (ω : ℕ → ℕ) (s t : State A) : Type 0 where
  -- L1: pivots stay in place, the same slots are filled, the sum of the weighted degrees only falls
  pub filled : Filled S n ω t.slots
  pub same : (q : ℕ) → q < n → min 1 (t.slots.size q) ≡ min 1 (s.slots.size q)
  pub falls : degrees n t.slots.size +ₙ (t.size -ₙ 1) ≤ degrees n s.slots.size +ₙ (s.size -ₙ 1)
  -- L2
  pub to : (u : ℕ → A) → InSpanWith R n (suc n) s.slots s.hand u → InSpanWith R n (suc n) t.slots t.hand u
  pub from : (u : ℕ → A) → InSpanWith R n (suc n) t.slots t.hand u → InSpanWith R n (suc n) s.slots s.hand u
  pub fresh : Fresh R n t.slots t.hand
  -- L4
  pub tails : Tails S n (degrees n s.slots.size) t.slots.size (λ q. t.slots.at q n) t.size (t.hand n)

module _ {A : Type 0} {R : Ring A} {S : Sized R} {n : ℕ} {ω : ℕ → ℕ} where
  open R use {mul as ◌*◌, zero as 𝟘, one as 𝟙}
  open S use {size, size_one}

  infixl 70 ◌*◌
  kept_start : {s : State A} → InsertionBegins S n ω s → Kept S n ω s s
  kept_start {s} b = record {
    filled = b.filled;
    same = λ q h. refl;
    falls = omega arith;
    to = λ u x. x;
    from = λ u x. x;
    fresh = fresh;
    tails = record {
      slot = λ q h f y. absurd (positive_nonzero S (s.slots.at q n) y (b.tails q h f));
      hand = λ y. omega (arith, ap size b.tail, size_one);
    };
  }
    where
      -- the tail of a combination of the slots is zero
      fresh : Fresh R n s.slots s.hand
      fresh a x =
          sym (ap (λ y. a * y) b.tail ∙ R.mul_one a)
          ∙ x.equal n (omega arith)
          ∙ sum_none R n (λ q. x.coefficient q * s.slots.at q n) (λ q h. none q h (ℕ_discrete (s.slots.size q) 0))
        where
          none : (q : ℕ) → q < n → Dec (s.slots.size q ≡ 0) → x.coefficient q * s.slots.at q n ≡ 𝟘
          none q h (yes z) = ap (λ y. y * s.slots.at q n) (x.empty q h z) ∙ zero_mul R (s.slots.at q n)
          none q h (no z) = ap (λ y. x.coefficient q * y) (b.tails q h (omega arith)) ∙ mul_zero R (x.coefficient q)

  kept_alike : {s t u : State A} → Kept S n ω s t → SameState n t u → Kept S n ω s u
  kept_alike {s} {t} {u} I e = record {
    filled = filled_same e.slots I.filled;
    same = λ q h. ap (min 1) (sym (e.slots.sizes q h)) ∙ I.same q h;
    falls = omega (arith, I.falls, sums, e.size);
    to = λ x y. with_same R e.slots e.hand x (I.to x y);
    from = λ x y. I.from x (with_same R (same_sym e.slots) (λ k h. sym (e.hand k h)) x y);
    fresh = fresh_same R e.slots e.hand I.fresh;
    tails = record {
      slot = λ q h f y.
          let f' : 0 < t.slots.size q = omega (arith, e.slots.sizes q h) in
          let z : size (t.slots.at q n) ≡ size (u.slots.at q n) = ap size (e.slots.vectors q n h f' (omega arith)) in
          omega (arith, I.tails.slot q h f' (omega arith), sums, e.size, e.slots.sizes q h);
      hand = λ y.
          let z : size (t.hand n) ≡ size (u.hand n) = ap size (e.hand n (omega arith)) in
          omega (arith, I.tails.hand (omega arith), sums);
    };
  }
    where
      sums : degrees n t.slots.size ≡ degrees n u.slots.size
      sums = degrees_ext n t.slots.size u.slots.size e.slots.sizes

  kept_step : {s t u : State A} → Kept S n ω s t → Step S n t u → Kept S n ω s u
  kept_step {s} {t} {u} I m = kept_alike after (record { slots = m.slots; hand = λ k h. refl; size = refl })
    where
      after : Kept S n ω s record { slots = t.slots; hand = u.hand; size = u.size }
      after = record {
        filled = I.filled;
        same = I.same;
        falls = omega (arith, I.falls, m.falls);
        to = λ x y. with_taken R m.taken x (I.to x y);
        from = λ x y. I.from x (with_taken R (taken_sym R m.taken) x y);
        fresh = fresh_taken R m.taken I.fresh;
        tails = tails_less R (tails_step R I.tails m.taken.at m.taken.inside m.taken.filled m.longer
            m.taken.factor m.shift (u.hand n) (m.taken.equal n (omega arith))) u.size m.falls;
      }

  kept_exchange : {s t u : State A} → Kept S n ω s t → Exchange S n ω t u → Kept S n ω s u
  kept_exchange {s} {t} {u} I m = record {
    filled = filled_but m.swap.others I.filled (subst (Pivot S n ω (u.slots.at p) p) (sym m.put_size)
        (pivot_ext (λ i h. sym (m.swap.put i (omega arith))) m.pivot));
    same = λ q h. same q h (ℕ_discrete q p);
    falls = omega (arith, I.falls, sums, m.size);
    to = λ x y. with_swap R m.swap x (I.to x y);
    from = λ x y. I.from x (with_swap R (swap_sym m.swap) x y);
    fresh = fresh_swap R m.swap I.filled I.fresh;
    tails = subst₂ (Tails S n (degrees n s.slots.size) u.slots.size (λ q. u.slots.at q n))
        (sym m.size) (sym (m.swap.hand n (omega arith)))
        (tails_exchange R I.tails p m.pivot.inside (omega (arith, m.pivot.positive, m.pivot.reached))
        u.slots.size (λ q. u.slots.at q n) m.put_size (m.swap.put n (omega arith))
        sizes (λ q h r f. sym (m.swap.others.vectors q n h r f (omega arith))) m.swap.filled);
  }
    where
      p : ℕ
      p = m.swap.at

      sizes : (q : ℕ) → q < n → ¬ (q ≡ p) → u.slots.size q ≡ t.slots.size q
      sizes q h r = sym (m.swap.others.sizes q h r)

      sums : degrees n u.slots.size +ₙ (t.slots.size p -ₙ 1) ≡ degrees n t.slots.size +ₙ (t.size -ₙ 1)
      sums = degrees_change n u.slots.size t.slots.size p m.pivot.inside sizes
          ∙ ap (λ x. degrees n t.slots.size +ₙ (x -ₙ 1)) m.put_size

      same : (q : ℕ) → q < n → Dec (q ≡ p) → min 1 (u.slots.size q) ≡ min 1 (s.slots.size q)
      same q h (yes r) = omega (
        arith,
        I.same q h,
        ap t.slots.size r,
        ap u.slots.size r,
        m.swap.filled,
        m.swap.filled',
      )
      same q h (no r) = ap (min 1) (sizes q h r) ∙ I.same q h

  pub trace_kept : {s t : State A} → InsertionBegins S n ω s → Trace S n ω s t → Kept S n ω s t
  trace_kept b start = kept_start b
  trace_kept b (alike r e) = kept_alike (trace_kept b r) e
  trace_kept b (step r m) = kept_step (trace_kept b r) m
  trace_kept b (exchange r m) = kept_exchange (trace_kept b r) m

  -- a hand whose block is zero has a tail
  pub tail_nonzero : {s t : State A} → Kept S n ω s t → Vanishes R n t.hand → ¬ (t.hand n ≡ 𝟘)
  tail_nonzero {s} {t} I z e = one_nonzero S (I.fresh 𝟙 (span_zero R t.slots (λ k. 𝟙 * t.hand k)
      (below_suc n (λ k. 𝟙 * t.hand k ≡ 𝟘) (λ k h. gone k (z k h)) (gone n e))))
    where
      gone : (k : ℕ) → t.hand k ≡ 𝟘 → 𝟙 * t.hand k ≡ 𝟘
      gone k y = ap (λ x. 𝟙 * x) y ∙ mul_zero R 𝟙
