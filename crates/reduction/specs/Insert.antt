-- insert of mathematics.md as a function: it ends, with the hand's block zero or stuck at an empty slot.
use Rattle.std.specs.Prelude.{ℕ, zero, suc, ◌<◌, ◌≤◌, ◌+◌ as ◌+ₙ◌, ◌-◌ as ◌-ₙ◌, ◌*◌ as ◌*ₙ◌, ◌≡◌, ◌⊎◌}
use Rattle.std.proofs.Math.Path.{refl, ap}
use Rattle.std.proofs.Common.{sym, ◌∙◌, subst₂, inl, inr}
use native.Mathlib.Omega.{arith}
use Rattle.std.proofs.Math.Decide.{ℕ_discrete, dec_le}
use Rattle.ring.specs.Ring.{Ring}
use Rattle.algebra.specs.Sized.{Sized}
use Rattle.ring.specs.Total.{total}
use Rattle.reduction.specs.Total.{total_change}
use Rattle.reduction.specs.Replace.{replace_here, replace_other}
use Rattle.reduction.specs.Pivot.{Vanishes, Pivot, Low, Before, low_pivot, HasPivot, find_pivot}
use Rattle.reduction.specs.Step.{place, place_before, step_low}
use Rattle.reduction.specs.Slots.{Filled, put, put_same, put_here, filled_but, same_refl}
use Rattle.reduction.specs.Euclidean.{Euclidean, Cancelling}
use Rattle.reduction.specs.Trace.{State, Trace, start, step, exchange}

-- the slot at the hand's pivot is empty
pub record Stuck {A : Type 0} {R : Ring A} (S : Sized R) (n : ℕ) (ω : ℕ → ℕ) (s : State A) : Type 0 where
  pub at : ℕ
  pub pivot : Pivot S n ω s.hand at s.size
  pub empty : s.slots.size at ≡ 0

-- where insert stops
abbrev pub Stop : {A : Type 0} {R : Ring A} (S : Sized R) (n : ℕ) (ω : ℕ → ℕ) (s : State A) → Type 0
Stop {A} {R} S n ω s = Vanishes R n s.hand ⊎ Stuck S n ω s

pub record Inserted {A : Type 0} {R : Ring A} (S : Sized R) (n : ℕ) (ω : ℕ → ℕ) (s : State A) : Type 0 where
  pub last : State A
  pub trace : Trace S n ω s last
  pub stop : Stop S n ω last

-- what falls with each step: the places of all vectors
unfoldable pub measure : {A : Type 0} → ℕ → State A → ℕ → ℕ
measure n s p = total n s.slots.size *ₙ n +ₙ place n p s.size

module _ {A : Type 0} {R : Ring A} {S : Sized R} (E : Euclidean S) (n : ℕ) (ω : ℕ → ℕ) (s₀ : State A) where
  open R use {add as ◌+◌, mul as ◌*◌, neg as -◌}
  open S use {size}

  infixl 65 ◌+◌
  infixl 65 ◌-◌
  infixl 70 ◌*◌
  infix 75 -◌
  abbrev ◌-◌ : A → A → A
  a - b = a + (- b)

  -- a state on the way, its hand not zero
  record Going (s : State A) (p : ℕ) : Type 0 where
    pub trace : Trace S n ω s₀ s
    pub full : Filled S n ω s.slots
    pub pivot : Pivot S n ω s.hand p s.size

  -- and no shorter than the slot at its pivot
  record Ready (s : State A) (p : ℕ) : Type 0 where
    pub state : State A
    pub going : Going state p
    pub filled : 0 < state.slots.size p
    pub longer : state.slots.size p ≤ state.size
    pub same : measure n state p ≡ measure n s p

  -- exchange the two if need be
  module _ (s : State A) (p : ℕ) (G : Going s p) (f : 0 < s.slots.size p) where
    P : Pivot S n ω s.hand p s.size
    P = G.pivot

    exchanged : State A
    exchanged = record { slots = put s.slots p s.hand s.size; hand = s.slots.at p; size = s.slots.size p }

    put_size : (put s.slots p s.hand s.size).size p ≡ s.size
    put_size = replace_here s.slots.size p s.size

    positive : 0 < (put s.slots p s.hand s.size).size p
    positive = omega (arith, P.positive, P.reached, put_size)

    same_measure : measure n exchanged p ≡ measure n s p
    unfolding measure place exchanged
    same_measure = omega (arith, ap (λ x. x *ₙ n) sums)
      where
        sums : total n (put s.slots p s.hand s.size).size +ₙ s.slots.size p ≡ total n s.slots.size +ₙ s.size
        sums =
            total_change n p (put s.slots p s.hand s.size).size s.slots.size P.inside
            (λ q h. replace_other s.slots.size p s.size q)
            ∙ ap (λ x. total n s.slots.size +ₙ x) put_size

    going_on : Going exchanged p
    unfolding exchanged
    going_on = record {
      trace = exchange G.trace (record {
        swap = record {
          at = p;
          filled = f;
          filled' = positive;
          others = put_same s.slots p s.hand s.size P.inside;
          put = λ k h. put_here s.slots p s.hand s.size k;
          hand = λ k h. refl;
        };
        pivot = P;
        put_size = put_size;
        size = refl;
      });
      full = filled_but (put_same s.slots p s.hand s.size P.inside) G.full
          (subst₂ (λ v d. Pivot S n ω v p d) (sym (replace_here s.slots.at p s.hand)) (sym put_size) P);
      pivot = G.full p P.inside f;
    }

    ready : Ready s p
    unfolding exchanged
    ready = go (dec_le (s.slots.size p) s.size)
      where
        go : Dec (s.slots.size p ≤ s.size) → Ready s p
        go (yes l) = record { state = s; going = G; filled = f; longer = l; same = refl }
        go (no l) = record {
          state = exchanged;
          going = going_on;
          filled = positive;
          longer = omega (arith, put_size);
          same = same_measure;
        }

  -- the step, and on with what is left
  module _ (fuel : ℕ) (rec : (t : State A) (q : ℕ) → Going t q → measure n t q < fuel → Inserted S n ω s₀)
      (s : State A) (p : ℕ) (m : measure n s p < suc fuel) (x : Ready s p) where
    abbrev t : State A
    t = x.state

    D : Pivot S n ω t.hand p t.size
    D = x.going.pivot

    Q : Pivot S n ω (t.slots.at p) p (t.slots.size p)
    Q = x.going.full p D.inside x.filled

    c : Cancelling S (t.hand p) (t.slots.at p p)
    c = E.cancel (t.hand p) (t.slots.at p p) Q.positive (omega (arith, x.longer, D.reached, Q.reached))

    h : ℕ → A
    h k = t.hand k - c.factor * t.slots.at p k

    shift : size c.factor ≡ suc (t.size -ₙ t.slots.size p)
    shift = omega (arith, c.shift, D.reached, Q.reached)

    low : Low S n ω h p t.size
    unfolding h
    low = step_low R D Q x.longer c.factor shift c.smaller

    after : (d : ℕ) → d ≤ t.size → Trace S n ω s₀ record { slots = t.slots; hand = h; size = d }
    unfolding h
    after d le = step x.going.trace (record {
      taken = record { at = p; inside = D.inside; filled = x.filled; factor = c.factor; equal = λ k g. refl };
      longer = x.longer;
      shift = omega (arith, shift);
      slots = same_refl t.slots;
      falls = le;
    })

    on : Inserted S n ω s₀
    on = next (find_pivot S ω n h)
      where
        next : HasPivot S ω n h ⊎ Vanishes R n h → Inserted S n ω s₀
        next (inr z) = record {
          last = record { slots = t.slots; hand = h; size = 0 };
          trace = after 0 (omega arith);
          stop = inl z;
        }
        next (inl y) = rec (record { slots = t.slots; hand = h; size = y.size }) y.at
            (record { trace = after y.size (lower before); full = x.going.full; pivot = y.pivot }) smaller
          where
            before : Before y.at y.size p t.size
            before = low_pivot low y.pivot

            lower : Before y.at y.size p t.size → y.size ≤ t.size
            lower (inl l) = omega arith
            lower (inr l) = omega arith

            smaller : measure n record { slots = t.slots; hand = h; size = y.size } y.at < fuel
            smaller = unfold measure in omega (
              arith,
              x.same,
              place_before n y.at y.size p t.size y.pivot.inside D.inside before,
            )

  run : (fuel : ℕ) (s : State A) (p : ℕ) → Going s p → measure n s p < fuel → Inserted S n ω s₀
  run zero s p G m = absurd (omega arith)
  run (suc fuel) s p G m = go (λ t. run fuel t) (ℕ_discrete (s.slots.size p) 0)
    where
      go : ((t : State A) (q : ℕ) → Going t q → measure n t q < fuel → Inserted S n ω s₀)
          → Dec (s.slots.size p ≡ 0) → Inserted S n ω s₀
      go rec (yes z) = record { last = s; trace = G.trace; stop = inr record { at = p; pivot = G.pivot; empty = z } }
      go rec (no z) = on fuel rec s p m (ready s p G (omega arith))

  -- from a state whose size is that of the hand's block
  pub insert : Filled S n ω s₀.slots → Vanishes R n s₀.hand ⊎ ((p : ℕ) × Pivot S n ω s₀.hand p s₀.size)
      → Inserted S n ω s₀
  insert full (inl z) = record { last = s₀; trace = start; stop = inl z }
  insert full (inr x) =
      run (suc (measure n s₀ x.0)) s₀ x.0 (record { trace = start; full = full; pivot = x.1 }) (omega arith)
