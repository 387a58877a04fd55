-- insert as a trace, section 1 of mathematics.md: steps and exchanges from state to state. Code's loops are read as such traces.
-- Equal states need be equal only where anything looks at them, so that a state may be what memory holds.
use Rattle.std.specs.Prelude.{ℕ, suc, ◌-◌, ◌<◌, ◌≤◌, ◌≡◌}
use Rattle.std.proofs.Common.{ap, arith}
use Rattle.std.proofs.Math.Decide.{ℕ_discrete}
use Rattle.ring.specs.Ring.{Ring}
use Rattle.algebra.specs.Sized.{Sized}
use Rattle.reduction.specs.Pivot.{Pivot}
use Rattle.reduction.specs.Slots.{Slots, Same}
use Rattle.reduction.specs.Moves.{Taken, Swap}

pub record State (A : Type 0) : Type 0 where
  pub slots : Slots A
  pub hand : ℕ → A
  -- the weighted size of the hand's block, 0 where that is zero
  pub size : ℕ

pub record SameState {A : Type 0} (n : ℕ) (s t : State A) : Type 0 where
  pub slots : Same n s.slots t.slots
  pub hand : (k : ℕ) → k < suc n → s.hand k ≡ t.hand k
  pub size : s.size ≡ t.size

module _ {A : Type 0} {R : Ring A} (S : Sized R) (n : ℕ) where
  -- a multiple of a slot is taken off the hand, by no more than the difference of the weighted degrees
  pub record Step (s t : State A) : Type 0 where
    pub taken : Taken R n s.slots s.hand t.hand
    pub longer : s.slots.size taken.at ≤ s.size
    pub shift : S.size taken.factor ≤ suc (s.size - s.slots.size taken.at)
    pub slots : Same n s.slots t.slots
    pub falls : t.size ≤ s.size

  -- the hand and the slot at its pivot change places
  pub record Exchange (ω : ℕ → ℕ) (s t : State A) : Type 0 where
    pub swap : Swap n s.slots s.hand t.slots t.hand
    pub pivot : Pivot S n ω s.hand swap.at s.size
    pub put_size : t.slots.size swap.at ≡ s.size
    pub size : t.size ≡ s.slots.size swap.at

  pub data Trace (ω : ℕ → ℕ) (s : State A) : State A → Type 0 where
    start : Trace ω s s
    alike : {t u : State A} → Trace ω s t → SameState n t u → Trace ω s u
    step : {t u : State A} → Trace ω s t → Step t u → Trace ω s u
    exchange : {t u : State A} → Trace ω s t → Exchange ω t u → Trace ω s u

-- L1: weighted sizes never grow beyond the greatest of all, neither a slot's nor the hand's
pub record Under {A : Type 0} (n H : ℕ) (s : State A) : Type 0 where
  pub slots : (q : ℕ) → q < n → s.slots.size q ≤ H
  pub hand : s.size ≤ H

module _ {A : Type 0} {R : Ring A} {S : Sized R} {n : ℕ} {ω : ℕ → ℕ} where
  under_exchange : {s t : State A} (H : ℕ) → Under n H s → Exchange S n ω s t → Under n H t
  under_exchange {s} {t} H I m = record {
    slots = λ q h. at q h (ℕ_discrete q m.swap.at);
    hand = omega (arith, I.slots m.swap.at m.pivot.inside, m.size);
  }
    where
      at : (q : ℕ) → q < n → Dec (q ≡ m.swap.at) → t.slots.size q ≤ H
      at q h (yes e) = omega (arith, ap t.slots.size e, m.put_size)
      at q h (no e) = omega (arith, I.slots q h, m.swap.others.sizes q h e)

  pub trace_under : {s t : State A} (H : ℕ) → Under n H s → Trace S n ω s t → Under n H t
  trace_under H b start = b
  trace_under H b (alike r e) =
      let I = trace_under H b r in
      record { slots = λ q h. omega (arith, I.slots q h, e.slots.sizes q h); hand = omega (arith, I.hand) }
  trace_under H b (step r m) =
      let I = trace_under H b r in
      record { slots = λ q h. omega (arith, I.slots q h, m.slots.sizes q h); hand = omega (arith, I.hand) }
  trace_under H b (exchange r m) = under_exchange H (trace_under H b r) m
