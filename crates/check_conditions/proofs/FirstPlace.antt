-- A row of the table that is tried at one place after another: its loop's invariant, and what is told at the first place where the
-- condition holds, or where there is none.
use mathlib.Core.Path.{◌≡◌, refl, sym, ap, ◌∙◌}
use mathlib.Core.Logic.{◌⊎◌, inl, inr}
use mathlib.Core.Bool.{Bool, true, false}
use Prim.Native.Nat.{ℕ, zero, suc, ◌+◌, ◌≤◌, ◌<◌}
use native.Mathlib.Nat.{eq-or-lt_of_le, le_of_suc-le-suc}
use native.Mathlib.Omega.{arith}
use borrow.Author.Count.{below_more}
use Rattle.words.specs.Outcome.{Outcome, refuse}
use Rattle.words.specs.Outcome.Outcome.{accepted, refused}
use Rattle.truth.specs.Verdict.{refuse_first}

-- the places before i are passed
pub record Passing (n : ℕ) (holds : ℕ → Bool) (i : ℕ) : Type 0 where
  pub within : i ≤ n
  pub free : (k : ℕ) → k < i → holds k ≡ false

refuse_first_none : {A : Type 0} (n : ℕ) (holds : ℕ → Bool) (number : ℕ) (next : Outcome A) → ((k : ℕ) → k < n → holds k ≡ false)
    → refuse_first n holds number next ≡ next
unfolding refuse_first
refuse_first_none zero holds number next free = refl
refuse_first_none (suc n) holds number next free =
    refuse_first_none n holds number (refuse (holds n) number n next) (λ k lt. free k (omega arith))
    ∙ ap (λ t. refuse t number n next) (free n (omega arith))

refuse_first_at : {A : Type 0} (n : ℕ) (holds : ℕ → Bool) (number : ℕ) (next : Outcome A) (i : ℕ) → i < n
    → ((k : ℕ) → k < i → holds k ≡ false) → holds i ≡ true → refuse_first n holds number next ≡ refused number i
unfolding refuse_first
refuse_first_at zero holds number next i lt free here = absurd (omega arith)
refuse_first_at (suc n) holds number next i lt free here =
    go (eq-or-lt_of_le (le_of_suc-le-suc lt)) (refuse_first_at n holds number (refuse (holds n) number n next) i)
  where
    go : (i ≡ n) ⊎ (i < n)
        → (i < n → ((k : ℕ) → k < i → holds k ≡ false) → holds i ≡ true
        → refuse_first n holds number (refuse (holds n) number n next) ≡ refused number i)
        → refuse_first n holds number (refuse (holds n) number n next) ≡ refused number i
    go (inl e) before =
        refuse_first_none n holds number (refuse (holds n) number n next) (λ k l. free k (omega arith))
        ∙ ap (λ t. refuse t number n next) (ap holds (sym e) ∙ here)
        ∙ ap (refused number) (sym e)
    go (inr l) before = before l free here

module _ {n : ℕ} {holds : ℕ → Bool} {i : ℕ} (so_far : Passing n holds i) where
  pub passing_turn : i < n → holds i ≡ false → Passing n holds (i + 1)
  passing_turn lt here = record { within = omega arith; free = below_more _ _ so_far.free here }

  pub passing_found : (number : ℕ) → i < n → holds i ≡ true
      → ◌≡◌ {A = Outcome (Unit {0})} (refused number i) (refuse_first n holds number (accepted tt))
  passing_found number lt here = sym (refuse_first_at n holds number (accepted tt) i lt so_far.free here)

  pub passing_end : (number : ℕ) → n ≤ i → ◌≡◌ {A = Outcome (Unit {0})} (accepted tt) (refuse_first n holds number (accepted tt))
  passing_end number past = sym (refuse_first_none n holds number (accepted tt) (λ k lt. so_far.free k (omega arith)))
