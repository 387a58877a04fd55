-- The loop keeps a `Passing`: no place before is wrong.
use Rattle.std.proofs.Common.{◌≡◌, ℕ, ◌<◌}
use mathlib.Core.Bool.{Bool}
use Rattle.check_conditions.proofs.FirstPlace.{Passing}
use Rattle.check_conditions.proofs.first.refuse_first.Given as goal

abbrev pub invariant-loop-place : goal.invariant-loop-place
invariant-loop-place g l =
    (holds : ℕ → Bool) → ((j : ℕ) (told : Bool) → j < l.count → goal.F-post g l.wrong j told → told ≡ holds j) → Passing l.count holds l.place
