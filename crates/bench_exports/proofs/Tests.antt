-- Laws of the tests in `Rounds`.
use mathlib.Core.Path.{◌≡◌, refl, ap}
use mathlib.Core.Bool.{Bool, true, false, ◌&&◌}
use mathlib.Core.List.{List, [], ◌∷◌}
use Prim.Native.Nat.{ℕ, zero, suc, ◌≤◌}
use native.Mathlib.Omega.{arith}
use lib.ListN.{get_or}
use lib.Dec.{leb}
use borrow.Author.Tests.{leb-true}
use Rattle.std.specs.List.{list_all}
use Rattle.bench_exports.specs.Rounds.{all_at_most}

pub both : (t u : Bool) → (t && u) ≡ true → (t ≡ true) × (u ≡ true)
both true true e = (refl, refl)
both true false e = (refl, e)
both false u e = (e, absurd (let z : ◌≡◌ {A = ℕ} 0 1 = cc in omega arith))

-- the test of each word
pub all_is : (limit : ℕ) (l : List ℕ) → list_all (λ x. leb x limit) l ≡ all_at_most limit l
unfolding all_at_most
all_is limit [] = refl
all_is limit (x ∷ l) = ap (λ t. leb x limit && t) (all_is limit l)

-- behind the list there are zeros
pub at_most_each : (limit : ℕ) (l : List ℕ) → all_at_most limit l ≡ true → (i : ℕ) → get_or l i 0 ≤ limit
unfolding all_at_most
at_most_each limit [] e i = omega arith
at_most_each limit (x ∷ l) e zero = leb-true x limit (both (leb x limit) (all_at_most limit l) e).0
at_most_each limit (x ∷ l) e (suc i) = at_most_each limit l (both (leb x limit) (all_at_most limit l) e).1 i
