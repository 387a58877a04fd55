use Rattle.std.proofs.Common.{◌≡◌, ℕ, ◌<◌}
use Rattle.vector.proofs.Storing.{Storing}
use Rattle.vector.proofs.each.store_each.Given as goal

abbrev pub invariant-loop-j : goal.invariant-loop-j
invariant-loop-j g l =
    (f : ℕ → ℕ) → ((j x : ℕ) → j < l.n → goal.F-post g l.rule j x → x ≡ f j) → Storing f l.initial.word-items 0 l.n l.word-items l.j
