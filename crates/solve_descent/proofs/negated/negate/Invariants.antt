-- The loop keeps a `Storing`: one word a turn, and behind the n words those that stay.
use mathlib.Core.List.{◌++◌}
use lib.ListN.{get_or, drop}
use Rattle.modular.specs.Modulo.{modulo}
use Rattle.vector.proofs.Storing.{Storing}
use Rattle.solve_descent.proofs.negated.negate.Given as goal

abbrev pub invariant-loop-word : goal.invariant-loop-word
invariant-loop-word l =
    Storing (λ i. (modulo l.modulus.p).neg (get_or l.fn.h i 0)) l.fn.h 0 l.n (l.word-items ++ drop l.n l.fn.h) l.word-index
