use Rattle.std.proofs.Common.{◌+◌, ◌%◌, get_or}
use Rattle.vector.proofs.Storing.{Storing}
use Rattle.vector.proofs.range.exchange.Given as goal

abbrev pub invariant-loop-j : goal.invariant-loop-j
invariant-loop-j l =
    Storing (λ i. get_or l.initial.s (l.a + i) 0) l.initial.word-items 0 l.n l.word-items l.j
    × Storing (λ i. get_or l.fn.h i 0 % l.modulus.p) l.initial.s l.a l.n l.s l.j
