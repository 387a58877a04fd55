-- The loop keeps a `Reducing`.
use Rattle.solve_lattice.specs.Remainder.{Reducing}
use Rattle.solve_lattice.proofs.remainder.reduce_words.Given as goal

abbrev pub invariant-loop-k : goal.invariant-loop-k
invariant-loop-k l = Reducing l.modulus.p l.level l.initial.block l.initial.tail l.n l.k l.block l.tail
