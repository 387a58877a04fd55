use Rattle.std.proofs.Common.{◌%◌, get_or}
use Rattle.vector.proofs.Storing.{Storing}
use Rattle.vector.proofs.range.reduce_range.Given as goal

abbrev pub invariant-loop-word : goal.invariant-loop-word
invariant-loop-word l = Storing (λ i. get_or l.fn.h i 0 % l.modulus.p) l.initial.word-items 0 l.n l.word-items l.word-index
