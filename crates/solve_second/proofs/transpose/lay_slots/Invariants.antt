-- The loop keeps what `SlotsSoFar` says.
use Rattle.solve_second.specs.TransposeFilling.{SlotsSoFar}
use Rattle.solve_second.proofs.transpose.lay_slots.Given as goal

abbrev pub invariant-loop-k : goal.invariant-loop-k
invariant-loop-k l = SlotsSoFar l.level l.n l.transposed l.k
