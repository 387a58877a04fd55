-- The loop keeps what `Transposing` says of the lanes so far.
use Prim.Native.Nat.{◌+◌, ◌*◌}
use Rattle.solve_second.specs.TransposeFilling.{Transposing}
use Rattle.solve_lattice.specs.Room.{lanes}
use Rattle.solve_second.proofs.transpose.transpose_slot.Given as goal

abbrev pub invariant-loop-i : goal.invariant-loop-i
invariant-loop-i l = Transposing l.level l.n l.initial.transposed l.transposed (lanes * l.k + l.i)
