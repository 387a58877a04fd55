-- The loop keeps what `SideFilling` says of the lanes so far.
use Rattle.solve_second.specs.SideFilling.{SideFilling}
use Rattle.solve_second.specs.Side.{sided}
use Rattle.solve_second.proofs.second_side.lay_side.Given as goal

abbrev pub invariant-loop-i : goal.invariant-loop-i
invariant-loop-i l = SideFilling (sided l.side l.level) l.n l.initial.block l.block l.i
