-- The loop keeps what is stored as far as it has come.
use mathlib.Core.Path.{◌≡◌}
use Prim.Native.Nat.{◌+◌, ◌*◌}
use lib.ListN.{length, get_or}
use Rattle.solve_lattice.specs.LaneStored.{lane}
use Rattle.solve_second.proofs.lane.copy_lane.Given as goal

abbrev pub invariant-loop-e : goal.invariant-loop-e
invariant-loop-e l =
    (length l.block ≡ length l.initial.block) × (l.block ≡ lane (λ j. get_or l.level (l.from + l.step * j) 0) l.initial.block l.to l.e)
