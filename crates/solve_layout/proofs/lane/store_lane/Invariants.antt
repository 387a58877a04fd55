-- The loop keeps what is stored as far as it has come.
use mathlib.Core.Path.{◌≡◌}
use lib.ListN.{length, get_or}
use Rattle.solve_lattice.specs.LaneStored.{lane}
use Rattle.solve_layout.proofs.lane.store_lane.Given as goal

abbrev pub invariant-loop-e : goal.invariant-loop-e
invariant-loop-e l = (length l.h ≡ length l.initial.h) × (l.h ≡ lane (λ i. get_or l.f i 0) l.initial.h l.d l.e)
