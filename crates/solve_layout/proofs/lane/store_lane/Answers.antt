use Prim.Native.Nat.{ℕ, ◌+◌}
use mathlib.Core.Path.{refl, ◌∙◌, ap}
use lib.ListN.{length, get_or}
use Rattle.solve_lattice.specs.LaneStored.{lane_none, lane_more, length_lane}
use Rattle.solve_layout.proofs.lane.store_lane.Goals as goal

pub loop-e-init : goal.loop-e-init
loop-e-init c = (refl, lane_none _ _ _)

pub loop-e-preserved : goal.loop-e-preserved
loop-e-preserved c =
    let S = c.args in
    let L = c.loop-e in
    let f : ℕ → ℕ = λ i. get_or S.f.now i 0 in
    let more = lane_more f S.h.now S.d L.e L.h _ L.invariant.1 c.coefficient.ensures in
    (ap length more ∙ length_lane f S.h.now S.d (L.e + 1), more)
