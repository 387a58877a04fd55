use mathlib.Core.Path.{refl, ◌∙◌, ap}
use Prim.Native.Nat.{ℕ, ◌+◌, ◌*◌}
use lib.ListN.{length, get_or}
use Rattle.solve_lattice.specs.LaneStored.{length_lane, lane_none, lane_more}
use Rattle.solve_second.proofs.lane.copy_lane.Goals as goal

pub loop-e-init : goal.loop-e-init
loop-e-init c = (refl, lane_none _ _ _)

pub loop-e-preserved : goal.loop-e-preserved
loop-e-preserved c =
    let L = c.loop-e in
    let f : ℕ → ℕ = λ j. get_or c.args.level.now (c.args.from + c.args.step * j) 0 in
    let more = lane_more f c.args.block.now c.args.to L.e L.block _ L.invariant.1 refl in
    (ap length more ∙ length_lane f c.args.block.now c.args.to (L.e + 1), more)
