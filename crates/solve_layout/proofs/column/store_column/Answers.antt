use Rattle.solve_layout.specs.Column.{column_turn}
use native.Mathlib.Omega.{arith}
use Rattle.solve_layout.proofs.column.store_column.Goals as goal

pub loop-i-preserved : goal.loop-i-preserved
loop-i-preserved c =
    column_turn c.loop-i.invariant (omega arith) c.requires.j_le_lanes.0 c.requires.j_le_lanes.2 _ _ c.coefficients_in-f.ensures
    c.store_lane.ensures
