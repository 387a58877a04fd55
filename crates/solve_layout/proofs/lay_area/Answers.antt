use Prim.Native.Nat.{◌+◌, ◌*◌}
use native.Mathlib.Omega.{arith}
use Rattle.solve_layout.specs.Matrix.{matrix_slot}
use Rattle.solve_layout.proofs.lay_area.Goals as goal

pub store_column-requires-clause-slots : goal.store_column-requires-clause-slots
store_column-requires-clause-slots c i row =
    let L = c.loop-j in
    c.requires.slots (L.j + c.args.columns * i) (omega (arith, matrix_slot c.args.rows c.args.columns i L.j row c.loop-j-test.true))
