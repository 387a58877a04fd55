-- The loop keeps a `ColumnsStored`: the columns before j are laid out.
use Rattle.solve_layout.specs.Matrix.{ColumnsStored}
use Rattle.solve_layout.proofs.lay_area.Given as goal

abbrev pub invariant-loop-j : goal.invariant-loop-j
invariant-loop-j l = ColumnsStored l.area l.rows l.columns l.j l.initial.input l.input
