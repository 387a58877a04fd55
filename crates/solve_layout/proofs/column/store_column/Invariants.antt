-- The loop keeps a `ColumnStored`: the rows before i are in their lanes.
use Rattle.solve_layout.specs.Column.{ColumnStored}
use Rattle.solve_layout.proofs.column.store_column.Given as goal

abbrev pub invariant-loop-i : goal.invariant-loop-i
invariant-loop-i l = ColumnStored l.j l.area l.first l.step l.i l.initial.input l.input
