-- The measure of the cycle: twice the number of columns that are left, and one more for `ascend`, which calls the others at the
-- same column.
use Rattle.std.proofs.Common.{◌+◌, ◌-◌, ◌*◌}
use Rattle.solve_certify.proofs.ascending.+ascending.Given as goal

abbrev pub decreases-ascend : goal.decreases-ascend
decreases-ascend l = 2 * (l.stage.columns - l.stage.column) + 1

abbrev pub decreases-drop_column : goal.decreases-drop_column
decreases-drop_column l = 2 * (l.stage.columns - l.stage.column)

abbrev pub decreases-fill_column : goal.decreases-fill_column
decreases-fill_column l = 2 * (l.stage.columns - l.stage.column)

abbrev pub decreases-insert_column : goal.decreases-insert_column
decreases-insert_column l = 2 * (l.stage.columns - l.stage.column)
