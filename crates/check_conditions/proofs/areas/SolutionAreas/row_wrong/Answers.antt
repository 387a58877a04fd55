-- The two sums are equal or not.
use mathlib.Core.Path.{ap}
use mathlib.Core.Bool.{not}
use Rattle.check_conditions.specs.Areas.{system_in_slots}
use Rattle.check_conditions.specs.Table.{row_wrong}
use Rattle.check_conditions.proofs.Tests.{equal_test}
use Rattle.check_conditions.proofs.areas.SolutionAreas.row_wrong.Goals as goal

pub returns : goal.returns
unfolding row_wrong system_in_slots
returns c = ap not (equal_test c.row.ensures c.target.ensures c.equal.ensures)
