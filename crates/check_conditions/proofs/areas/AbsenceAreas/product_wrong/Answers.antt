-- The sum is zero or not.
use mathlib.Core.Path.{ap}
use mathlib.Core.Bool.{not}
use Rattle.check_conditions.specs.Table.{product_wrong}
use Rattle.check_conditions.proofs.Tests.{zero_test}
use Rattle.check_conditions.proofs.areas.AbsenceAreas.product_wrong.Goals as goal

pub returns : goal.returns
unfolding product_wrong
returns c = ap not (zero_test c.column.ensures c.is_zero.ensures)
