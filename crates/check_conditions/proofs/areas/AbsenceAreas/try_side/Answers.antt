-- The sum is zero or not.
use Rattle.check_conditions.proofs.Refusals.{side_zero, side_some}
use Rattle.check_conditions.proofs.Tests.{zero_test}
use Rattle.check_conditions.proofs.areas.AbsenceAreas.try_side.Goals as goal

pub returns-then-is_zero : goal.returns-then-is_zero
returns-then-is_zero c = side_zero _ _ (zero_test c.side.ensures c.is_zero.ensures) c.if-is_zero.true

pub returns : goal.returns
returns c = side_some _ _ (zero_test c.side.ensures c.is_zero.ensures) c.if-is_zero.false
