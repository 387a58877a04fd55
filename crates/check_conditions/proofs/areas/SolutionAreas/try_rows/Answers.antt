use borrow.Author.Rules.{rules}
use Rattle.check_conditions.specs.Areas.{system_in_slots}
use Rattle.check_conditions.specs.Table.{try_rows}
use Rattle.check_conditions.proofs.areas.SolutionAreas.try_rows.Goals as goal

pub returns : goal.returns
unfolding system_in_slots try_rows
returns c = c.refuse_first.ensures _ (λ j told lt post. search rules)
