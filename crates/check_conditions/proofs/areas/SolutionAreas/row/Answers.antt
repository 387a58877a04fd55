-- Every entry of the row with the numerator of its column.
use Rattle.polynomial.specs.Value.{represents_is}
use Rattle.check_conditions.proofs.Terms.{row_sum}
use Rattle.check_conditions.proofs.areas.SolutionAreas.row.Goals as goal

pub returns : goal.returns
returns c =
    let S = c in
    represents_is c.sum_of_products.ensures (row_sum _ _ _ _ S.requires)
