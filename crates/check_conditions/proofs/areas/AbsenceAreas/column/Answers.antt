-- Every entry of the column with the polynomial of its row.
use native.Mathlib.Omega.{arith}
use Rattle.polynomial.specs.Value.{represents_is}
use Rattle.check_conditions.proofs.Terms.{column_sum}
use Rattle.check_conditions.proofs.areas.AbsenceAreas.column.Goals as goal

pub returns : goal.returns
returns c =
    let S = c in
    represents_is c.sum_of_products.ensures (column_sum _ _ _ S.args.self.now.loaded 0 (omega arith) _ S.requires)
