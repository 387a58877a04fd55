-- Every polynomial of b with that of its row.
use native.Mathlib.Omega.{arith}
use Rattle.polynomial.specs.Value.{represents_is}
use Rattle.check_conditions.proofs.Terms.{side_sum}
use Rattle.check_conditions.proofs.matrix.side.Goals as goal

pub returns : goal.returns
returns c =
    represents_is c.sum_of_products.ensures (side_sum _ _ _ c.requires _ (omega arith))
