-- One product.
use native.Mathlib.Omega.{arith}
use Rattle.polynomial.specs.Value.{represents_is}
use Rattle.check_conditions.proofs.Terms.{target_sum}
use Rattle.check_conditions.proofs.areas.SolutionAreas.target.Goals as goal

pub returns : goal.returns
returns c =
    let S = c in
    represents_is c.sum_of_products.ensures (target_sum _ _ _ S.args.self.now.loaded _ S.requires (omega arith))
