use mathlib.Core.Path.{◌≡◌}
use borrow.Author.Rules.{rules}
use lib.ListN.{length}
use Rattle.residue.specs.Modulus.{valid_modulus}
use Rattle.solve_lattice.specs.Room.{product_words}
use Rattle.solve_descent.proofs.Negating.{negated_below}
use Rattle.solve_descent.proofs.Combining.{blocks_combined}
use Rattle.solve_descent.proofs.blocks.combine_blocks.Goals as goal

pub subtract_blocks-requires-clause-factors : goal.subtract_blocks-requires-clause-factors
subtract_blocks-requires-clause-factors c =
    let given = c.requires in
    let long : length c.args.quotients.now ≡ product_words = search rules in
    negated_below given.degrees long given.factors c.negate.ensures (valid_modulus c.args.modulus).prime

pub returns : goal.returns
returns c =
    let given = c.requires in
    let long : length c.args.quotients.now ≡ product_words = search rules in
    blocks_combined c.args.level.now given.bounds.1 given.bounds.0 given.degrees long given.factors given.zero c.negate.ensures
    c.subtract_blocks.ensures c.clear.ensures
