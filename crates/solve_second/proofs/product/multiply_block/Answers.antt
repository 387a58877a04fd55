-- Each step's words are what the next one needs.
use mathlib.Core.Path.{◌≡◌}
use native.Mathlib.Omega.{arith}
use lib.ListN.{length}
use borrow.Author.Rules.{rules}
use Rattle.residue.specs.Modulus.{valid_modulus}
use Rattle.vector.specs.Bound.{zeros_none}
use Rattle.solve_lattice.specs.Room.{product_words, block_words}
use Rattle.solve_second.specs.Negated.{negated_length, negated_below}
use Rattle.solve_second.specs.ProductLaws.{block_multiplied}
use Rattle.solve_second.proofs.product.multiply_block.Goals as goal

pub subtract_product-requires-clause-factors : goal.subtract_product-requires-clause-factors
subtract_product-requires-clause-factors c =
    let m = valid_modulus c.args.modulus in
    let stores = c.store_negated.ensures in (
      omega (arith, negated_length m.prime _ _ c.args.f.now c.args.n stores),
      negated_below m.prime _ _ c.args.f.now c.args.n stores (zeros_none block_words),
    )

pub returns : goal.returns
returns c =
    let m = valid_modulus c.args.modulus in
    let room : length c.args.out.now ≡ product_words = search rules in
    block_multiplied m.prime _ _ c.args.f.now c.args.n c.args.block.now c.args.m c.args.out.now _
    c.requires.bounds.0 c.requires.bounds.0 c.requires.bounds.2 room c.requires.zeros c.store_negated.ensures
    c.subtract_product.ensures
