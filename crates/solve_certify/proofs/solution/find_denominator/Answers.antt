-- `find_denominator` meets its contract: a tail made monic, and its product with the right side.
use native.Mathlib.Omega.{arith}
use Rattle.residue.specs.Modulus.{valid_modulus}
use Rattle.vector.specs.Bound.{zeros_none}
use Rattle.solve_lattice.specs.Room.{block_words}
use Rattle.solve_certify.specs.Denominator.{side_below, monic_small, denominator_made}
use Rattle.solve_certify.proofs.solution.find_denominator.Goals as goal

pub multiply_block-requires-clause-bounds : goal.multiply_block-requires-clause-bounds
multiply_block-requires-clause-bounds c =
    let few = monic_small c.make_monic-size.ensures c.requires.tail.1 c.requires.tail.0 in
    (omega arith, omega (arith, c.copy.auto), omega arith)

pub multiply_block-requires-clause-small : goal.multiply_block-requires-clause-small
multiply_block-requires-clause-small c =
    let prime = (valid_modulus c.args.modulus).prime in (
      c.make_monic-size.ensures.below,
      side_below prime c.args.input.now c.args.columns _ c.copy.ensures c.requires.bounds.1.below (zeros_none block_words),
    )

pub returns : goal.returns
returns c =
    let made = c.make_monic-size.ensures in
    denominator_made made c.args.input.now c.args.columns _ (omega arith) c.copy.ensures
    (monic_small made c.requires.tail.1 c.requires.tail.0) c.multiply_block.ensures
