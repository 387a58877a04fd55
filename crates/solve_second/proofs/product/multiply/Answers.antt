-- Each step's words are what the next one needs.
use Prim.Native.Nat.{◌+◌}
use mathlib.Core.Path.{◌≡◌}
use native.Mathlib.Omega.{arith}
use lib.ListN.{length}
use borrow.Author.Rules.{rules}
use Rattle.residue.specs.Modulus.{valid_modulus}
use Rattle.vector.specs.Bound.{zeros_none}
use Rattle.solve_lattice.specs.Room.{block_words}
use Rattle.solve_second.specs.Negated.{negated_length, negated_below}
use Rattle.solve_second.specs.ProductLaws.{cleared_length, cleared_none, product_reducible, multiplied}
use Rattle.solve_second.proofs.product.multiply.Goals as goal

pub subtract_product-requires-clause-factors : goal.subtract_product-requires-clause-factors
subtract_product-requires-clause-factors c =
    let m = valid_modulus c.args.modulus in
    let stores = c.store_negated.ensures in (
      omega (arith, negated_length m.prime _ _ c.args.f.now c.args.n stores),
      negated_below m.prime _ _ c.args.f.now c.args.n stores (zeros_none block_words),
    )

pub subtract_product-requires-clause-small : goal.subtract_product-requires-clause-small
subtract_product-requires-clause-small c =
    let room : length c.args.out.now ≡ block_words = search rules in (
      (λ i. omega (arith, cleared_none block_words c.args.out.now _ c.clear.ensures room i)),
      λ j lt. c.requires.small.1 (0 + j),
    )

pub reduce_range-requires-clause-sums : goal.reduce_range-requires-clause-sums
reduce_range-requires-clause-sums c =
    let room : length c.args.out.now ≡ block_words = search rules in
    let T = c.subtract_product.ensures in
    product_reducible c.args.modulus.p c.args.n c.saturating_sub.result c.subtract_product.new.h
    c.requires.bounds.0 (T.bound 0 (cleared_none block_words c.args.out.now _ c.clear.ensures room))

pub returns : goal.returns
returns c =
    let m = valid_modulus c.args.modulus in
    let room : length c.args.out.now ≡ block_words = search rules in
    let clears = c.clear.ensures in
    multiplied m.prime _ _ c.args.f.now c.args.n c.args.g.now c.args.m _ _ _ _
    c.saturating_sub.ensures c.requires.bounds.0 c.requires.bounds.2
    (omega (arith, cleared_length block_words c.args.out.now _ clears))
    (cleared_none block_words c.args.out.now _ clears room)
    c.store_negated.ensures c.subtract_product.ensures c.reduce_range.ensures
