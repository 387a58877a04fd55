use Prim.Native.Nat.{◌+◌, ◌*◌}
use mathlib.Core.Path.{◌≡◌}
use native.Mathlib.Omega.{arith}
use borrow.Author.Rules.{rules}
use lib.ListN.{length}
use Rattle.residue.specs.Modulus.{valid_modulus}
use Rattle.solve_lattice.specs.Room.{product_words, slot_words}
use Rattle.solve_descent.proofs.Combinations.{combination_start, combination_small, combination_turn}
use Rattle.solve_descent.proofs.TermLaws.{terms_are, terms_room}
use Rattle.solve_descent.proofs.blocks.subtract_blocks.Goals as goal

pub loop-q-init : goal.loop-q-init
loop-q-init c = combination_start

pub subtract_product-requires-clause-small : goal.subtract_product-requires-clause-small
subtract_product-requires-clause-small c =
    let valid = c.requires.bounds.1 in
    let slot = valid.slot c.loop-q.q (omega arith) in (
      combination_small c.loop-q.invariant (omega arith) (valid_modulus c.args.modulus).limit c.requires.zero,
      λ j lt. valid.below (slot_words * c.loop-q.q + j) (omega (arith, slot.block.within)),
    )

pub loop-q-preserved : goal.loop-q-preserved
loop-q-preserved c =
    let L = c.loop-q in
    let block = (c.requires.bounds.1.slot L.q (omega arith)).block in
    let is = terms_are c.args.degrees _ c.most_terms.ensures c.min.ensures in
    let room = terms_room c.args.degrees _ is block.within in
    let long : length L.t ≡ product_words = search rules in
    combination_turn L.invariant is room.0 room.1 (omega (arith, L.invariant.same_length)) block.within block.behind
    c.subtract_product.ensures

pub returns : goal.returns
returns c =
    let end : c.loop-q.q ≡ c.args.rows = omega arith in
    rw (← end) c.loop-q.invariant
