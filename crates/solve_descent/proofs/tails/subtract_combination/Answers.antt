use Prim.Native.Nat.{◌+◌, ◌*◌}
use mathlib.Core.Path.{◌≡◌, refl}
use native.Mathlib.Omega.{arith}
use borrow.Author.Rules.{rules}
use lib.ListN.{length}
use Rattle.residue.specs.Modulus.{valid_modulus}
use Rattle.solve_lattice.specs.Room.{block_words, slot_words, tail_words}
use Rattle.solve_descent.proofs.Combinations.{combination_start, combination_small, combination_turn}
use Rattle.solve_descent.proofs.tails.subtract_combination.Goals as goal

pub loop-q-init : goal.loop-q-init
loop-q-init c = combination_start

pub subtract_product-requires-clause-small : goal.subtract_product-requires-clause-small
subtract_product-requires-clause-small c =
    let valid = c.requires.bounds.2 in
    let slot = valid.slot c.loop-q.q (omega arith) in (
      combination_small c.loop-q.invariant (omega arith) (valid_modulus c.args.modulus).limit c.requires.zero,
      λ j lt. valid.below (slot_words * c.loop-q.q + block_words + j) (omega (arith, slot.tail_within)),
    )

pub loop-q-preserved : goal.loop-q-preserved
loop-q-preserved c =
    let L = c.loop-q in
    let slot = c.requires.bounds.2.slot L.q (omega arith) in
    let long : length L.y ≡ tail_words = search rules in
    combination_turn L.invariant refl c.requires.bounds.1 (omega (arith, slot.tail_within)) (omega (arith, L.invariant.same_length))
    (omega (arith, slot.tail_within)) slot.tail c.subtract_product.ensures

pub returns : goal.returns
returns c =
    let end : c.loop-q.q ≡ c.args.rows = omega arith in
    rw (← end) c.loop-q.invariant
