-- One law for each call, and `SecondEnds` for the whole.
use native.Mathlib.Omega.{arith}
use native.Mathlib.Nat.{le_refl}
use Rattle.residue.specs.Modulus.{valid_modulus}
use Rattle.vector.specs.Bound.{zeros_none}
use Rattle.solve_lattice.specs.Room.{level_words, product_words}
use Rattle.solve_second.specs.SideFilling.{tails_end}
use Rattle.solve_second.specs.Side.{side_valid}
use Rattle.solve_second.specs.ValidTransposed.{second_side_below}
use Rattle.solve_second.specs.SideInserted.{block_reducible, first_valid, first_starts}
use Rattle.solve_second.specs.Denominator.{laid_denominator}
use Rattle.solve_second.specs.Scaled.{side_within, product_room, side_scaled}
use Rattle.solve_second.specs.DividedSecond.{laid_valid, laid_divided}
use Rattle.solve_second.specs.SecondEnds.{second_solved}
use Rattle.solve_second.proofs.solve.solve_second.Goals as goal

pub lay_second-requires-clause-low_blocks : goal.lay_second-requires-clause-low_blocks
lay_second-requires-clause-low_blocks c =
    let given = c.requires.bounds in
    ((λ q h. (given.2.slot q h).block.within), tails_end (side_valid c.args.side given.1 given.2), given.1, given.0)

pub lay_second-requires-clause-zeros : goal.lay_second-requires-clause-zeros
lay_second-requires-clause-zeros c = (zeros_none level_words, zeros_none product_words)

pub find_leading-found-requires-clause-sums : goal.find_leading-found-requires-clause-sums
find_leading-found-requires-clause-sums c =
    let given = c.requires.bounds in
    let m = valid_modulus c.args.modulus in
    block_reducible c.args.modulus.p m.prime given.0 (side_valid c.args.side given.1 given.2) c.lay_second.ensures

pub second_denominator-count-requires : goal.second_denominator-count-requires
second_denominator-count-requires c =
    let p = c.args.modulus.p in
    let m = valid_modulus c.args.modulus in
    let given = c.requires.bounds in
    let valid = side_valid c.args.side given.1 given.2 in
    let found = c.find_leading-found in record {
      memory = first_valid p m.prime given.0 valid c.lay_second.ensures found.result found.ensures.size found.ensures.value;
      starts = first_starts p m.prime given.0 valid c.lay_second.ensures found.result found.ensures.size found.ensures.value;
    }

pub multiply_block-requires : goal.multiply_block-requires
multiply_block-requires c =
    let p = c.args.modulus.p in
    let m = valid_modulus c.args.modulus in
    let given = c.requires.bounds in
    let laid = c.lay_second.ensures in
    let valid = side_valid c.args.side given.1 given.2 in
    let size = c.find_leading-found.ensures.size in
    let found = laid_denominator p m.prime given.0 valid laid c.find_leading-found.result
    size c.find_leading-found.ensures.value c.second_denominator-count.ensures in record {
      bounds = (
        found.ends.within,
        omega (arith, side_within given.0 laid valid found _ size, laid.room),
        product_room given.0 laid valid found _ size c.requires.tops,
      );
      small = (found.below, second_side_below p given.0 valid laid);
      zeros = zeros_none product_words;
    }

pub divide-requires-clause-level : goal.divide-requires-clause-level
divide-requires-clause-level c =
    let given = c.requires.bounds in
    laid_valid given.0 (side_valid c.args.side given.1 given.2) c.lay_second.ensures

pub divide-requires-clause-quotients : goal.divide-requires-clause-quotients
divide-requires-clause-quotients c = (le_refl product_words, zeros_none product_words)

pub returns : goal.returns
returns c =
    let p = c.args.modulus.p in
    let m = valid_modulus c.args.modulus in
    let given = c.requires.bounds in
    let laid = c.lay_second.ensures in
    let valid = side_valid c.args.side given.1 given.2 in
    let size = c.find_leading-found.ensures.size in
    let found = laid_denominator p m.prime given.0 valid laid c.find_leading-found.result
    size c.find_leading-found.ensures.value c.second_denominator-count.ensures in
    let scaled = side_scaled given.0 laid valid found _ size c.multiply_block.ensures in
    let divided = laid_divided given.0 valid laid c.divide.ensures in
    second_solved given.0 valid found scaled divided _ c.requires.room.0 c.requires.room.1 _ c.store_rows.ensures
