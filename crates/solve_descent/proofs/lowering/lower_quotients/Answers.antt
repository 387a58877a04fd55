use mathlib.Core.Path.{◌≡◌, refl}
use native.Mathlib.Omega.{arith}
use lib.ListN.{length}
use borrow.Author.Rules.{rules}
use Rattle.residue.specs.Modulus.{valid_modulus}
use Rattle.solve_lattice.specs.Room.{output_words, block_words}
use Rattle.solve_descent.proofs.Lowerings.{lane_below, quotients_lowered}
use Rattle.solve_descent.proofs.lowering.lower_quotients.Goals as goal

pub subtract_multiple-requires-clause-multiple : goal.subtract_multiple-requires-clause-multiple
subtract_multiple-requires-clause-multiple c =
    lane_below c.args.quotients.now _ c.args.q c.requires.quotients c.gather_lane.ensures refl

pub returns-clause-lowers : goal.returns-clause-lowers
returns-clause-lowers c =
    let given = c.requires in
    let f = c.args.factors.now in
    let room : length f ≡ block_words = search rules in
    let output : length c.args.output.now ≡ output_words = search rules in
    quotients_lowered (valid_modulus c.args.modulus).prime c.args.quotients.now f c.args.output.now _ c.args.place c.args.q
    given.bounds.0 given.quotients room (omega (arith, given.bounds.1)) given.output refl c.gather_lane.ensures c.copy.ensures
    c.subtract_multiple.ensures
