-- The parts of a turn fit together.
use Rattle.residue.specs.Modulus.{valid_modulus}
use Rattle.vector.specs.Bound.{zeros_none}
use Rattle.solve_lattice.specs.Room.{tail_words}
use Rattle.solve_descent.proofs.Turning.{turn_made}
use Rattle.solve_descent.proofs.turn.descend_column.Goals as goal

pub find_coordinate-requires-clause-zero : goal.find_coordinate-requires-clause-zero
find_coordinate-requires-clause-zero c = zeros_none tail_words

pub returns : goal.returns
returns c = turn_made c.args.upper.now c.requires.kernel c.find_coordinate.ensures c.combine_blocks.ensures c.take_column.ensures
    (valid_modulus c.args.stage.modulus).prime c.requires.coordinates
