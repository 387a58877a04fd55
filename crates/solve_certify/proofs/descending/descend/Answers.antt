use Rattle.vector.specs.Bound.{zeros_none}
use Rattle.solve_lattice.specs.Room.{product_words}
use Rattle.solve_certify.proofs.descending.descend.Goals as goal

pub descend_column-requires-clause-zero : goal.descend_column-requires-clause-zero
descend_column-requires-clause-zero c = zeros_none product_words
