-- The words are laid out, and what is laid out is certified; it is what was read.
use mathlib.Core.Path.{refl}
use Rattle.vector.specs.Bound.{zeros_none}
use Rattle.solve_lattice.specs.Room.{input_words}
use Rattle.solver.specs.Certified.{certified_of}
use Rattle.solver.proofs.CertifiedWords.{told_read, read_shape}
use Rattle.solver.proofs.certifying.certify_words.Goals as goal

pub lay_line-requires-clause-area : goal.lay_line-requires-clause-area
lay_line-requires-clause-area c = (refl, zeros_none input_words)

pub certify_laid-requires-clause-shape_within : goal.certify_laid-requires-clause-shape_within
certify_laid-requires-clause-shape_within c = (read_shape (told_read c.requires.has_shape), c.lay_line.ensures.0)

pub returns : goal.returns
returns c = certified_of c.lay_line.ensures.1 c.certify_laid.ensures
