-- `next_level` meets its contract: a column begun, and inserted.
use mathlib.Core.Path.{refl}
use Rattle.vector.specs.Bound.{zeros_none}
use Rattle.solve_lattice.specs.Room.{tail_words}
use Rattle.solve_levels.specs.Next.{next_level}
use Rattle.solve_levels.proofs.next.next_level.Goals as goal

pub start_column-hand-requires-clause-tail : goal.start_column-hand-requires-clause-tail
start_column-hand-requires-clause-tail c = (refl, zeros_none tail_words)

pub returns : goal.returns
returns c = next_level c.start_column-hand.ensures c.requires.level c.insert_column.ensures
