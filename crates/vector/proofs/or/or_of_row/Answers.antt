-- `vector::or::or_of_row` meets its contract. Assumes nothing.
use mathlib.Core.Path.{ap₂}
use lib.Bits.{bit_or}
use Rattle.vector.proofs.or.or_of_row.Goals as goal

pub returns : goal.returns
returns c = ap₂ bit_or c.or_of_four.ensures c.or_of_four-2.ensures
