-- Before each turn so many sums are stored as the turns before it took.
use Rattle.std.proofs.Common.{◌+◌, ◌*◌}
use Rattle.vector.specs.Multiple.{sum_at}
use Rattle.vector.specs.RowStored.{row_words}
use Rattle.vector.proofs.Storing.{Storing}
use Rattle.vector.proofs.multiple.add_scaled.Given as goal

abbrev pub invariant-loop-row : goal.invariant-loop-row
invariant-loop-row l = Storing (sum_at l.fn.h l.d l.s l.a l.c) l.fn.h l.d l.n l.h (row_words * l.row)

abbrev pub invariant-loop-left : goal.invariant-loop-left
invariant-loop-left l = Storing (sum_at l.fn.h l.d l.s l.a l.c) l.fn.h l.d l.n l.h (row_words * l.rows + l.left)
