-- The loop keeps a `Storing`: one row a turn. Behind the n rows come zeros.
use Prim.Native.Nat.{◌*◌}
use Rattle.vector.proofs.Storing.{Storing}
use Rattle.solve_lattice.specs.Room.{rows_words, block_words}
use Rattle.solve_second.specs.QuotientRows.{quotient_word}
use Rattle.solve_second.proofs.rows.store_rows.Given as goal

abbrev pub invariant-loop-k : goal.invariant-loop-k
invariant-loop-k l = Storing (quotient_word l.quotients l.n) l.initial.rows 0 rows_words l.rows (block_words * l.k)
