-- The loop keeps an `Adding`: the rows before i are added.
use Rattle.polynomial_words.proofs.Adding.{Adding}
use Rattle.polynomial_words.proofs.product.add_rows.Given as goal

abbrev pub invariant-loop-i : goal.invariant-loop-i
invariant-loop-i l = Adding l.initial.h l.f l.n l.g l.k l.h l.i
