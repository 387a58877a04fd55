-- Where there are no words, nothing is stored.
use mathlib.Core.Path.{◌≡◌, sym, ap}
use native.Mathlib.Omega.{arith}
use Rattle.vector.specs.Multiple.{sum_at}
use Rattle.vector.specs.Stored.{stored}
use Rattle.solve_lattice.proofs.moves.add_tail.Goals as goal

pub returns-else-n-gt0 : goal.returns-else-n-gt0
unfolding stored
returns-else-n-gt0 c =
    let A = c.args in
    let none : A.n ≡ 0 = omega arith in
    sym (ap (stored (sum_at A.h.now A.d A.s.now A.a A.c) A.h.now A.d) none)
