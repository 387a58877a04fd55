-- `find_witness` meets its contract: the right side is inserted, and each end has its law.
use Prim.Native.Nat.{◌<◌}
use mathlib.Core.Path.{◌≡◌, refl}
use native.Mathlib.Omega.{arith}
use Rattle.vector.specs.Bound.{zeros_none}
use Rattle.solve_lattice.specs.Room.{level_words, tail_words}
use Rattle.solve_lattice.specs.Stage.{valid_stage}
use Rattle.solve_certify.specs.Found.{last_vanished, last_stuck, solution_witnessed, absence_witnessed}
use Rattle.solve_certify.proofs.witness.find_witness.Goals as goal

pub insert_side-size-requires-clause-next : goal.insert_side-size-requires-clause-next
insert_side-size-requires-clause-next c = (refl, zeros_none level_words)

pub insert_side-size-requires-clause-tail : goal.insert_side-size-requires-clause-tail
insert_side-size-requires-clause-tail c = (refl, zeros_none tail_words)

pub find_solution-requires-clause-vanished : goal.find_solution-requires-clause-vanished
find_solution-requires-clause-vanished c =
    let none : c.insert_side-size.result ≡ 0 = omega arith in
    last_vanished c.insert_side-size.ensures c.requires.last none

pub returns-then-size-eq0 : goal.returns-then-size-eq0
returns-then-size-eq0 c =
    let none : c.insert_side-size.result ≡ 0 = omega arith in
    solution_witnessed c.insert_side-size.ensures none c.find_solution.ensures

pub find_absence-requires-clause-stuck : goal.find_absence-requires-clause-stuck
find_absence-requires-clause-stuck c =
    let some : 0 < c.insert_side-size.result = omega arith in
    rw c.pivot_row.ensures (last_stuck c.insert_side-size.ensures c.requires.last some)

pub returns : goal.returns
returns c =
    let S = c.requires in
    let some : 0 < c.insert_side-size.result = omega arith in
    absence_witnessed c.insert_side-size.ensures (valid_stage c.args.stage).modulus.prime S.areas.0 some
    (rw c.pivot_row.ensures at c.find_absence.ensures)
