-- Where there is no coefficient, 0 is added.
use Prim.Native.Nat.{ℕ, ◌*◌}
use lib.ListN.{get_or, get_or-eq_default}
use Rattle.check_conditions.specs.Walk.{carried_width}
use Rattle.check_conditions.proofs.Adding.{column_room, nothing_added}
use Rattle.check_conditions.proofs.walk.add_term.Goals as goal
use Rattle.check_conditions.proofs.walk.add_term.Goals.{else-k-f-via-then-k-f+else-f-k-ne0, else-k-f-via-else-k-f}

pub returns-else-k-f : goal.returns-else-k-f
returns-else-k-f c =
    let S = c in
    let given = S.requires.carried_len in
    let a : ℕ = get_or S.args.f.now S.args.k 0 in
    nothing_added S.args.carried.now S.args.window.now (S.args.j * carried_width) _ S.args.e a
    (column_room S.args.carried.now given.0 given.1 given.4)
    (elim c.else-k-f.branch [
      | else-k-f-via-then-k-f+else-f-k-ne0 w ↦ w.if-f-k-ne0.false
      | else-k-f-via-else-k-f w ↦ get_or-eq_default S.args.f.now 0 w.if-k-f.false
    ])
