use Rattle.std.proofs.Common.{◌≡◌, ◌+◌, ◌-◌, ◌<◌, arith}
use Rattle.vector.proofs.Parts.{range_length, range_turn, range_end}
use Rattle.vector.proofs.Storing.{storing_start}
use Rattle.vector.proofs.each.store_each.Goals as goal

pub loop-j-init : goal.loop-j-init
loop-j-init g c = λ f each. storing_start _ _ _ _

pub loop-j-preserved : goal.loop-j-preserved
loop-j-preserved g c = λ f each.
    let A = c.args in
    let j = c.loop-j.j in
    let long : A.a + A.n - A.a ≡ A.n = omega arith in
    let room = c.requires.room in
    let lt : j < A.n = omega (arith, range_length A.h.now A.a _ A.n room long) in
    range_turn A.h.now A.a _ A.n room long (c.loop-j.invariant f each) _ lt (each j _ lt c.rule.ensures)

pub returns : goal.returns
returns g c = λ f each.
    let A = c.args in
    let long : A.a + A.n - A.a ≡ A.n = omega arith in
    let room = c.requires.room in
    range_end A.h.now A.a _ A.n room long (c.loop-j.invariant f each) (omega (arith, range_length A.h.now A.a _ A.n room long))
