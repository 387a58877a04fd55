use native.Mathlib.Nat.{pos_of_ne-zero}
use native.Mathlib.Omega.{arith}
use Rattle.solve_popov.specs.Short.{slots_none, slots_skip, slots_more, slots_end}
use Rattle.solve_popov.proofs.popov.reduce_slots.Goals as goal
use Rattle.solve_popov.proofs.popov.reduce_slots.Goals.{then-level-i-ne0, else-level-i-ne0}

pub loop-i-preserved : goal.loop-i-preserved
loop-i-preserved c =
    let so_far = c.loop-i.invariant in
    elim c.if-level-i-ne0.branch [
      | then-level-i-ne0 w ↦
          rw w.level-is (slots_more so_far (omega arith) (pos_of_ne-zero w.if-level-i-ne0.true) w.reduce_slot.ensures)
      | else-level-i-ne0 w ↦ rw w.level-is (slots_skip so_far (omega arith) (omega arith))
    ]

pub returns : goal.returns
returns c = slots_end c.loop-i.invariant (omega arith)

pub loop-i-init : goal.loop-i-init
loop-i-init c = slots_none c.requires.bounds.1
