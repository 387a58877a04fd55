use native.Mathlib.Omega.{arith}
use Rattle.solve_lattice.specs.Leading.{kept_lengthened, swapped_lengthened}
use Rattle.solve_lattice.proofs.insertion.Insertion.lengthen.Goals as goal

pub returns-then-k-self-clause-lengthened : goal.returns-then-k-self-clause-lengthened
returns-then-k-self-clause-lengthened c =
    swapped_lengthened c.args.self.now.valid c.requires.filled.some (rw c.pivot_row-q.ensures at c.if-k-self.true) c.swap_with_slot.ensures.swapped

pub returns-else-k-self-clause-lengthened : goal.returns-else-k-self-clause-lengthened
returns-else-k-self-clause-lengthened c =
    let on = c.requires.filled in
    kept_lengthened c.args.self.now.valid (record { some = on.some; filled = on.filled; shorter = omega (arith, rw c.pivot_row-q.ensures at c.if-k-self.false); short = on.short })
