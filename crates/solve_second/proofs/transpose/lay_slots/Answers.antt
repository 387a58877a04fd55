use mathlib.Core.Path.{subst}
use native.Mathlib.Omega.{arith}
use Rattle.solve_second.specs.TransposeFilling.{SlotsSoFar, slots_start, slots_end}
use Rattle.solve_second.proofs.transpose.lay_slots.Goals as goal

pub loop-k-init : goal.loop-k-init
loop-k-init c = slots_start _ _ _ c.requires.zeros.0 c.requires.zeros.1

pub returns : goal.returns
returns c = (
  c.greatest_height-top.ensures,
  slots_end c.args.level.now c.args.n
      (subst (λ k. SlotsSoFar c.args.level.now c.args.n c.loop-k.transposed k) (omega arith)
      c.loop-k.invariant)
      c.requires.low_blocks.1,
)
