use mathlib.Core.Path.{◌∙◌}
use native.Mathlib.Omega.{arith}
use Rattle.solve_second.specs.Filling.{filling_same}
use Rattle.solve_second.specs.SideFilling.{side_filling_start, side_filling_end}
use Rattle.solve_second.specs.Side.{sided}
use Rattle.solve_second.proofs.second_side.lay_side.Goals as goal

pub loop-i-init : goal.loop-i-init
loop-i-init c =
    side_filling_start (sided c.args.side c.args.level.now) c.args.n c.args.block.now
    c.requires.zeros.0 c.requires.zeros.1

pub returns : goal.returns
returns c =
    let inv = c.loop-i.invariant in (
      inv.same_length ∙ c.requires.zeros.0,
      side_filling_end (sided c.args.side c.args.level.now) c.args.n (filling_same inv (omega arith))
          c.requires.low_blocks.3,
    )
