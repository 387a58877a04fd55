-- The slots are those of the level with the side's tails; the right side is laid out as such.
use Rattle.solve_second.specs.Same.{same_laid}
use Rattle.solve_second.specs.Side.{side_blocks}
use Rattle.solve_second.proofs.layout.lay_second.Goals as goal

pub returns : goal.returns
returns c =
    let slots = c.lay_slots-top.ensures.1 in record {
      slots = same_laid (side_blocks c.args.side c.args.level.now) c.requires.low_blocks.0 c.requires.low_blocks.3 slots;
      room = c.lay_side.ensures.0;
      side = c.lay_side.ensures.1;
    }
