-- `start_column` meets its contract: the level is copied, and the hand laid.
use Rattle.solve_levels.specs.Started.{started}
use Rattle.solve_levels.proofs.next.start_column.Goals as goal

pub returns : goal.returns
returns c =
    let tail = c.requires.tail in
    started c.args.modulus.valid.prime c.requires.level c.copy_level.ensures c.requires.column c.args.tail.now
    tail.0 tail.1 (c.lay_hand.ensures.tail, c.lay_hand.ensures.hand)
