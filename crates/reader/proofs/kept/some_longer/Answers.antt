use Rattle.reader.proofs.KeptSteps.{walk_start, walk_next, walk_stops}
use Rattle.reader.proofs.kept.some_longer.Goals as goal

pub loop-init : goal.loop-init
loop-init c = walk_start _ _ _

pub returns-then-most-n : goal.returns-then-most-n
returns-then-most-n c = walk_stops _ _ _ c.requires c.loop.invariant c.loop-test.true c.payload_of-n.ensures c.if-most-n.true

pub loop-preserved : goal.loop-preserved
loop-preserved c = walk_next _ _ _ c.requires c.loop.invariant c.loop-test.true c.payload_of-n.ensures c.if-most-n.false
