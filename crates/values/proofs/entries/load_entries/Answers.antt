use Rattle.values.proofs.Turns.{loads_start, loads_turn}
use Rattle.values.proofs.entries.load_entries.Goals as goal

pub loop-k-init : goal.loop-k-init
loop-k-init c = loads_start _ _ _ _ _

pub loop-k-preserved : goal.loop-k-preserved
loop-k-preserved c =
    let covers = c.requires.1 in
    loads_turn c.requires.0 covers.apart covers.sized covers.roomy c.loop-k.invariant c.loop-k-test.true _
    c.payload_of-size.ensures _ c.copy_payloads.ensures
