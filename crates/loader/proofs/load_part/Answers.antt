use native.Mathlib.Omega.{arith}
use Rattle.loader.proofs.Loading.{loads_turn}
use Rattle.loader.proofs.load_part.Goals as goal

pub loop-i-preserved : goal.loop-i-preserved
loop-i-preserved c =
    let P = c.requires in
    loads_turn P.has_entries.0 P.has_entries.1 P.room c.loop-i.invariant (omega arith) _ _ (omega (arith, c.payload_of.ensures))
    c.copy_payloads.ensures
