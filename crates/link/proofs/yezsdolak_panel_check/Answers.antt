-- The panel's verdict, packed; its place is small.
use mathlib.Core.Path.{sym, subst}
use native.Mathlib.Omega.{arith}
use Rattle.answers.specs.Packed.{packed_most, VerdictMost}
use Rattle.verifier.specs.Panel.{panel_most}
use Rattle.link.proofs.yezsdolak_panel_check.Goals as goal

pub pack_verdict-requires : goal.pack_verdict-requires
pack_verdict-requires c =
    let most = panel_most _ _ packed_most (omega arith) (omega arith) (omega arith) in
    subst (VerdictMost packed_most) (sym c.check_panel.ensures) most
