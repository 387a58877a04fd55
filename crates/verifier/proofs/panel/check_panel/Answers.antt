-- `verifier::panel::check_panel` meets its contract: the panel's limits are kept, and no buffer is too long.
use mathlib.Core.Path.{ap, ◌∙◌}
use lib.ListN.{length}
use Rattle.words.specs.Limits.{Limits, office}
use Rattle.verifier.specs.File.{bytes_verdict}
use Rattle.verifier.specs.Panel.{bytes_panel}
use Rattle.verifier.proofs.Tried.{panel_areas}
use Rattle.verifier.proofs.panel.check_panel.Goals as goal

pub check_bytes-requires-clause-areas : goal.check_bytes-requires-clause-areas
check_bytes-requires-clause-areas c = rw c.limits.ensures panel_areas

pub returns : goal.returns
returns c =
    let f = c.args.system.now in
    let g = c.args.certificate.now in
    c.check_bytes.ensures
    ∙ ap (λ (l : Limits). bytes_verdict office l (length f) 0 f g) c.limits.ensures
    ∙ bytes_panel f g
