-- `verifier::check` meets its contract: what the office reads keeps the office's limits.
use mathlib.Core.Path.{ap, ◌∙◌}
use Rattle.words.specs.Limits.{Limits, office}
use Rattle.words.specs.LimitsLaws.{office_fits}
use Rattle.truth.specs.Within.{verdict_within}
use Rattle.truth.proofs.WithinLaws.{within_own}
use Rattle.verifier.proofs.check.Goals as goal

pub returns : goal.returns
returns c =
    let a = c.args in
    c.check_within.ensures
    ∙ ap (λ (l : Limits). verdict_within office l a.side a.system.now a.certificate.now) c.limits.ensures
    ∙ within_own office office_fits a.side a.system.now a.certificate.now
