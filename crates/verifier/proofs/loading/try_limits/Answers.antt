-- `verifier::loading::try_limits` meets its contract: the system first, then the certificate.
use mathlib.Core.Path.{sym, ap, ◌∙◌}
use Rattle.words.specs.Outcome.{refuse}
use Rattle.words.specs.Outcome.Outcome.{accepted}
use Rattle.limits.specs.Value.{limits_of}
use Rattle.verifier.proofs.Tried.{head_told, system_refused, shape_valid, certificate_tried}
use Rattle.verifier.proofs.loading.try_limits.Goals as goal

pub system_exceeds-requires : goal.system_exceeds-requires
system_exceeds-requires c = head_told (limits_of c.args.kept) _ _ _ _ _ c.requires

pub returns-then-system_exceeds : goal.returns-then-system_exceeds
returns-then-system_exceeds c =
    system_refused (limits_of c.args.kept) _ _ _ _ _ c.requires c.system_exceeds.ensures c.if-system_exceeds.true

pub certificate_exceeds-requires-clause-shape : goal.certificate_exceeds-requires-clause-shape
certificate_exceeds-requires-clause-shape c =
    shape_valid (limits_of c.args.kept) _ _ _ _ _ c.requires c.system_exceeds.ensures c.if-system_exceeds.false

pub returns-then-certificate_exceeds : goal.returns-then-certificate_exceeds
returns-then-certificate_exceeds c =
    sym (ap (λ b. refuse b 41 1 (accepted tt)) c.if-certificate_exceeds.true)
    ∙ certificate_tried (limits_of c.args.kept) _ _ _ _ _ c.requires c.system_exceeds.ensures c.if-system_exceeds.false
    c.certificate_exceeds.ensures

pub returns : goal.returns
returns c =
    sym (ap (λ b. refuse b 41 1 (accepted tt)) c.if-certificate_exceeds.false)
    ∙ certificate_tried (limits_of c.args.kept) _ _ _ _ _ c.requires c.system_exceeds.ensures c.if-system_exceeds.false
    c.certificate_exceeds.ensures
