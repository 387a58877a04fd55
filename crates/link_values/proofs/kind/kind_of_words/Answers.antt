-- What the readers tell decides (`Reading`).
use mathlib.Core.Path.{refl}
use Rattle.std.proofs.lemmas.Result.{err_from_is_err_and}
use Rattle.words.specs.Systems.{systems_head, read_systems}
use Rattle.reader.specs.ReadLaws.{system_refused, system_read, certificate_refused, both_read}
use Rattle.link_values.proofs.Reading.{refused_system, refused_certificate, kind_read}
use Rattle.link_values.proofs.kind.kind_of_words.Goals as goal

pub returns-in_err-head : goal.returns-in_err-head
returns-in_err-head c =
    let p = err_from_is_err_and c.from_residual.result c.from_residual.ensures.1 in
    rw (p.1, p.2)
    (refused_system _ _ (system_refused read_systems systems_head _ _ c.limits.ensures c.in_err-head.ensures refl))

pub returns-in_err-form : goal.returns-in_err-form
returns-in_err-form c =
    let r = c.from_residual-in_err-form in
    let p = err_from_is_err_and r.result r.ensures.1 in
    rw (p.1, p.2)
    (refused_certificate _ _
    (system_read read_systems systems_head _ _ c.limits.ensures c.in_ok-head.ensures refl).1
    (certificate_refused read_systems systems_head _ _ c.limits.ensures c.in_ok-head.ensures refl
    (λ h. h.shape) _ _ c.limits-2.ensures c.in_err-form.ensures refl))

pub returns : goal.returns
returns c =
    kind_read _ _
    (both_read read_systems systems_head _ _ c.limits.ensures c.in_ok-head.ensures refl
    (λ h. h.shape) _ _ c.limits-2.ensures c.in_ok-form.ensures refl)
    c.from.ensures
