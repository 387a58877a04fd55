-- `reader::certificate::read_certificate` meets its contract, from what its head and the words behind it tell.
use Rattle.std.proofs.Common.{◌≡◌, sym, ap, ◌∙◌, rules}
use Rattle.limits.specs.Value.{limits_of}
use Rattle.answers.specs.declared.answer.Of.TheVariants.{Certificate}
use Rattle.answers.specs.declared.answer.Reason.TheVariants.{Words}
use Rattle.answers.specs.Answer.{shape_of, form_of, used_outcome, certificate_outcome}
use Rattle.read_frame.proofs.Later.{told_ok, told_err}
use Rattle.reader.proofs.Told.{passed_on, told_of}
use Rattle.reader.proofs.CertificateSteps.{certificate_head_refused, certificate_some, certificate_body_refused}
use Rattle.reader.proofs.CertificateSteps.{certificate_read}
use Rattle.reader.proofs.certificate.read_certificate.Goals as goal

pub returns-in_err-form : goal.returns-in_err-form
returns-in_err-form c =
    ap certificate_outcome (passed_on _ c.in_err-form.field-0.0 c.from_residual.ensures.1)
    ∙ sym (certificate_head_refused (limits_of c.args.limits) (shape_of c.args.shape) _ _ _ c.in_err-form.ensures)

pub read_body-body-requires : goal.read_body-body-requires
read_body-body-requires c =
    certificate_some (limits_of c.args.limits) (shape_of c.args.shape) _ (form_of c.in_ok-form.form) c.in_ok-form.ensures

pub returns-in_err-map_err : goal.returns-in_err-map_err
returns-in_err-map_err c =
    let t = told_err c.read_body-body.result c.map_err.result _ _ c.map_err.ensures.cases c.in_err-map_err.was in
    let reason : c.in_err-map_err.field-0.0.reason ≡ Words Certificate t.0.fault = search rules in
    let place : c.in_err-map_err.field-0.0.place ≡ t.0.place = search rules in
    ap certificate_outcome (passed_on _ c.in_err-map_err.field-0.0 c.from_residual-in_err-map_err.ensures.1)
    ∙ told_of Certificate c.in_err-map_err.field-0.0 t.0 reason place
    ∙ sym ((certificate_body_refused (limits_of c.args.limits) (shape_of c.args.shape) _ (form_of c.in_ok-form.form)
    c.in_ok-form.ensures _ c.entry_count-count.ensures _ _ (sym (ap used_outcome t.1) ∙ c.read_body-body.ensures)).1)

pub returns : goal.returns
returns c =
    let t = told_ok c.read_body-body.result c.map_err.result _ _ c.map_err.ensures.cases c.in_ok-map_err.was in
    sym (certificate_read (limits_of c.args.limits) (shape_of c.args.shape) _ (form_of c.in_ok-form.form) c.in_ok-form.ensures _
    c.entry_count-count.ensures _ (sym (ap used_outcome t) ∙ c.read_body-body.ensures))
