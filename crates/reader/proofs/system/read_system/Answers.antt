-- `reader::system::read_system` meets its contract, from what its head and the words behind it tell.
use Rattle.std.proofs.Common.{◌≡◌, sym, ap, ◌∙◌, rules}
use Rattle.limits.specs.Value.{limits_of}
use Rattle.answers.specs.declared.answer.Of.TheVariants.{System}
use Rattle.answers.specs.declared.answer.Reason.TheVariants.{Words}
use Rattle.answers.specs.Answer.{head_of, used_outcome, system_outcome}
use Rattle.read_frame.proofs.Later.{told_ok, told_err}
use Rattle.reader.proofs.Told.{passed_on, told_of}
use Rattle.reader.proofs.SystemSteps.{system_head_refused, system_some, system_body_refused, system_read}
use Rattle.reader.proofs.system.read_system.Goals as goal

pub returns-in_err-head : goal.returns-in_err-head
returns-in_err-head c =
    ap system_outcome (passed_on _ c.in_err-head.field-0.0 c.from_residual.ensures.1)
    ∙ sym (system_head_refused (limits_of c.args.limits) _ _ _ c.in_err-head.ensures)

pub read_body-body-requires : goal.read_body-body-requires
read_body-body-requires c = system_some (limits_of c.args.limits) _ (head_of c.in_ok-head.head) c.in_ok-head.ensures

pub returns-in_err-map_err : goal.returns-in_err-map_err
returns-in_err-map_err c =
    let t = told_err c.read_body-body.result c.map_err.result _ _ c.map_err.ensures.cases c.in_err-map_err.was in
    let body = rw (c.from-rows.ensures, c.from.ensures, c.from-2.ensures) at c.read_body-body.ensures in
    let reason : c.in_err-map_err.field-0.0.reason ≡ Words System t.0.fault = search rules in
    let place : c.in_err-map_err.field-0.0.place ≡ t.0.place = search rules in
    ap system_outcome (passed_on _ c.in_err-map_err.field-0.0 c.from_residual-in_err-map_err.ensures.1)
    ∙ told_of System c.in_err-map_err.field-0.0 t.0 reason place
    ∙ sym (system_body_refused (limits_of c.args.limits) _ (head_of c.in_ok-head.head) c.in_ok-head.ensures _ _
    (sym (ap used_outcome t.1) ∙ body))

pub returns : goal.returns
returns c =
    let t = told_ok c.read_body-body.result c.map_err.result _ _ c.map_err.ensures.cases c.in_ok-map_err.was in
    let body = rw (c.from-rows.ensures, c.from.ensures, c.from-2.ensures) at c.read_body-body.ensures in
    sym (system_read (limits_of c.args.limits) _ (head_of c.in_ok-head.head) c.in_ok-head.ensures _
    (sym (ap used_outcome t) ∙ body))
