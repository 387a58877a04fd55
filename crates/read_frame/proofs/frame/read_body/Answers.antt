-- `read_frame::frame::read_body` meets its contract: the polynomials are told from the part behind the head, one word later here.
use Rattle.std.proofs.Common.{◌≡◌, ◌+◌, sym, ap, ◌∙◌, Err, rules}
use Rattle.std.proofs.lemmas.Result.{err_from_is_err_and}
use Rattle.answers.specs.Answer.{used_outcome}
use Rattle.read_frame.proofs.Later.{told_err, told_ok}
use Rattle.read_frame.proofs.BodySteps.{body_used, body_refused}
use Rattle.read_frame.proofs.frame.read_body.Goals as goal

pub returns-in_err-used : goal.returns-in_err-used
returns-in_err-used c =
    let t = told_err c.read_polynomials.result c.map_err.result _ _ c.map_err.ensures.cases c.in_err-used.was in
    let later : c.in_err-used.field-0.0 ≡ record t.0 { place = 1 + t.0.place } = search rules in
    let p = err_from_is_err_and c.from_residual.result c.from_residual.ensures.1 in
    let e : c.from_residual.result ≡ Err (record t.0 { place = 1 + t.0.place }) = cc in
    ap used_outcome e
    ∙ sym (body_refused _ _ _ _ c.requires _ _ (sym (ap used_outcome t.1) ∙ c.read_polynomials.ensures)).1

pub returns : goal.returns
returns c =
    let t = told_ok c.read_polynomials.result c.map_err.result _ _ c.map_err.ensures.cases c.in_ok-used.was in
    c.read_end.ensures ∙ sym (body_used _ _ _ _ c.requires _ (sym (ap used_outcome t) ∙ c.read_polynomials.ensures)).1
