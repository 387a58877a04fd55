use Rattle.std.proofs.Common.{◌≡◌, ◌+◌, sym, ap, ◌∙◌, Err, rules}
use Rattle.std.proofs.lemmas.Result.{err_from_is_err_and}
use Rattle.answers.specs.Answer.{used_outcome}
use Rattle.read_frame.proofs.Later.{told_err, told_ok}
use Rattle.read_frame.proofs.PolynomialTurns.{passed_start, passed_next, passed_refused, passed_end}
use Rattle.read_frame.proofs.polynomial.read_polynomials.Goals as goal

pub loop-init : goal.loop-init
loop-init c = passed_start _ _ _ _

pub returns-in_err-at : goal.returns-in_err-at
returns-in_err-at c =
    let t = told_err c.read_polynomial.result c.map_err.result _ _ c.map_err.ensures.cases c.in_err-at.was in
    let later : c.in_err-at.field-0.0 ≡ record t.0 { place = c.loop.at + t.0.place } = search rules in
    let p = err_from_is_err_and c.from_residual.result c.from_residual.ensures.1 in
    let e : c.from_residual.result ≡ Err (record t.0 { place = c.loop.at + t.0.place }) = cc in
    ap used_outcome e
    ∙ sym (passed_refused _ _ _ _ _ _ c.loop.invariant c.loop-test.true _ _ (sym (ap used_outcome t.1) ∙ c.read_polynomial.ensures)).1

pub loop-preserved : goal.loop-preserved
loop-preserved c =
    let t = told_ok c.read_polynomial.result c.map_err.result _ _ c.map_err.ensures.cases c.in_ok-at.was in
    passed_next _ _ _ _ _ _ c.loop.invariant c.loop-test.true _ (sym (ap used_outcome t) ∙ c.read_polynomial.ensures)

pub returns : goal.returns
returns c = sym (passed_end _ _ _ _ _ _ c.loop.invariant c.loop-test.false)
