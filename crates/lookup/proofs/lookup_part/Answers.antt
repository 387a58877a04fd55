-- `lookup::lookup_part` meets its contract, from what the two readers tell and what is found in the words that are asked
-- for.
use native.Mathlib.Omega.{arith}
use Rattle.std.proofs.lemmas.Result.{err_from_is_err_and}
use Rattle.answers.specs.Answer.{head_of, form_of}
use Rattle.limits.specs.Value.{limits_of}
use Rattle.lookup.specs.Answer.{of_asked}
use Rattle.lookup.proofs.FindSteps.{find_system_refused, find_certificate_refused, find_inside, find_part}
use Rattle.lookup.proofs.lookup_part.Goals as goal

pub returns-in_err-head : goal.returns-in_err-head
returns-in_err-head c =
    let a = c.args in
    let p = err_from_is_err_and c.from_residual.result c.from_residual.ensures.1 in
    rw (p.1, p.2)
    (find_system_refused (limits_of a.limits) a.system.now a.certificate.now (of_asked a.of) a.number c.in_err-head.field-0.0
    c.in_err-head.ensures)

pub returns-in_err-read_certificate : goal.returns-in_err-read_certificate
returns-in_err-read_certificate c =
    let a = c.args in
    let r = c.from_residual-in_err-read_certificate in
    let p = err_from_is_err_and r.result r.ensures.1 in
    rw (p.1, p.2)
    (find_certificate_refused (limits_of a.limits) a.system.now a.certificate.now (of_asked a.of) a.number
    (head_of c.in_ok-head.head) c.in_ok-head.ensures c.in_err-read_certificate.field-0.0 c.in_err-read_certificate.ensures)

pub part_of-requires : goal.part_of-requires
part_of-requires c =
    let a = c.args in
    find_inside (limits_of a.limits) a.system.now a.certificate.now (of_asked a.of) a.number
    (head_of c.in_ok-head.head) c.in_ok-head.ensures (form_of c.in_ok-read_certificate.field-0) c.in_ok-read_certificate.ensures
    (omega (arith, c.well_formed)) (omega (arith, c.well_formed)) _ c.words_on.ensures.0

pub returns : goal.returns
returns c =
    let a = c.args in
    find_part (limits_of a.limits) a.system.now a.certificate.now (of_asked a.of) a.number
    (head_of c.in_ok-head.head) c.in_ok-head.ensures (form_of c.in_ok-read_certificate.field-0) c.in_ok-read_certificate.ensures
    (omega (arith, c.well_formed)) (omega (arith, c.well_formed)) _ c.words_on.ensures.0 c.part_of.result c.part_of.ensures
