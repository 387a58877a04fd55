-- By what reading gave and what the solver answered.
use Rattle.std.proofs.Common.{refl}
use Rattle.std.proofs.lemmas.Result.{err_from_is_err_and}
use Rattle.linksolve.specs.ReplyingLaws.{replies_nothing, replies_certificate, replies_refusal}
use Rattle.linksolve.proofs.reply.Goals as goal

pub returns-in_default : goal.returns-in_default
returns-in_default c = replies_nothing _ _ _ _ c.in_default.is refl

pub returns-in_err-count : goal.returns-in_err-count
returns-in_err-count c =
    let p = err_from_is_err_and c.from_residual.result c.from_residual.ensures.1 in
    rw (p.1, p.2) (replies_refusal _ _ _ _ c.in-Ok.is c.requires.0 _ c.solve_file.ensures c.in_err-count.was)

pub returns : goal.returns
returns c = replies_certificate _ _ _ _ c.in-Ok.is c.requires.0 _ c.solve_file.ensures c.in_ok-count.was
