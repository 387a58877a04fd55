-- 35 before 36.
use mathlib.Core.Path.{refl, ap}
use Rattle.std.proofs.lemmas.Result.{err_from_is_err_and}
use Rattle.answers.specs.Answer.{verdict_outcome}
use Rattle.check_conditions.proofs.Order.{absence_product, absence_last}
use Rattle.check_conditions.proofs.absence.check_absence.Goals as goal

pub returns-in_err-try_products : goal.returns-in_err-try_products
returns-in_err-try_products c =
    let p = err_from_is_err_and c.from_residual.result c.from_residual.ensures.1 in
    rw (p.1, p.2) (absence_product _ _ c.in_err-try_products.ensures refl)

pub returns : goal.returns
returns c =
    absence_last _ _ c.try_products.ensures (ap verdict_outcome c.in_ok-try_products.was)
    c.try_side.ensures
