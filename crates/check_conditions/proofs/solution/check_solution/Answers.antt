-- 31 to 34 in their order; w, which passed 31, is not zero.
use mathlib.Core.Path.{refl, sym, ap, ◌∙◌}
use Rattle.std.proofs.lemmas.Result.{err_from_is_err_and}
use Rattle.check_conditions.specs.Areas.{system_in_slots}
use Rattle.answers.specs.Answer.{verdict_outcome}
use Rattle.check_conditions.proofs.Monic.{passed_some}
use Rattle.check_conditions.proofs.Order.{solution_monic, solution_row, solution_column, solution_last}
use Rattle.check_conditions.proofs.solution.check_solution.Goals as goal

pub returns-in_err-try_monic : goal.returns-in_err-try_monic
unfolding system_in_slots
returns-in_err-try_monic c =
    let p = err_from_is_err_and c.from_residual.result c.from_residual.ensures.1 in
    rw (p.1, p.2) (solution_monic _ _ _ _ _ c.in_err-try_monic.ensures refl)

pub returns-in_err-try_rows : goal.returns-in_err-try_rows
unfolding system_in_slots
returns-in_err-try_rows c =
    let r = c.from_residual-in_err-try_rows in
    let p = err_from_is_err_and r.result r.ensures.1 in
    rw (p.1, p.2) (solution_row _ _ _ _ _ c.try_monic.ensures (ap verdict_outcome c.in_ok-try_monic.was)
    c.in_err-try_rows.ensures refl)

pub try_columns-requires : goal.try_columns-requires
try_columns-requires c = passed_some _ _ _ (sym c.try_monic.ensures ∙ ap verdict_outcome c.in_ok-try_monic.was)

pub returns-in_err-try_columns : goal.returns-in_err-try_columns
unfolding system_in_slots
returns-in_err-try_columns c =
    let r = c.from_residual-in_err-try_columns in
    let p = err_from_is_err_and r.result r.ensures.1 in
    rw (p.1, p.2) (solution_column _ _ _ _ _ c.try_monic.ensures (ap verdict_outcome c.in_ok-try_monic.was)
    c.try_rows.ensures (ap verdict_outcome c.in_ok-try_rows.was)
    c.in_err-try_columns.ensures refl)

pub try_denominators-requires : goal.try_denominators-requires
try_denominators-requires c =
    passed_some _ _ _ (sym c.try_monic.ensures ∙ ap verdict_outcome c.in_ok-try_monic.was)

pub returns : goal.returns
unfolding system_in_slots
returns c =
    solution_last _ _ _ _ _ c.try_monic.ensures (ap verdict_outcome c.in_ok-try_monic.was)
    c.try_rows.ensures (ap verdict_outcome c.in_ok-try_rows.was)
    c.try_columns.ensures (ap verdict_outcome c.in_ok-try_columns.was)
    c.try_denominators.ensures
