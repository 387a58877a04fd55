-- Number 10, or what the reader tells of the words of the bytes.
use mathlib.Core.Path.{refl, ◌∙◌}
use native.Mathlib.Omega.{arith}
use Rattle.std.proofs.lemmas.Result.{err_from_is_err_and}
use Rattle.words.specs.Limits.{office}
use Rattle.files.specs.OpeningLaws.{line_file_refused, line_file_read}
use Rattle.solver.proofs.Reading.{reading_refused}
use Rattle.report.proofs.report_line.Goals as goal

pub returns-in_err-count-clause-err : goal.returns-in_err-count-clause-err
returns-in_err-count-clause-err c =
    let p = err_from_is_err_and c.from_residual.result c.from_residual.ensures.1 in
    rw (p.1, p.2) (line_file_refused office c.in_err-count.ensures _ refl, refl)

pub returns-in_err-shape-clause-err : goal.returns-in_err-shape-clause-err
returns-in_err-shape-clause-err c =
    let p = err_from_is_err_and c.from_residual-in_err-shape.result c.from_residual-in_err-shape.ensures.1 in
    let read = line_file_read office c.in_ok-count.ensures 0 (omega arith) refl in
    rw (p.1, p.2) (read ∙ reading_refused _ _ _ c.limits.ensures c.in_err-shape.ensures refl, refl)

pub returns-clause-ok : goal.returns-clause-ok
returns-clause-ok c = rw (line_file_read office c.in_ok-count.ensures 0 (omega arith) refl) c.report_read.ensures
