-- `reader::line::read_sided` meets its contract: what the sheet is refused with, then 40.
use Rattle.std.proofs.Common.{sym, ap, ◌∙◌, arith}
use Rattle.limits.specs.Value.{limits_of}
use Rattle.answers.specs.Answer.{head_of, system_outcome}
use Rattle.reader.proofs.Told.{passed_on}
use Rattle.reader.proofs.LineSteps.{sided_has, sided_missing, sided_refused}
use Rattle.reader.proofs.line.read_sided.Goals as goal

pub returns-in_err-head : goal.returns-in_err-head
returns-in_err-head c =
    ap system_outcome (passed_on _ c.in_err-head.field-0.0 c.from_residual.ensures.1)
    ∙ sym (sided_refused (limits_of c.args.limits) c.args.side _ _ _ c.in_err-head.ensures)

pub returns-then-from-side : goal.returns-then-from-side
returns-then-from-side c =
    sym (sided_missing (limits_of c.args.limits) c.args.side _ (head_of c.in_ok-head.head) c.in_ok-head.ensures (omega arith))

pub returns : goal.returns
returns c =
    sym (sided_has (limits_of c.args.limits) c.args.side _ (head_of c.in_ok-head.head) c.in_ok-head.ensures (omega arith))
