-- By the verdict.
use mathlib.Core.Path.{sym, ap}
use native.Mathlib.Omega.{arith}
use borrow.Author.Rules.{rules}
use Rattle.answers.specs.Answer.{verdict_outcome}
use Rattle.report_text.specs.Verdict.{verdict_line, same_line}
use Rattle.report_text.proofs.Due.{grown_whole}
use Rattle.report_text.proofs.write_verdict.Goals as goal

pub returns-in-Ok : goal.returns-in-Ok
unfolding verdict_line
returns-in-Ok c =
    same_line (sym (ap verdict_outcome c.in-Ok.is))
    (grown_whole (omega (arith, c.requires)) c.new-text.ensures.bytes c.new-text.ensures.none (search rules) c.append.ensures)

pub returns-in-Err : goal.returns-in-Err
unfolding verdict_line
returns-in-Err c = same_line (sym (ap verdict_outcome c.in-Err.is)) c.write_refusal.ensures
