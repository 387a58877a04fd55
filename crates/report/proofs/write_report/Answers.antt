-- Nothing where too little is lent; else the report of the first line, or of the refusal (`Giving`).
use mathlib.Core.Path.{refl}
use Rattle.report.proofs.Giving.{file_short, file_given, given_refused}
use Rattle.report.proofs.write_report.Goals as goal

pub returns-then-out-lt-SPACE : goal.returns-then-out-lt-SPACE
returns-then-out-lt-SPACE c =
    let lent = c.args.out.now in
    file_short _ {entry = lent} {exit = lent} c.if-out-lt-SPACE.true refl refl

pub returns-in-Ok : goal.returns-in-Ok
returns-in-Ok c = file_given _ c.if-out-lt-SPACE.false c.in-Ok.ensures.ok

pub returns-in-Err : goal.returns-in-Err
returns-in-Err c =
    let refused = c.in-Err.ensures.err in
    file_given _ c.if-out-lt-SPACE.false (given_refused _ _ refused.0 (rw refused.1 at c.write_refusal.ensures))
