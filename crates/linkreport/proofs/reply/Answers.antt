-- By what reading gave.
use Rattle.std.proofs.Common.{refl}
use Rattle.linkreport.specs.PrintingLaws.{prints_report, prints_nothing}
use Rattle.linkreport.proofs.reply.Goals as goal

pub returns-in-Ok : goal.returns-in-Ok
returns-in-Ok c = prints_report _ _ _ _ c.in-Ok.is c.requires.0 c.write_report.ensures

pub returns-in-Err : goal.returns-in-Err
returns-in-Err c = prints_nothing _ _ _ _ c.in-Err.is refl refl
