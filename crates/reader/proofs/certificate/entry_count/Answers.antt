-- `reader::certificate::entry_count` meets its contract.
use Rattle.std.proofs.Common.{arith}
use Rattle.std.proofs.lemmas.Grind.{common_steps}
use Rattle.words.specs.Certificate.{entry_count}
use Rattle.reader.proofs.certificate.entry_count.Goals as goal

pub returns-in-Solution : goal.returns-in-Solution
unfolding entry_count
returns-in-Solution c = grind (arith, common_steps)

pub returns-in-Absence : goal.returns-in-Absence
unfolding entry_count
returns-in-Absence c = grind (arith, common_steps)
