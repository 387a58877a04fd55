-- `reader::kept::some_longer` meets its contract: before each turn none of the polynomials so far is longer.
use Rattle.reader.proofs.KeptSteps.{Walked}
use Rattle.reader.proofs.kept.some_longer.Given as goal

abbrev pub invariant-loop : goal.invariant-loop
invariant-loop l = Walked l.words l.count l.most l.place l.counter
