-- The loop keeps a `Loads`.
use Rattle.loader.proofs.Loading.{Loads}
use Rattle.loader.proofs.load_part.Given as goal

abbrev pub invariant-loop-i : goal.invariant-loop-i
invariant-loop-i l = Loads l.width l.words l.first l.from l.initial.area l.area l.place l.i
