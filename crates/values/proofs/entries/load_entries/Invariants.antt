-- The loop keeps a `Loads`.
use Rattle.values.proofs.Turns.{Loads}
use Rattle.values.proofs.entries.load_entries.Given as goal

abbrev pub invariant-loop-k : goal.invariant-loop-k
invariant-loop-k l =
    Loads l.words l.initial.sizes l.initial.values l.format.stride l.format.count l.sizes l.values l.at l.k
