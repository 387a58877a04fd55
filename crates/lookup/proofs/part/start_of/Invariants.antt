-- The invariant: it stands at the place of the polynomial behind those passed.
use mathlib.Core.Path.{◌≡◌}
use Rattle.words.specs.Starts.{start_place}
use Rattle.lookup.proofs.part.start_of.Given as goal

abbrev pub invariant-loop : goal.invariant-loop
invariant-loop l = l.at ≡ start_place l.words l.counter
