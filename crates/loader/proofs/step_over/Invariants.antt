-- Before each turn the start word is at the place.
use mathlib.Core.Path.{◌≡◌}
use Rattle.words.specs.Starts.{start_place}
use Rattle.loader.proofs.step_over.Given as goal

abbrev pub invariant-loop : goal.invariant-loop
invariant-loop l = l.place ≡ start_place l.words l.counter
