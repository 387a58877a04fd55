-- What the reader tells, and what the solver then gives.
use mathlib.Core.Path.{◌≡◌, sym, ap, ◌∙◌, subst}
use mathlib.Core.List.{List}
use Prim.Native.Nat.{ℕ, ◌<◌, ◌≤◌}
use lib.ListN.{length}
use Rattle.words.specs.Limits.{Limits, office}
use Rattle.words.specs.Outcome.{Outcome, mapped}
use Rattle.words.specs.Outcome.Outcome.{accepted, refused}
use Rattle.words.specs.System.{System, Shape, shape}
use Rattle.words.specs.Systems.{read_line}
use Rattle.words.specs.Certificate.{Certificate}
use Rattle.reader.specs.ReadLaws.{system_read, system_refused}
use Rattle.solver.specs.Solving.{with_room, Gives, SolvesOr}
use Rattle.solver.specs.SolvingLaws.{room_short, room_enough}
use Rattle.solver.specs.Certified.{Read}

module _ (k : ℕ) (ws : List ℕ) (limits : Limits) (is : limits ≡ office) {told : Outcome Shape}
    (tells : told ≡ mapped shape (read_line limits k ws)) where
  pub was_read : {h : Shape} → told ≡ accepted h → Read h k ws
  was_read e =
      let found = system_read (λ l. read_line l k) shape ws limits is tells e in
      record { system = found.0; read = found.1; same_shape = sym found.2 }

  pub reading_refused : {number place : ℕ} → told ≡ refused number place → read_line office k ws ≡ refused number place
  reading_refused = system_refused (λ l. read_line l k) shape ws limits is tells

-- what the solver gives, by what was read
module _ (longest : ℕ) (write : Certificate → List ℕ) (entry exit : List ℕ) (answer : Outcome ℕ) (read : Outcome System) where
  by_outcome : (o : Outcome System) → with_room longest (length entry) read ≡ o → SolvesOr office write o entry exit answer
      → SolvesOr office write (with_room longest (length entry) read) entry exit answer
  by_outcome o e h = subst (λ x. SolvesOr office write x entry exit answer) (sym e) h

  pub solves_refused : {number place : ℕ} → read ≡ refused number place → answer ≡ refused number place → exit ≡ entry
      → SolvesOr office write (with_room longest (length entry) read) entry exit answer
  unfolding SolvesOr
  solves_refused e a x = by_outcome _ (ap (with_room longest (length entry)) e) (a, x)

  module _ {s : System} (e : read ≡ accepted s) where
    pub solves_short : length entry < longest → answer ≡ refused 11 0 → exit ≡ entry
        → SolvesOr office write (with_room longest (length entry) read) entry exit answer
    unfolding SolvesOr
    solves_short lt a x = by_outcome (refused 11 0) (ap (with_room longest (length entry)) e
        ∙ room_short longest (length entry) lt s) (a, x)

    pub solves_given : longest ≤ length entry → (count : ℕ) → answer ≡ accepted count → Gives office write s entry exit count
        → SolvesOr office write (with_room longest (length entry) read) entry exit answer
    unfolding SolvesOr
    solves_given ge count a gives = by_outcome (accepted s) (room_enough longest (length entry) ge read ∙ e) (count, a, gives)
