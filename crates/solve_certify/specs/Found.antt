-- The two ends of the insertion of a right side: some system has come there, and what is found there is what is asked.
use Rattle.std.specs.Prelude.{ℕ, ◌<◌, ◌≡◌, true, false, List}
use Rattle.std.proofs.Common.{arith}
use Rattle.modular.specs.Prime.{Prime}
use Rattle.vector.specs.Bound.{AtMost}
use Rattle.solve_lattice.specs.Memory.{row, Level}
use Rattle.solve_certify.specs.Witnessed.{HasLast, HoldsWitness, Witnessed}
use Rattle.solve_certify.specs.Inserted.{HasVanished, HasStuck, LastInserted}
use Rattle.solve_certify.specs.Solution.{SolutionFound}
use Rattle.solve_certify.specs.Absence.{AbsenceFound}

module _ {p n m : ℕ} {input : List ℕ} {L L' : Level} {tail : List ℕ} {size : ℕ} (inserted : LastInserted p m input L L' tail size)
  where
    module _ (has : HasLast p n m input L) where
      pub last_vanished : size ≡ 0 → HasVanished p n m input L' tail
      last_vanished none = record {
        prime = has.prime;
        equations = has.equations;
        slots = has.last.slots;
        vanished = inserted.vanished has.prime n has.equations has.last none;
      }

      pub last_stuck : 0 < size → HasStuck p n L (row size)
      last_stuck some = record {
        prime = has.prime;
        columns = m;
        equations = has.equations;
        slots = has.last.slots;
        stuck = inserted.stuck has.prime n has.equations has.last some;
      }

    pub solution_witnessed : {quotients output : List ℕ} → size ≡ 0 → SolutionFound p n m input L L' tail quotients output
        → Witnessed p n m input L quotients output true
    unfolding HoldsWitness
    solution_witnessed none found = record {
      below = found.below;
      valid = found.valid;
      holds = λ prime X H. found.holds prime X H.slots H.holds (inserted.vanished prime n X H none);
    }

    pub absence_witnessed : {quotients output : List ℕ} → Prime p → AtMost 0 quotients → 0 < size
        → AbsenceFound p n L (row size) output → Witnessed p n m input L quotients output false
    unfolding HoldsWitness
    absence_witnessed prime₀ none some found = record {
      below = λ i. omega (arith, none i, prime₀.large);
      valid = found.valid;
      holds = λ prime X H. found.holds prime m X H.slots (inserted.stuck prime n X H some);
    }
