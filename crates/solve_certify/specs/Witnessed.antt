-- What is known when the right side was inserted into the last level and the second system was solved: all of a solution
-- certificate but its numerators, or an absence certificate.
use Rattle.std.specs.Prelude.{ℕ, ◌+◌, ◌<◌, Bool, true, false, List, get_or}
use Rattle.algebra.specs.Polynomial.{Polynomial, polynomials}
use Rattle.modular.specs.Prime.{Prime}
use Rattle.modular.specs.Residue.{residues}
use Rattle.reduction.specs.Slots.{Slots, unweighted}
use Rattle.reduction.specs.Polynomials.{euclidean}
use Rattle.reduction.specs.Levels as reduction
use Rattle.reduction.specs.Unfinished.{Unfinished}
use Rattle.solve_lattice.specs.Memory.{Level}
use Rattle.solve_lattice.specs.Holding.{HoldsSlots}
use Rattle.solve_lattice.specs.Coefficients.{HoldsCoefficients}
use Rattle.solve_lattice.specs.Input.{Equations, input_system, HoldsSystem}
use Rattle.solve_lattice.specs.Output.{ValidOutput, HoldsAt, HoldsAbsence}

module _ (p : ℕ) (prime : Prime p) (n m : ℕ) where
  -- memory holds the slots of the last level of a system
  pub record HoldsLast (X : Equations p prime n m) (input : List ℕ) (L : Level) : Type 0 where
    pub system : HoldsSystem p prime n m X input
    pub slots : Slots (Polynomial (residues p prime))
    pub holds : HoldsSlots p prime n unweighted L slots
    pub last : reduction.LevelKnown (input_system p prime n m X) m slots

  -- d, w and Z in the output, and d·b as coefficients of the blocks of U
  pub record HoldsUnfinished (X : Equations p prime n m) (U : Slots (Polynomial (residues p prime)))
      (quotients output : List ℕ) : Type 0 where
    pub d : Polynomial (residues p prime)
    pub w : Polynomial (residues p prime)
    pub Z : ℕ → Polynomial (residues p prime)
    pub unfinished : Unfinished (euclidean (residues p prime)) (input_system p prime n m X) U d w Z
    pub holds_d : HoldsAt p prime output 0 d
    pub holds_w : HoldsAt p prime output (1 + m) w
    pub holds_Z : (i : ℕ) → i < n → HoldsAt p prime output (2 + m + i) (Z i)
    pub coefficients : HoldsCoefficients p prime n U (λ k. (polynomials (residues p prime)).mul d (X.side k)) quotients

  -- whether there is a solution
  unfoldable pub HoldsWitness : Bool → Equations p prime n m → Slots (Polynomial (residues p prime)) → List ℕ → List ℕ → Type 0
  HoldsWitness true X U quotients output = HoldsUnfinished X U quotients output
  HoldsWitness false X U quotients output = HoldsAbsence p prime (input_system p prime n m X) output

-- some system has this last level
pub record HasLast (p n m : ℕ) (input : List ℕ) (L : Level) : Type 0 where
  pub prime : Prime p
  pub equations : Equations p prime n m
  pub last : HoldsLast p prime n m equations input L

pub record Witnessed (p n m : ℕ) (input : List ℕ) (L : Level) (quotients output : List ℕ) (solved : Bool) : Type 0 where
  pub below : (i : ℕ) → get_or quotients i 0 < p
  pub valid : ValidOutput p output
  pub holds : (prime : Prime p) (X : Equations p prime n m) (H : HoldsLast p prime n m X input L)
      → HoldsWitness p prime n m solved X H.slots quotients output
