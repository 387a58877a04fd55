-- What the solver's loops do as a whole: from a system in memory to a right certificate in memory, of whichever kind there is.
use Rattle.std.specs.Prelude.{ℕ, Bool, List}
use Rattle.modular.specs.Prime.{Prime}
use Rattle.solve_lattice.specs.Input.{Equations, input_system, HoldsSystem}
use Rattle.solve_lattice.specs.Output.{ValidOutput, HoldsCertificate}

-- the input holds some system
pub record HasSystem (p n m : ℕ) (input : List ℕ) : Type 0 where
  pub prime : Prime p
  pub equations : Equations p prime n m
  pub holds : HoldsSystem p prime n m equations input

pub record Certifies (p n m : ℕ) (input output : List ℕ) (solved : Bool) : Type 0 where
  pub valid : ValidOutput p output
  pub holds : (prime : Prime p) (X : Equations p prime n m) → HoldsSystem p prime n m X input
      → HoldsCertificate p prime (input_system p prime n m X) output solved
