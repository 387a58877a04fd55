-- What `ascend` and its cases are given at a stage, and the next stage.
use Rattle.std.specs.Prelude.{ℕ, ◌+◌, ◌<◌, ◌≤◌, Bool, List}
use Rattle.std.proofs.Common.{arith}
use Rattle.vector.specs.Bound.{AtMost}
use Rattle.solve_lattice.specs.declared.stage.Stage.{Stage}
use Rattle.solve_lattice.specs.Stage.{next_stage}
use Rattle.solve_lattice.specs.Memory.{Level, ValidLevel}
use Rattle.solve_lattice.specs.Input.{ValidInput}
use Rattle.solve_lattice.specs.Output.{ValidOutput}
use Rattle.solve_certify.specs.Ascended.{HasLevels, Ascended}

pub record Ready (s : Stage) (input : List ℕ) (L : Level) (quotients output : List ℕ) : Type 0 where
  pub column : s.column ≤ s.columns
  pub valid_input : ValidInput s.modulus.p input
  pub valid_level : ValidLevel s.modulus.p L
  pub levels : HasLevels s.modulus.p s.rows s.columns s.column input L
  pub none : AtMost 0 quotients
  pub valid_output : ValidOutput s.modulus.p output

-- what `ascend` and its cases leave
abbrev pub AscendedFrom : Stage → (input : List ℕ) (L : Level) (quotients output : List ℕ) → Bool → Type 0
AscendedFrom s = Ascended s.modulus.p s.rows s.columns s.column

-- what is left at the next stage
abbrev pub AscendedNext : Stage → (input : List ℕ) (L : Level) (quotients output : List ℕ) → Bool → Type 0
AscendedNext s = Ascended s.modulus.p s.rows s.columns (s.column + 1)

pub ready_next : {s : Stage} {input : List ℕ} {L L' : Level} {quotients output : List ℕ}
    → Ready s input L quotients output → s.column < s.columns → ValidLevel s.modulus.p L'
    → HasLevels s.modulus.p s.rows s.columns (s.column + 1) input L' → Ready (next_stage s) input L' quotients output
ready_next given inside valid has = record {
  column = omega arith;
  valid_input = given.valid_input;
  valid_level = valid;
  levels = has;
  none = given.none;
  valid_output = given.valid_output;
}
