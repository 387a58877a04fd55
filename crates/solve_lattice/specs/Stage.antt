-- The stage of an ascent: its system keeps the limits of the areas, and its modulus is in order.
use Rattle.std.specs.Prelude.{◌+◌, ◌≤◌}
use Rattle.residue.specs.Modulus.{ValidModulus, valid_modulus}
use Rattle.solve_lattice.specs.declared.stage.Stage.{Stage}
use Rattle.solve_lattice.specs.Room.{lanes}

pub record ValidStage (stage : Stage) : Type 0 where
  pub modulus : ValidModulus stage.modulus
  pub rows : stage.rows ≤ lanes
  pub columns : stage.columns ≤ lanes

-- every stage that there is
pub valid_stage : (stage : Stage) → ValidStage stage
valid_stage stage = record { modulus = valid_modulus stage.modulus; rows = stage.within.0; columns = stage.within.1 }

-- one more column in the level
abbrev pub next_stage : Stage → Stage
next_stage s = record { rows = s.rows; columns = s.columns; column = s.column + 1; modulus = s.modulus; within = s.within }
