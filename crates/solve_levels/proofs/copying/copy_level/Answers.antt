use native.Mathlib.Omega.{arith}
use Rattle.solve_levels.specs.Copied.{copied_turn}
use Rattle.solve_levels.proofs.copying.copy_level.Goals as goal

pub loop-q-preserved : goal.loop-q-preserved
loop-q-preserved c = copied_turn c.loop-q.invariant (omega arith) c.requires.blocks c.copy.ensures
