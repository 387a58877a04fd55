-- The loop keeps a `Carries` of the rows before i.
use Prim.Native.Nat.{◌≤◌}
use Rattle.check_conditions.specs.Held.{system_of, certifying_denominator_of, certifying_numerators_of}
use Rattle.check_conditions.specs.Walk.{Carries}
use Rattle.check_conditions.proofs.walk.walk_columns.Given as goal

abbrev pub invariant-loop-i : goal.invariant-loop-i
invariant-loop-i l =
    Carries (system_of l.areas) (certifying_denominator_of l.areas) (certifying_numerators_of l.areas) l.i l.carried
    × (l.i ≤ l.areas.dimensions.rows)
