-- The loop keeps a `Copied`: the slots before q are copied.
use Rattle.solve_levels.specs.Copied.{Copied}
use Rattle.solve_levels.proofs.copying.copy_level.Given as goal

abbrev pub invariant-loop-q : goal.invariant-loop-q
invariant-loop-q l = Copied l.level l.q l.next
