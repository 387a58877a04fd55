use native.Mathlib.Omega.{arith}
use Rattle.loader.proofs.Loading.{reached_room, reached_next}
use Rattle.loader.proofs.step_over.Goals as goal

pub offset_bounds-words-place : goal.offset_bounds-words-place
offset_bounds-words-place c = omega (arith, reached_room c.requires.0 c.loop.invariant (omega arith))

pub bounds-words-place : goal.bounds-words-place
bounds-words-place c = omega (arith, reached_room c.requires.0 c.loop.invariant (omega arith))

pub overflow_add-place-in-loop : goal.overflow_add-place-in-loop
overflow_add-place-in-loop c = omega (arith, reached_room c.requires.0 c.loop.invariant (omega arith), c.payload_of.ensures)

pub loop-preserved : goal.loop-preserved
loop-preserved c = reached_next c.requires.0 c.loop.invariant (omega arith) _ (omega (arith, c.payload_of.ensures))
