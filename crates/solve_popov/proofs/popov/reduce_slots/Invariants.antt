-- The loop keeps that the slots before i are reduced.
use Rattle.solve_popov.specs.Rework.{SlotsReworked}
use Rattle.solve_popov.proofs.popov.reduce_slots.Given as goal

abbrev pub invariant-loop-i : goal.invariant-loop-i
invariant-loop-i l = SlotsReworked l.modulus.p l.n l.initial.level l.i l.d l.level
