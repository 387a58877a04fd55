-- The loop keeps a `Dividing`; its measure is what is left of the block.
use Rattle.solve_lattice.proofs.Dividing.{Dividing}
use Rattle.solve_lattice.proofs.division.divide.Given as goal

abbrev pub invariant-loop-found : goal.invariant-loop-found
invariant-loop-found l =
    Dividing l.modulus.p l.level l.initial.block l.initial.quotients l.block l.quotients l.found.size l.found.value

abbrev pub decreases-loop-found : goal.decreases-loop-found
decreases-loop-found l = l.found.size
