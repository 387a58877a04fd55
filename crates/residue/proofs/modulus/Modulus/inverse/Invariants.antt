-- The invariant: the inverse of a is `factor` times the inverse of `rest`.
use Rattle.residue.proofs.Descent.{Descent}
use Rattle.residue.proofs.modulus.Modulus.inverse.Given as goal

abbrev pub invariant-loop-rest : goal.invariant-loop-rest
invariant-loop-rest l = Descent l.p l.a l.factor l.rest

abbrev pub decreases-loop-rest : goal.decreases-loop-rest
decreases-loop-rest l = l.rest
