-- The loop keeps a `Descending`; its measure is the size of the second polynomial.
use Rattle.division.proofs.Remainders.{Descending}
use Rattle.division.proofs.euclid.gcd.Given as goal

abbrev pub invariant-loop-b : goal.invariant-loop-b
invariant-loop-b l = Descending l.modulus.p l.initial.a l.initial.b l.a l.b

abbrev pub decreases-loop-b : goal.decreases-loop-b
decreases-loop-b l = l.b.size
