-- `read_frame::polynomial::read_polynomials` meets its contract. The loop's invariant: what is told of all polynomials is what is
-- told of those that are due, from the loop's word on.
use Rattle.read_frame.proofs.PolynomialTurns.{Passed}
use Rattle.read_frame.proofs.polynomial.read_polynomials.Given as goal

abbrev pub invariant-loop : goal.invariant-loop
invariant-loop l = Passed l.words l.p l.limit l.count l.at l.counter
