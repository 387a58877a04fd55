-- `read_frame::polynomial::read_coefficients` meets its contract. The loop's invariant: what is told of all coefficients is what is
-- told of those from the loop's word on.
use Rattle.read_frame.proofs.CoefficientTurns.{Reached}
use Rattle.read_frame.proofs.polynomial.read_coefficients.Given as goal

abbrev pub invariant-loop-place : goal.invariant-loop-place
invariant-loop-place l = Reached l.words l.p l.count l.place
