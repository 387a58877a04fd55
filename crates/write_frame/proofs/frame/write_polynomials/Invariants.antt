-- The invariant: the polynomials before k are written.
use Rattle.write_frame.proofs.Framed.{PolynomialsWritten}
use Rattle.write_frame.proofs.frame.write_polynomials.Given as goal

abbrev pub invariant-loop-k : goal.invariant-loop-k
invariant-loop-k l =
    PolynomialsWritten l.format.stride l.sizes l.coefficients l.format.count l.initial.words l.words l.at l.k
