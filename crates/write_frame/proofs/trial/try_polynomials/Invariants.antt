-- The invariant: what all polynomials give is what those give that are still to be tried.
use Rattle.answers.specs.Answer.{by_of}
use Rattle.write_frame.proofs.Polynomials.{PolynomialsTried}
use Rattle.write_frame.proofs.trial.try_polynomials.Given as goal

abbrev pub invariant-loop-k : goal.invariant-loop-k
invariant-loop-k l =
    PolynomialsTried l.modulus l.format.limit l.format.stride (by_of l.format.of) l.sizes l.coefficients l.format.count l.place l.k
