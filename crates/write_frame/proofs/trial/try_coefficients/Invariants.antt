-- The invariant: what all coefficients give is what those give that are still to be tried.
use Rattle.answers.specs.Answer.{by_of}
use Rattle.write_frame.proofs.Coefficients.{CoefficientsTried}
use Rattle.write_frame.proofs.trial.try_coefficients.Given as goal

abbrev pub invariant-loop-i : goal.invariant-loop-i
invariant-loop-i l = CoefficientsTried l.modulus (by_of l.of) l.place l.f l.i
