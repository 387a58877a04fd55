use Rattle.write_frame.proofs.Coefficients.{coefficients_end, coefficient_large}
use Rattle.write_frame.proofs.Coefficients.{coefficient_last, coefficients_next_nonzero, coefficients_next_inner}
use Rattle.write_frame.proofs.trial.try_coefficients.Goals as goal
use Rattle.write_frame.proofs.trial.try_coefficients.Goals.{else-a-eq0-via-then-a-eq0+else-i-f, else-a-eq0-via-else-a-eq0}

pub returns-then-modulus-a : goal.returns-then-modulus-a
returns-then-modulus-a c =
    coefficient_large _ _ _ _ _ c.loop-i.invariant c.loop-i-test.true c.if-modulus-a.true

pub returns-then-i-f : goal.returns-then-i-f
returns-then-i-f c =
    coefficient_last _ _ _ _ _ c.loop-i.invariant c.loop-i-test.true c.if-modulus-a.false c.if-a-eq0.true c.if-i-f.true

pub loop-i-preserved : goal.loop-i-preserved
loop-i-preserved c =
    elim c.else-a-eq0.branch [
      | else-a-eq0-via-then-a-eq0+else-i-f w ↦
          coefficients_next_inner _ _ _ _ _ c.loop-i.invariant c.loop-i-test.true c.if-modulus-a.false w.if-i-f.false
      | else-a-eq0-via-else-a-eq0 w ↦
          coefficients_next_nonzero _ _ _ _ _ c.loop-i.invariant c.loop-i-test.true c.if-modulus-a.false w.if-a-eq0.false
    ]

pub returns : goal.returns
returns c = coefficients_end _ _ _ _ _ c.loop-i.invariant c.loop-i-test.false
