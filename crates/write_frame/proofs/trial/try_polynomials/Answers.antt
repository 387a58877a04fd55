use Rattle.std.proofs.Common.{rules}
use Rattle.write_frame.proofs.Turns.{Turn, turn}
use Rattle.write_frame.proofs.Polynomials.{polynomials_end, polynomial_many, polynomial_refused, polynomials_next}
use Rattle.write_frame.proofs.trial.try_polynomials.Goals as goal

pub returns-then-format-size : goal.returns-then-format-size
returns-then-format-size c =
    polynomial_many _ _ _ _ _ _ _ _ _ c.loop-k.invariant c.loop-k-test.true c.if-format-size.true

pub returns-in_err-try_coefficients : goal.returns-in_err-try_coefficients
returns-in_err-try_coefficients c =
    let t : Turn c.args.polynomials.format.stride c.args.polynomials.format.limit c.args.polynomials.sizes.now c.args.polynomials.coefficients.now c.loop-k.place c.loop-k.k =
    turn c.args.polynomials.covered c.loop-k.invariant.most c.loop-k-test.true in
    let e = polynomial_refused _ _ _ _ _ _ _ _ _ c.loop-k.invariant c.loop-k-test.true c.if-format-size.false t.roomy
    c.in_err-try_coefficients.ensures in
    search rules

pub loop-k-preserved : goal.loop-k-preserved
loop-k-preserved c =
    let t : Turn c.args.polynomials.format.stride c.args.polynomials.format.limit c.args.polynomials.sizes.now c.args.polynomials.coefficients.now c.loop-k.place c.loop-k.k =
    turn c.args.polynomials.covered c.loop-k.invariant.most c.loop-k-test.true in
    polynomials_next _ _ _ _ _ _ _ _ _ c.loop-k.invariant c.loop-k-test.true c.if-format-size.false t.roomy
    c.in_ok-try_coefficients.ensures

pub returns : goal.returns
returns c = polynomials_end _ _ _ _ _ _ _ _ _ c.loop-k.invariant c.loop-k-test.false
