use Rattle.std.proofs.Common.{arith}
use Rattle.write_frame.proofs.Turns.{Turn, turn}
use Rattle.write_frame.proofs.Framed.{written_none, room_left, written_one, written_all, part_ready}
use Rattle.write_frame.proofs.frame.write_polynomials.Goals as goal

pub loop-k-init : goal.loop-k-init
loop-k-init c = written_none _ _ _ _ _

pub write_polynomial-requires : goal.write_polynomial-requires
write_polynomial-requires c =
    let few = c.requires.0.few c.loop-k.k c.loop-k-test.true in
    let t : Turn c.args.polynomials.format.stride c.args.polynomials.format.limit c.args.polynomials.sizes.now c.args.polynomials.coefficients.now c.loop-k.at c.loop-k.k =
    turn c.args.polynomials.covered (omega (arith, c.loop-k.invariant.most _ c.requires.0.few)) c.loop-k-test.true in
    part_ready _ _ _ _ _ _ _ (omega (arith, t.roomy)) few (omega arith)
    (room_left _ _ _ _ _ c.loop-k.invariant c.requires.0.few c.requires.1 c.loop-k-test.true)
    (c.requires.0.payloads c.loop-k.k c.loop-k-test.true)

pub loop-k-preserved : goal.loop-k-preserved
loop-k-preserved c =
    let few = c.requires.0.few c.loop-k.k c.loop-k-test.true in
    let t : Turn c.args.polynomials.format.stride c.args.polynomials.format.limit c.args.polynomials.sizes.now c.args.polynomials.coefficients.now c.loop-k.at c.loop-k.k =
    turn c.args.polynomials.covered (omega (arith, c.loop-k.invariant.most _ c.requires.0.few)) c.loop-k-test.true in
    written_one _ _ _ _ _ c.loop-k.invariant c.requires.0.few c.requires.1 c.loop-k-test.true _ (omega (arith, t.roomy))
    c.write_polynomial.ensures

pub returns : goal.returns
returns c = written_all _ _ _ _ _ c.loop-k.invariant c.requires.0.few c.loop-k-test.false
