-- w divided by its common divisor with Z·b, made monic, is d or not.
use Rattle.truth.specs.Right.{certified}
use Rattle.check_conditions.specs.Areas.{system_in_slots}
use Rattle.check_conditions.proofs.Refusals.{denominators_same, denominators_differ}
use Rattle.check_conditions.proofs.Tests.{equal_test}
use Rattle.check_conditions.proofs.Values.{gcd_some, certified_value}
use Rattle.check_conditions.proofs.areas.SolutionAreas.try_denominators.Goals as goal

pub quotient-requires : goal.quotient-requires
quotient-requires c =
    let S = c in
    let m = S.args.self.now.loaded.certificate.dimensions.modulus in
    let w = c.polynomial_in-w.ensures in
    (w.valid, c.gcd-common.ensures.valid, gcd_some w c.side-sum.ensures c.gcd-common.ensures m.prime S.requires)

pub returns-then-not-equal : goal.returns-then-not-equal
unfolding certified system_in_slots
returns-then-not-equal c =
    let k = c in
    let g = k in
    let w = g.polynomial_in-w.ensures in
    let value = certified_value w g.side-sum.ensures g.gcd-common.ensures k.quotient.ensures k.monic-certified.ensures in
    let d = c.polynomial_in-d.ensures in
    denominators_differ _ _ _ _ (equal_test value d c.equal.ensures) c.if-not-equal.true

pub returns : goal.returns
unfolding certified system_in_slots
returns c =
    let k = c in
    let g = k in
    let w = g.polynomial_in-w.ensures in
    let value = certified_value w g.side-sum.ensures g.gcd-common.ensures k.quotient.ensures k.monic-certified.ensures in
    let d = c.polynomial_in-d.ensures in
    denominators_same _ _ _ _ (equal_test value d c.equal.ensures) c.if-not-equal.false
