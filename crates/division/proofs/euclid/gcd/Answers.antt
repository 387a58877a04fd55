use native.Mathlib.Omega.{arith}
use Rattle.residue.specs.Modulus.{valid_modulus}
use Rattle.division.proofs.Remainders.{descending_turn, descending_less, descending_end}
use Rattle.division.proofs.euclid.gcd.Goals as goal

pub loop-b-smaller : goal.loop-b-smaller
loop-b-smaller c =
    let S = c in
    descending_less _ (valid_modulus S.args.modulus).prime _ _ _ _ c.loop-b.invariant (omega arith) _ c.remainder-r.ensures

pub loop-b-preserved : goal.loop-b-preserved
loop-b-preserved c =
    let S = c in
    descending_turn _ (valid_modulus S.args.modulus).prime _ _ _ _ c.loop-b.invariant (omega arith) _ c.remainder-r.ensures

pub returns : goal.returns
returns c =
    let S = c in
    descending_end _ (valid_modulus S.args.modulus).prime _ _ _ _ c.loop-b.invariant (omega arith) _ c.monic.ensures
