use native.Mathlib.Omega.{arith}
use Rattle.modular.specs.Modulo.{modulo}
use Rattle.residue.proofs.Descent.{descent_start, cofactor_below, descent_turn, descent_end}
use Rattle.residue.proofs.modulus.Modulus.inverse.Goals as goal

pub loop-rest-init : goal.loop-rest-init
loop-rest-init c = descent_start _ _ c.args.self.valid.prime.large c.requires.1

pub mul-factor-requires : goal.mul-factor-requires
mul-factor-requires c =
    let i = c.loop-rest.invariant in
    (i.factor_below, cofactor_below _ _ (omega arith) (omega arith))

pub loop-rest-preserved : goal.loop-rest-preserved
unfolding modulo
loop-rest-preserved c =
    descent_turn _ _ c.loop-rest.factor c.loop-rest.rest _ (omega arith) c.loop-rest.invariant c.mul-factor.ensures

pub returns : goal.returns
unfolding modulo
returns c = descent_end _ _ _ c.loop-rest.rest (omega arith) c.loop-rest.invariant
