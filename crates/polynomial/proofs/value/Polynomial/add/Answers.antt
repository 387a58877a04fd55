-- 1 times g is g.
use mathlib.Core.Path.{ap}
use native.Mathlib.Omega.{arith}
use Rattle.algebra.specs.Coefficients.{add}
use Rattle.modular.specs.Modulo.{modulo}
use Rattle.residue.specs.Modulus.{valid_modulus}
use Rattle.polynomial.specs.Value.{represents_is}
use Rattle.polynomial.proofs.Multiple.{scale_one}
use Rattle.polynomial.proofs.value.Polynomial.add.Goals as goal

pub returns : goal.returns
returns c =
    let S = c in
    represents_is
    c.add_multiple.ensures
    (ap
    (add (modulo S.args.modulus.p) _)
    (scale_one S.args.modulus.p (omega (arith, (valid_modulus S.args.modulus).prime.large)) _ S.requires.1.canonical))
