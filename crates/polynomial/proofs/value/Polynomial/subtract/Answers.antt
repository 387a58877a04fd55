-- p - 1 times g is -g.
use native.Mathlib.Omega.{arith}
use Rattle.residue.specs.Modulus.{valid_modulus}
use Rattle.polynomial.specs.Value.{represents_is}
use Rattle.polynomial.proofs.Multiple.{subtract_is}
use Rattle.polynomial.proofs.value.Polynomial.subtract.Goals as goal

pub returns : goal.returns
returns c =
    let S = c in
    represents_is
    c.add_multiple.ensures
    (subtract_is S.args.modulus.p (omega (arith, (valid_modulus S.args.modulus).prime.large)) _ _ S.requires.1.canonical)
