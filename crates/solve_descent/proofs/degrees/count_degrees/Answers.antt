-- Behind what is found every word is 0.
use Prim.Native.Nat.{◌<◌}
use native.Mathlib.Omega.{arith}
use Rattle.residue.specs.Modulus.{valid_modulus}
use Rattle.solve_descent.proofs.Negating.{degrees_found}
use Rattle.solve_descent.proofs.degrees.count_degrees.Goals as goal

pub returns : goal.returns
returns c =
    let m = valid_modulus c.args.modulus in
    let positive : 0 < c.args.modulus.p = omega (arith, m.prime.large) in
    degrees_found positive c.args.quotients.now _ c.find_leading-found.ensures.size c.div_ceil.ensures
