-- The word that is known, or those that `find_leading_near` finds.
use Prim.Native.Nat.{◌<◌}
use native.Mathlib.Nat.{le_trans}
use native.Mathlib.Omega.{arith}
use Rattle.solve_lattice.specs.Room.{product_words}
use Rattle.solve_lattice.specs.Found.{found_ends, found_leading, found_within}
use Rattle.solve_lattice.proofs.step.find_rest.Goals as goal

pub returns : goal.returns
returns c =
    let positive : 0 < c.args.modulus.p = omega (arith, c.args.modulus.valid.prime.large) in
    let R = c.requires.rest in
    let found = c.find_leading_near.ensures in
    let within = le_trans R.fewer R.within in
    let behind = R.late (omega arith) in record {
      ends = found_ends _ positive _ product_words _ within behind _ found.size;
      leading = found_leading _ positive _ product_words _ within behind _ found.size _ found.value;
      within = le_trans (found_within _ positive _ product_words _ within behind _ found.size) R.fewer;
    }
