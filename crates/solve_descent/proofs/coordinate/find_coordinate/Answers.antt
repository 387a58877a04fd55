use Prim.Native.Nat.{◌*◌}
use native.Mathlib.Nat.{mul-le-mul_right}
use native.Mathlib.Omega.{arith}
use Rattle.solve_lattice.specs.Room.{product_degrees}
use Rattle.solve_descent.proofs.Coordinates.{coordinate_found}
use Rattle.solve_descent.proofs.coordinate.find_coordinate.Goals as goal

pub reduce_by_kernel-requires-clause-sums : goal.reduce_by_kernel-requires-clause-sums
reduce_by_kernel-requires-clause-sums c i =
    let products = mul-le-mul_right (product_degrees * (c.args.modulus.p * c.args.modulus.p)) c.requires.bounds.0 in
    omega (arith, c.subtract_combination.ensures.bound 0 c.requires.zero i)

pub returns : goal.returns
returns c = coordinate_found c.args.level.now c.requires.bounds.0 c.requires.zero c.requires.degrees c.subtract_combination.ensures
    c.reduce_by_kernel.ensures
