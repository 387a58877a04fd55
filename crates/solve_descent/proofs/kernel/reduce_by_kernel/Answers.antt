use Prim.Native.Nat.{◌-◌, ◌<◌}
use mathlib.Core.Path.{◌≡◌}
use native.Mathlib.Omega.{arith}
use borrow.Author.Rules.{rules}
use lib.ListN.{length, get_or}
use Rattle.residue.specs.Modulus.{valid_modulus}
use Rattle.residue.specs.Below.{inverse_below}
use Rattle.solve_lattice.specs.Room.{tail_words}
use Rattle.solve_descent.proofs.Kernels.{kernel_start, kernel_none, kernel_end, kernel_last}
use Rattle.solve_descent.proofs.Kernels.{kernel_room, factor_below, kernel_sum, kernel_turn, kernel_skip, kernel_zero}
use Rattle.solve_descent.proofs.kernel.reduce_by_kernel.Goals as goal

pub returns-then-size-eq0 : goal.returns-then-size-eq0
returns-then-size-eq0 c = kernel_none (omega arith)

pub inverse-inverse-requires : goal.inverse-inverse-requires
inverse-inverse-requires c = (kernel_last c.requires.kernel (omega arith), c.requires.kernel.below _)

pub loop-i-init : goal.loop-i-init
loop-i-init c = kernel_start

pub reduce-requires : goal.reduce-requires
reduce-requires c = omega (arith, kernel_room c.loop-i.invariant c.requires.sums (c.loop-i.i - 1))

pub mul-factor-requires : goal.mul-factor-requires
mul-factor-requires c =
    let large : 1 < c.args.modulus.p = (valid_modulus c.args.modulus).prime.large in
    let below = inverse_below c.args.modulus.p large (get_or c.args.kernel.now (c.args.size - 1) 0) in
    (omega arith, omega (arith, c.inverse-inverse.ensures, below))

pub overflow_sub-modulus : goal.overflow_sub-modulus
overflow_sub-modulus c =
    let m = valid_modulus c.args.modulus in
    omega (
      arith,
      factor_below c.loop-i.invariant c.requires.kernel (omega arith) (omega arith) m.prime c.reduce.ensures c.inverse-inverse.ensures
          c.mul-factor.ensures,
    )

pub add_scaled-requires-clause-fits : goal.add_scaled-requires-clause-fits
add_scaled-requires-clause-fits c j lt =
    let m = valid_modulus c.args.modulus in
    kernel_sum c.loop-i.invariant c.requires.kernel (omega arith) (omega arith) m.prime c.reduce.ensures c.inverse-inverse.ensures
    c.mul-factor.ensures m.limit c.requires.sums j

pub loop-i-preserved-then-factor-gt0 : goal.loop-i-preserved-then-factor-gt0
loop-i-preserved-then-factor-gt0 c =
    let y : length c.loop-i.y ≡ tail_words = search rules in
    kernel_turn c.loop-i.invariant c.requires.kernel (omega arith) (omega arith) (valid_modulus c.args.modulus).prime c.reduce.ensures
    c.inverse-inverse.ensures c.mul-factor.ensures _ c.add_scaled.ensures.words (omega (arith, c.loop-i.invariant.same_length))

pub loop-i-preserved-else-factor-gt0 : goal.loop-i-preserved-else-factor-gt0
loop-i-preserved-else-factor-gt0 c =
    kernel_skip c.loop-i.invariant c.requires.kernel (omega arith) (omega arith) (valid_modulus c.args.modulus).prime c.reduce.ensures
    c.inverse-inverse.ensures c.mul-factor.ensures (omega arith)

pub loop-i-preserved : goal.loop-i-preserved
loop-i-preserved c =
    kernel_zero c.loop-i.invariant c.requires.kernel (omega arith) (omega arith) (valid_modulus c.args.modulus).prime (omega arith)

pub returns : goal.returns
returns c = kernel_end c.loop-i.invariant (omega arith)
