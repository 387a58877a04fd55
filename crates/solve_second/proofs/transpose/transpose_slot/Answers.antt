use mathlib.Core.Path.{refl}
use Prim.Native.Nat.{◌-◌, ◌<◌}
use native.Mathlib.Omega.{arith}
use Rattle.solve_lattice.specs.Memory.{slot_size}
use Rattle.solve_second.specs.Spread.{lane_spread}
use Rattle.solve_second.specs.Greatest.{greatest_high, greatest_small, greatest_positive}
use Rattle.solve_second.specs.Words.{reversed}
use Rattle.solve_second.specs.Filling.{filling_same}
use Rattle.solve_second.specs.TransposeFilling.{slots_empty, slots_filled, transposing_lane}
use Rattle.solve_second.proofs.transpose.transpose_slot.Goals as goal

pub returns-then-level-q-eq0 : goal.returns-then-level-q-eq0
returns-then-level-q-eq0 c =
    slots_empty c.args.level.now c.args.n c.args.k c.requires.low_blocks.2 c.requires.before
    (λ (h : 0 < slot_size c.args.level.now (reversed c.args.n c.args.k)). omega arith)

pub transpose_lane-requires : goal.transpose_lane-requires
transpose_lane-requires c =
    let small = greatest_small c.args.level.now c.args.n c.requires.low_blocks.1 c.requires.low_blocks.0 in
    let high = greatest_high c.args.level.now c.args.n (c.args.n - 1 - c.loop-i.i) (omega arith) in record {
      low_blocks = (c.requires.low_blocks.0, omega arith, omega arith, omega (arith, c.requires.height, high));
      room = omega (arith, small, c.requires.height, c.requires.before.room, c.loop-i.invariant.same_length);
    }

pub loop-i-preserved : goal.loop-i-preserved
loop-i-preserved c =
    let some : 0 < slot_size c.args.level.now (reversed c.args.n c.args.k) = omega arith in
    let small = greatest_small c.args.level.now c.args.n c.requires.low_blocks.1 c.requires.low_blocks.0 in
    let high = greatest_high c.args.level.now c.args.n (c.args.n - 1 - c.loop-i.i) (omega arith) in
    transposing_lane c.args.level.now c.args.n c.args.k c.requires.low_blocks.2 some c.requires.low_blocks.1 small c.loop-i.i
    (omega arith) c.loop-i.invariant c.requires.height
    (lane_spread (omega (arith, small, high, c.requires.height, c.requires.before.room, c.loop-i.invariant.same_length))
    c.transpose_lane.ensures)

pub overflow_mul-transposed : goal.overflow_mul-transposed
overflow_mul-transposed c =
    omega (arith, c.requires.height, greatest_small c.args.level.now c.args.n c.requires.low_blocks.1 c.requires.low_blocks.0)

pub overflow_sub-transposed : goal.overflow_sub-transposed
overflow_sub-transposed c =
    omega (
      arith,
      c.requires.height,
      greatest_positive c.args.level.now c.args.n (c.args.n - 1 - c.args.k) (omega arith) (omega arith),
    )

pub returns : goal.returns
returns c =
    let some : 0 < slot_size c.args.level.now (reversed c.args.n c.args.k) = omega arith in
    slots_filled c.args.level.now c.args.n c.args.k c.requires.low_blocks.2 some c.requires.low_blocks.1 c.requires.before
    (filling_same c.loop-i.invariant (omega arith)) c.requires.height refl
