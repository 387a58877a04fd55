-- One call: the tail of a filled slot in its lane.
use mathlib.Core.Path.{refl, ap}
use Prim.Native.Nat.{◌+◌, ◌-◌, ◌*◌, ◌<◌}
use native.Mathlib.Omega.{arith}
use lib.ListN.{get_or}
use Rattle.solve_lattice.specs.Memory.{slot_size}
use Rattle.solve_second.specs.Greatest.{greatest_high, greatest_small}
use Rattle.solve_second.specs.Words.{reversed, tail_word}
use Rattle.solve_second.specs.Spread.{lane_spread, spread_same}
use Rattle.solve_second.specs.SideFilling.{side_filling_empty, side_filling_lane}
use Rattle.solve_lattice.specs.Room.{lanes, last_lane}
use Rattle.solve_second.proofs.second_side.tail_lane.Goals as goal

pub returns-then-level-q-eq0 : goal.returns-then-level-q-eq0
returns-then-level-q-eq0 c =
    side_filling_empty c.args.level.now c.args.n c.args.i c.requires.low_blocks.3
    (λ (h : 0 < slot_size c.args.level.now (reversed c.args.n c.args.i)). omega arith) c.requires.before

pub overflow_sub-lift : goal.overflow_sub-lift
overflow_sub-lift c =
    omega (
      arith,
      c.requires.height,
      c.slot_height.ensures,
      greatest_high c.args.level.now c.args.n (c.args.n - 1 - c.args.i) (omega arith),
    )

pub overflow_mul-lift : goal.overflow_mul-lift
overflow_mul-lift c =
    omega (arith, c.requires.height, greatest_small c.args.level.now c.args.n c.requires.low_blocks.2 c.requires.low_blocks.0)

pub overflow_add-i : goal.overflow_add-i
overflow_add-i c =
    omega (arith, c.requires.height, greatest_small c.args.level.now c.args.n c.requires.low_blocks.2 c.requires.low_blocks.0)

pub copy_lane-requires-clause-room : goal.copy_lane-requires-clause-room
copy_lane-requires-clause-room c =
    let short = c.requires.low_blocks.1.short (c.args.n - 1 - c.args.i) (omega arith) in
    let small = greatest_small c.args.level.now c.args.n c.requires.low_blocks.2 c.requires.low_blocks.0 in
    let some : 0 < slot_size c.args.level.now (reversed c.args.n c.args.i) = omega arith in
    let high = c.slot_height.ensures in
    omega (arith, short, small, some, high, c.requires.height, c.requires.before.room)

pub returns : goal.returns
returns c =
    let q = c.args.n - 1 - c.args.i in
    let short = c.requires.low_blocks.1.short q (omega arith) in
    let small = greatest_small c.args.level.now c.args.n c.requires.low_blocks.2 c.requires.low_blocks.0 in
    let some : 0 < slot_size c.args.level.now (reversed c.args.n c.args.i) = omega arith in
    let high = c.slot_height.ensures in
    side_filling_lane c.args.level.now c.args.n c.args.i c.requires.low_blocks.3 some c.requires.low_blocks.2 small short
    (λ j ge lt. c.requires.low_blocks.1.zero q j (omega arith) ge lt) c.requires.before c.requires.height
    (spread_same
    (lane_spread (omega (arith, short, small, some, high, c.requires.height, c.requires.before.room)) c.copy_lane.ensures)
    (λ e. tail_word c.args.level.now q e) (λ e lt. ap (λ x. get_or c.args.level.now x 0) (omega arith))
    (ap (λ m. last_lane - c.args.i + lanes * (c.args.top - m)) high) refl)
