-- One call for each side.
use mathlib.Core.Path.{sym, ap, subst}
use Prim.Native.Nat.{◌-◌, ◌<◌}
use native.Mathlib.Omega.{arith}
use Rattle.solve_second.specs.Greatest.{greatest_high, greatest_small}
use Rattle.solve_second.specs.Spread.{lane_spread}
use Rattle.solve_second.specs.SideFilling.{TailsEnd, side_filling_same}
use Rattle.solve_second.specs.RowLaid.{side_filling_row}
use Rattle.solve_second.specs.Side.{sided, side_row}
use Rattle.solve_second.specs.declared.second_side.Side.{Side}
use Rattle.solve_lattice.specs.Room.{lanes}
use Rattle.solve_second.proofs.second_side.side_lane.Goals as goal

pub transpose_lane-requires : goal.transpose_lane-requires
transpose_lane-requires c =
    let inside = subst (λ (s : Side). side_row s < lanes) c.in-Row.is c.requires.low_blocks.2 in
    let small = greatest_small c.args.level.now c.args.n c.requires.low_blocks.3 c.requires.low_blocks.0 in
    let high = greatest_high c.args.level.now c.args.n (c.args.n - 1 - c.args.i) (omega arith) in record {
      low_blocks = (c.requires.low_blocks.0, omega arith, omega (arith, inside), omega (arith, c.requires.height, high));
      room = omega (arith, small, c.requires.height, c.requires.before.room);
    }

pub returns-in-Row : goal.returns-in-Row
returns-in-Row c =
    let told = c.in-Row.is in
    let L = c.args.level.now in
    let small = greatest_small L c.args.n c.requires.low_blocks.3 c.requires.low_blocks.0 in
    let high = greatest_high L c.args.n (c.args.n - 1 - c.args.i) (omega arith) in
    side_filling_same c.args.n (ap (λ (s : Side). sided s L) (sym told))
    (side_filling_row _ L c.requires.low_blocks.0 c.requires.low_blocks.3 (subst (λ (s : Side). TailsEnd (sided s L)) told c.requires.low_blocks.1)
    c.args.i
    c.requires.low_blocks.4 (side_filling_same c.args.n (ap (λ (s : Side). sided s L) told) c.requires.before) c.requires.height
    (lane_spread (omega (arith, small, high, c.requires.height, c.requires.before.room)) c.transpose_lane.ensures))
