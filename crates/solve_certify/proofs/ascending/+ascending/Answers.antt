-- The proof of the cycle of calls of `ascend`. In each answer R is what is given at the stage, and C the column's own part of it.
use Rattle.std.proofs.Common.{refl, arith}
use Rattle.vector.specs.Bound.{zeros_none}
use Rattle.solve_lattice.specs.Room.{level_words, block_words}
use Rattle.solve_certify.specs.Top.{has_last, ascended_top}
use Rattle.solve_certify.specs.Dropping.{left_out_lem, left_alone, drop_ready, drop_ascended}
use Rattle.solve_certify.specs.Filling.{left_reducible, fill_ready, fill_emptied, fill_undone, fill_none}
use Rattle.solve_certify.specs.Rising.{rise_ready}
use Rattle.solve_certify.specs.Falling.{fall_undone, fall_none}
use Rattle.solve_certify.proofs.ascending.+ascending.Goals as goal

pub ascend-find_witness-requires-clause-last : goal.ascend-find_witness-requires-clause-last
ascend-find_witness-requires-clause-last t c = has_last (omega arith) c.requires.levels

pub ascend-returns-then-column-columns-clause-ascended_from : goal.ascend-returns-then-column-columns-clause-ascended_from
ascend-returns-then-column-columns-clause-ascended_from t c = ascended_top (omega arith) c.find_witness.ensures

pub ascend-divide_column-left-requires-clause-areas : goal.ascend-divide_column-left-requires-clause-areas
ascend-divide_column-left-requires-clause-areas t c = (zeros_none block_words, zeros_none block_words)

pub drop_column-ascend-found-requires : goal.drop_column-ascend-found-requires
drop_column-ascend-found-requires t c =
    let C = c.requires.column in
    rw c.next_column.ensures (omega (arith, c.decreases, C.inside), drop_ready C c.requires.ready)

pub drop_column-returns-then-found-clause-ascended_from : goal.drop_column-returns-then-found-clause-ascended_from
drop_column-returns-then-found-clause-ascended_from t c =
    drop_ascended c.requires.column (rw c.next_column.ensures at c.ascend-found.ensures.ascended_from)
    (left_out_lem _ _ c.if-found.true c.clear.ensures)

pub drop_column-returns-else-found-clause-ascended_from : goal.drop_column-returns-else-found-clause-ascended_from
drop_column-returns-else-found-clause-ascended_from t c =
    drop_ascended c.requires.column (rw c.next_column.ensures at c.ascend-found.ensures.ascended_from)
    (left_alone _ _ c.if-found.false)

pub fill_column-fill_slot-requires-clause-block : goal.fill_column-fill_slot-requires-clause-block
fill_column-fill_slot-requires-clause-block t c =
    let C = c.requires.column in
    (C.divided.ends.within, left_reducible c.requires.ready C)

pub fill_column-ascend-found-requires : goal.fill_column-ascend-found-requires
fill_column-ascend-found-requires t c =
    let C = c.requires.column in
    rw c.next_column.ensures (omega (arith, c.decreases, C.inside), fill_ready c.requires.ready C (rw c.pivot_row-q.ensures at c.fill_slot.ensures))

pub fill_column-returns-then-found-clause-ascended_from : goal.fill_column-returns-then-found-clause-ascended_from
fill_column-returns-then-found-clause-ascended_from t c =
    let R = c.requires in
    let q = c.pivot_row-q.ensures in
    fill_undone R.ready R.column (rw q at c.fill_slot.ensures) (rw c.next_column.ensures at c.ascend-found.ensures.ascended_from)
    c.if-found.true (rw q at c.lower_quotients.ensures.lowers)

pub fill_column-returns-then-found-clause-level : goal.fill_column-returns-then-found-clause-level
fill_column-returns-then-found-clause-level t c =
    let R = c.requires in
    let q = c.pivot_row-q.ensures in
    fill_emptied R.ready R.column (rw q at c.fill_slot.ensures) c.ascend-found.ensures.level (rw q at c.empty_slot.ensures)

pub fill_column-returns-else-found-clause-ascended_from : goal.fill_column-returns-else-found-clause-ascended_from
fill_column-returns-else-found-clause-ascended_from t c =
    let R = c.requires in
    fill_none R.ready R.column (rw c.pivot_row-q.ensures at c.fill_slot.ensures) (rw c.next_column.ensures at c.ascend-found.ensures.ascended_from)
    c.if-found.false

pub fill_column-returns-else-found-clause-level : goal.fill_column-returns-else-found-clause-level
fill_column-returns-else-found-clause-level t c =
    let R = c.requires in
    let q = c.pivot_row-q.ensures in
    fill_emptied R.ready R.column (rw q at c.fill_slot.ensures) c.ascend-found.ensures.level (rw q at c.empty_slot.ensures)

pub insert_column-next_level-size-requires-clause-next : goal.insert_column-next_level-size-requires-clause-next
insert_column-next_level-size-requires-clause-next t c = (refl, zeros_none level_words)

pub insert_column-ascend-found-requires : goal.insert_column-ascend-found-requires
insert_column-ascend-found-requires t c =
    let C = c.requires.column in
    rw c.next_column.ensures (omega (arith, c.decreases, C.inside), rise_ready C c.next_level-size.ensures c.requires.ready)

pub insert_column-returns-then-found : goal.insert_column-returns-then-found
insert_column-returns-then-found t c =
    let R = c.requires in
    let done = c.ascend-found.ensures in
    fall_undone R.column c.next_level-size.ensures (rw c.next_column.ensures at done.ascended_from) c.if-found.true done.level
    c.descend.ensures

pub insert_column-returns-else-found : goal.insert_column-returns-else-found
insert_column-returns-else-found t c =
    let R = c.requires in
    fall_none R.column c.next_level-size.ensures (rw c.next_column.ensures at c.ascend-found.ensures.ascended_from) c.if-found.false
