use Rattle.std.proofs.Common.{add_assoc, ◌≡◌, ◌*◌, ◌/◌, ◌+◌, arith}
use Rattle.vector.specs.Multiple.{gains_multiple}
use Rattle.vector.specs.RowStored.{row_words}
use Rattle.vector.proofs.Storing.{storing_start, storing_turn, storing_end}
use Rattle.vector.proofs.Sums.{next_sum, next_fits, row_fits, row_stored_lem}
use Rattle.vector.proofs.multiple.add_scaled.Goals as goal

pub loop-row-init : goal.loop-row-init
loop-row-init c = storing_start _ _ _ _

pub add_row-requires : goal.add_row-requires
add_row-requires c =
    let A = c.args in
    row_fits A.h.now A.d A.s.now A.a A.n A.c c.loop-row.invariant (c.requires.n_in_bounds, (c.requires.small, c.requires.fits)) row_words (omega arith)

pub loop-row-preserved : goal.loop-row-preserved
loop-row-preserved c =
    let A = c.args in
    let next : row_words * (c.loop-row.row + 1) ≡ row_words * c.loop-row.row + row_words = omega arith in
    rw next (row_stored_lem A.h.now A.d A.s.now A.a A.n A.c c.loop-row.invariant _ (omega arith) c.add_row.ensures)

pub loop-left-init : goal.loop-left-init
loop-left-init c =
    let all : row_words * (c.args.n / row_words) + 0 ≡ row_words * c.loop-row.row = omega arith in
    rw all c.loop-row.invariant

pub sum_at-requires : goal.sum_at-requires
sum_at-requires c =
    let A = c.args in
    next_fits A.h.now A.d A.s.now A.a A.n A.c c.loop-left.invariant (c.requires.n_in_bounds, (c.requires.small, c.requires.fits)) (omega arith)

pub loop-left-preserved : goal.loop-left-preserved
loop-left-preserved c =
    let A = c.args in
    let so_far = c.loop-left.invariant in
    let next : row_words * (A.n / row_words) + c.loop-left.left + 1 ≡ row_words * (A.n / row_words) + (c.loop-left.left + 1) = add_assoc _ _ _ in
    rw (← next) (storing_turn so_far _ (omega arith) (next_sum A.h.now A.d A.s.now A.a A.n A.c so_far _ c.sum_at.ensures))

pub returns : goal.returns
returns c =
    let A = c.args in
    let words = storing_end c.loop-left.invariant (omega arith) in
    record {
      words = words;
      polynomials = gains_multiple _ _ _ A.s.now A.a _ A.c c.requires.n_in_bounds.0 words;
    }
