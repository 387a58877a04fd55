-- The step on the block is that of `take_multiple`, and the same multiple is taken off the tail.
use native.Mathlib.Nat.{le_of_lt}
use Rattle.solve_lattice.proofs.Stepping
use Rattle.solve_lattice.proofs.Reducing
use Rattle.solve_lattice.proofs.remainder.take_word.Goals as goal

pub mul-requires : goal.mul-requires
mul-requires c =
    let m = c.args.modulus.valid in
    let step = c.requires.multiple in
    rw c.pivot_row-q.ensures (Stepping.value_below (le_of_lt m.prime.large) step, Stepping.slot_inverse_below m.prime step)

pub overflow_sub-minus : goal.overflow_sub-minus
overflow_sub-minus c =
    le_of_lt (Stepping.step_factor _ c.args.modulus.valid.prime c.requires.multiple _ (rw c.pivot_row-q.ensures at c.mul.ensures))

pub add_scaled-requires-clause-fits : goal.add_scaled-requires-clause-fits
add_scaled-requires-clause-fits c =
    let m = c.args.modulus.valid in
    let q = c.pivot_row-q.ensures in
    let words = Stepping.whole_degrees _ (rw q at c.next_multiple_of-words.ensures.value) in
    λ j lt. rw q (Stepping.step_sum _ m.prime c.requires.multiple _ (rw q at c.mul.ensures) c.requires.sums.0 m.limit j (rw words at lt))

pub add_tail-requires-clause-fits : goal.add_tail-requires-clause-fits
add_tail-requires-clause-fits c =
    let m = c.args.modulus.valid in
    let given = c.requires in
    let q = c.pivot_row-q.ensures in
    let words = Stepping.whole_degrees _ (rw q at c.next_multiple_of-tail_words.ensures.value) in
    λ j lt. rw q (Reducing.tail_sum m.prime given.multiple given.bounds _ (rw q at c.mul.ensures) c.args.tail.now given.sums.1 m.limit j
    (rw words at lt))
