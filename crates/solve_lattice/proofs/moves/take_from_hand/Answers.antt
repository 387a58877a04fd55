-- The step on the block is that of `take_multiple`, and the same multiple is taken off the tail.
use native.Mathlib.Nat.{le_of_lt, le_trans}
use native.Mathlib.Omega.{arith}
use Rattle.solve_lattice.specs.Sums.{sums_fewer}
use Rattle.solve_lattice.specs.Step.{takes_left}
use Rattle.solve_lattice.proofs.Stepping.{whole_degrees}
use Rattle.solve_lattice.proofs.Taking
use Rattle.solve_lattice.proofs.moves.take_from_hand.Goals as goal

pub take_multiple-left-requires-clause-sums : goal.take_multiple-left-requires-clause-sums
take_multiple-left-requires-clause-sums c =
    sums_fewer _ c.args.block.now _ 1 (omega (arith, c.requires.fits.some)) c.requires.memory.hand.sums

pub overflow_sub-minus : goal.overflow_sub-minus
overflow_sub-minus c =
    le_of_lt (Taking.factor_below c.args.modulus.valid.prime c.requires.memory c.requires.fits
    (takes_left c.requires.fits.some c.take_multiple-left.ensures c.find_rest-rest.ensures))

pub add_tail-requires-clause-fits : goal.add_tail-requires-clause-fits
add_tail-requires-clause-fits c =
    let m = c.args.modulus.valid in
    let valid = c.requires.memory in
    let fits = c.requires.fits in
    let taken = takes_left fits.some c.take_multiple-left.ensures c.find_rest-rest.ensures in
    let words = whole_degrees _ (rw c.pivot_row-q.ensures at c.next_multiple_of-words.ensures.value) in
    λ j lt. rw c.pivot_row-q.ensures (Taking.taking_sum m.prime valid fits taken m.limit j
    (le_trans lt (Taking.taking_fits m.prime valid fits taken _ words)))

pub returns : goal.returns
returns c =
    let q = c.pivot_row-q.ensures in
    Taking.taking_stepped c.args.modulus.valid.prime c.requires.memory c.requires.fits
    (takes_left c.requires.fits.some c.take_multiple-left.ensures c.find_rest-rest.ensures)
    _ (whole_degrees _ (rw q at c.next_multiple_of-words.ensures.value))
    _ (rw q at c.add_tail.ensures) _ (rw q at c.max.ensures)
