-- The words are those of `add_scaled`; the word before the leading one is known before it.
use mathlib.Core.Path.{refl}
use native.Mathlib.Nat.{le_of_lt}
use native.Mathlib.Omega.{arith}
use Rattle.solve_lattice.specs.Memory.{row}
use Rattle.solve_lattice.proofs.Stepping
use Rattle.solve_lattice.proofs.step.take_multiple.Goals as goal

pub mul-factor-requires : goal.mul-factor-requires
mul-factor-requires c =
    let m = c.args.modulus.valid in
    let step = c.requires.step.multiple in
    rw c.pivot_row-q.ensures (Stepping.value_below (le_of_lt m.prime.large) step, Stepping.slot_inverse_below m.prime step)

pub overflow_sub-minus : goal.overflow_sub-minus
overflow_sub-minus c =
    le_of_lt (Stepping.step_factor _ c.args.modulus.valid.prime c.requires.step.multiple _ (rw c.pivot_row-q.ensures at c.mul-factor.ensures))

pub word_before-next-requires-clause-sum : goal.word_before-next-requires-clause-sum
word_before-next-requires-clause-sum c =
    let step = c.requires.step.multiple in
    let within = (step.level.slot (row c.args.found.size) (omega arith)).block.within in
    rw c.pivot_row-q.ensures (Stepping.step_reduces _ c.args.modulus.valid.prime step _ (rw c.pivot_row-q.ensures at c.mul-factor.ensures)
    c.requires.sums _ (omega (arith, within)))

pub add_scaled-requires-clause-fits : goal.add_scaled-requires-clause-fits
add_scaled-requires-clause-fits c =
    let m = c.args.modulus.valid in
    let taken = Stepping.whole_degrees _ (rw c.pivot_row-q.ensures at c.next_multiple_of-words.ensures.value) in
    λ j lt. rw c.pivot_row-q.ensures (Stepping.step_sum _ m.prime c.requires.step.multiple _ (rw c.pivot_row-q.ensures at c.mul-factor.ensures)
    c.requires.sums m.limit j (rw taken at lt))

pub returns : goal.returns
returns c =
    let q = c.pivot_row-q.ensures in
    let by = rw q at c.mul-factor.ensures in
    let taken = Stepping.whole_degrees _ (rw q at c.next_multiple_of-words.ensures.value) in
    let words = rw (q, taken) at c.add_scaled.ensures.words in
    let next = c.word_before-next.ensures in
    let unseen = c.words_unseen-unseen.ensures in
    let step = c.requires.step in record {
      factor = by;
      words = words;
      size = refl;
      rest = Stepping.step_rest _ c.args.modulus.valid.prime step.multiple _ by _ words _ (rw q at next.none) (rw q at next.some)
          _ (rw q at unseen.none) (rw q at unseen.some)
          step.behind c.requires.sums;
    }
