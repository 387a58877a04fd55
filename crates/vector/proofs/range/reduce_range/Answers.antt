use Rattle.std.proofs.Common.{◌≡◌, ◌+◌, ◌<◌, ◌≤◌, ◌%◌, length, get_or, refl, ap, ◌∙◌, zero-add, arith}
use Rattle.vector.proofs.Parts.{range_length, range_reads, range_turn, range_end}
use Rattle.vector.proofs.Storing.{storing_start}
use Rattle.vector.proofs.range.reduce_range.Goals as goal

pub loop-word-init : goal.loop-word-init
loop-word-init c = storing_start _ _ _ _

pub reduce-requires : goal.reduce-requires
reduce-requires c =
    let A = c.args in
    let j = c.loop-word.word-index in
    let room : 0 + A.n ≤ length A.h.now = omega arith in
    let lt : j < A.n = omega (arith, range_length A.h.now 0 A.n A.n room refl) in
    let reads = range_reads A.h.now 0 A.n A.n room refl c.loop-word.invariant lt in
    rw (reads, zero-add) (c.requires.sums j lt)

pub loop-word-preserved : goal.loop-word-preserved
loop-word-preserved c =
    let A = c.args in
    let j = c.loop-word.word-index in
    let room : 0 + A.n ≤ length A.h.now = omega arith in
    let lt : j < A.n = omega (arith, range_length A.h.now 0 A.n A.n room refl) in
    let reads : _ ≡ get_or A.h.now j 0 = range_reads A.h.now 0 A.n A.n room refl c.loop-word.invariant lt ∙ ap (λ i. get_or A.h.now i 0) (zero-add j) in
    range_turn A.h.now 0 A.n A.n room refl c.loop-word.invariant _ lt (c.reduce.ensures ∙ ap (λ x. x % A.modulus.p) reads)

pub returns : goal.returns
returns c =
    let A = c.args in
    let room : 0 + A.n ≤ length A.h.now = omega arith in
    range_end A.h.now 0 A.n A.n room refl c.loop-word.invariant (omega (arith, range_length A.h.now 0 A.n A.n room refl))
