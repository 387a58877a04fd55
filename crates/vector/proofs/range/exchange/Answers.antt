use Rattle.std.proofs.Common.{◌≡◌, ◌+◌, ◌<◌, ◌≤◌, ◌%◌, length, get_or, refl, ap, ◌∙◌, zero-add, arith}
use Rattle.vector.proofs.Parts.{range_length, range_reads, range_turn, range_end}
use Rattle.vector.proofs.Storing.{storing_start, storing_reads, storing_turn, storing_end}
use Rattle.vector.proofs.range.exchange.Goals as goal

pub loop-j-init : goal.loop-j-init
loop-j-init c = (storing_start _ _ _ _, storing_start _ _ _ _)

pub reduce-value-requires : goal.reduce-value-requires
reduce-value-requires c =
    let A = c.args in
    let j = c.loop-j.j in
    let room : 0 + A.n ≤ length A.h.now = omega arith in
    let lt : j < A.n = omega (arith, range_length A.h.now 0 A.n A.n room refl) in
    let reads = range_reads A.h.now 0 A.n A.n room refl c.loop-j.invariant.0 lt in
    rw (reads, zero-add) (c.requires.sums j lt)

pub loop-j-preserved : goal.loop-j-preserved
loop-j-preserved c =
    let A = c.args in
    let I = c.loop-j.invariant in
    let j = c.loop-j.j in
    let room : 0 + A.n ≤ length A.h.now = omega arith in
    let lt : j < A.n = omega (arith, range_length A.h.now 0 A.n A.n room refl) in
    let reads : _ ≡ get_or A.h.now j 0 = range_reads A.h.now 0 A.n A.n room refl I.0 lt ∙ ap (λ i. get_or A.h.now i 0) (zero-add j) in (
      range_turn A.h.now 0 A.n A.n room refl I.0 _ lt (storing_reads I.1),
      storing_turn I.1 _ lt (c.reduce-value.ensures ∙ ap (λ x. x % A.modulus.p) reads),
    )

pub returns : goal.returns
returns c =
    let A = c.args in
    let room : 0 + A.n ≤ length A.h.now = omega arith in
    let past : A.n ≤ c.loop-j.j = omega (arith, range_length A.h.now 0 A.n A.n room refl) in
    record {
      hand = range_end A.h.now 0 A.n A.n room refl c.loop-j.invariant.0 past;
      slot = storing_end c.loop-j.invariant.1 past;
    }
