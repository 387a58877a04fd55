use Rattle.std.proofs.Common.{◌≡◌, ◌-◌, ◌+◌, ap, get_or, ◌∙◌, arith, rules}
use Rattle.std.proofs.lemmas.List.{get_or-replicate}
use Rattle.vector.proofs.Parts.{range_length, range_stored}
use Rattle.vector.proofs.range.clear.Goals as goal

pub returns : goal.returns
returns c =
    let A = c.args in
    let long : A.a + A.n - A.a ≡ A.n = omega arith in
    let same = range_length A.h.now A.a _ A.n c.requires long in
    let zeros = c.fill.ensures.after (search rules) in
    range_stored A.h.now A.a _ A.n c.requires long (λ j. 0) _ (c.fill.ensures.len ∙ same)
    (λ j lt. ap (λ w. get_or w j 0) zeros ∙ get_or-replicate _ j 0 0 (omega arith))
