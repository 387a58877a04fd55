use Rattle.std.proofs.Common.{sym, ◌∙◌}
use Rattle.check_conditions.proofs.FirstPlace.{passing_turn, passing_found, passing_end}
use Rattle.check_conditions.proofs.first.refuse_first.Goals as goal

pub returns-then-wrong : goal.returns-then-wrong
returns-then-wrong g c = λ holds each.
    passing_found (c.loop-place.invariant holds each) _ c.loop-place-test.true (sym (each _ _ c.loop-place-test.true c.wrong.ensures) ∙ c.if-wrong.true)

pub loop-place-preserved : goal.loop-place-preserved
loop-place-preserved g c = λ holds each.
    passing_turn (c.loop-place.invariant holds each) c.loop-place-test.true (sym (each _ _ c.loop-place-test.true c.wrong.ensures) ∙ c.if-wrong.false)

pub returns : goal.returns
returns g c = λ holds each. passing_end (c.loop-place.invariant holds each) _ c.loop-place-test.false
