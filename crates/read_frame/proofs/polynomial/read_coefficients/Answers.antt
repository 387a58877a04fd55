use Rattle.std.proofs.Common.{sym, ◌∙◌, arith}
use Rattle.read_frame.proofs.CoefficientTurns.{reached_start, reached_next, reached_end, due_missing, due_kind}
use Rattle.read_frame.proofs.CoefficientTurns.{due_large, due_last}
use Rattle.read_frame.proofs.polynomial.read_coefficients.Goals as goal

pub loop-place-init : goal.loop-place-init
loop-place-init c = reached_start _ _ _ c.requires.0

pub returns-in_default : goal.returns-in_default
returns-in_default c =
    let l = c.loop-place.invariant in
    sym (l.same ∙ due_missing _ _ _ _ c.loop-place-test.true l.within c.in_default.ensures.lookup.3)

pub returns-then-kind_of-ne3 : goal.returns-then-kind_of-ne3
returns-then-kind_of-ne3 c =
    let w = c.in-Some.ensures.lookup.3 in
    let r = w.1 0 in
    sym
    (c.loop-place.invariant.same ∙ due_kind _ _ _ _ c.loop-place-test.true w.0 (λ k. c.if-kind_of-ne3.true (cc)))

pub returns-then-from-coefficient : goal.returns-then-from-coefficient
returns-then-from-coefficient c =
    let w = c.in-Some.ensures.lookup.3 in
    let r = w.1 0 in
    sym
    (c.loop-place.invariant.same ∙ due_large _ _ _ _ c.loop-place-test.true w.0 (cc) (omega arith))

pub returns-then-coefficient-eq0 : goal.returns-then-coefficient-eq0
returns-then-coefficient-eq0 c =
    let w = c.in-Some.ensures.lookup.3 in
    let r = w.1 0 in
    sym
    (c.loop-place.invariant.same
    ∙ due_last _ _ _ _ c.loop-place-test.true w.0 (cc) (omega arith) (cc) (omega arith))

pub loop-place-preserved : goal.loop-place-preserved
loop-place-preserved c =
    let w = c.in-Some.ensures.lookup.3 in
    let r = w.1 0 in
    reached_next _ _ _ _ c.loop-place.invariant c.loop-place-test.true w.0 (cc) (omega arith) (λ last z. grind arith)

pub returns : goal.returns
returns c = sym (reached_end _ _ _ _ c.loop-place.invariant (omega arith))
