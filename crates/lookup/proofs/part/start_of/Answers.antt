use mathlib.Core.Path.{◌≡◌, sym, ap, ◌∙◌}
use Prim.Native.Nat.{◌+◌}
use native.Mathlib.Omega.{arith}
use borrow.Author.Rules.{rules}
use Rattle.words.specs.Starts.{start_place, start_first}
use Rattle.lookup.proofs.Walk.{reached_inside, reached_end, reached_next}
use Rattle.lookup.proofs.part.start_of.Goals as goal

pub loop-init : goal.loop-init
loop-init c = sym (start_first c.args.words.now)

pub offset_bounds-words-at : goal.offset_bounds-words-at
offset_bounds-words-at c =
    let h = reached_inside _ _ c.loop.invariant c.requires in
    search rules

pub bounds-words-at : goal.bounds-words-at
bounds-words-at c = reached_inside _ _ c.loop.invariant c.requires

pub returns-then-kind_of-ne2 : goal.returns-then-kind_of-ne2
returns-then-kind_of-ne2 c =
    reached_end _ _ c.loop.invariant (λ e. c.if-kind_of-ne2.true (c.kind_of.ensures ∙ e)) _ (omega arith)

pub overflow_add-at : goal.overflow_add-at
overflow_add-at c = omega (arith, reached_inside _ _ c.loop.invariant c.requires, c.payload_of.ensures)

pub loop-preserved : goal.loop-preserved
loop-preserved c =
    let two = sym c.kind_of.ensures ∙ c.if-kind_of-ne2.false in
    let next = reached_next _ _ c.loop.invariant two _ c.payload_of.ensures (c.loop.counter + 1) (omega arith) in
    omega (arith, next)

pub returns : goal.returns
returns c =
    let all : c.loop.counter ≡ c.args.number = omega arith in
    c.loop.invariant ∙ ap (start_place c.args.words.now) all
