-- `lookup::part::part_of` meets its contract: what stands at the place to which the start words lead.
use mathlib.Core.Path.{sym, ◌∙◌}
use native.Mathlib.Omega.{arith}
use Rattle.lookup.proofs.Walk.{reached_inside, reached_none, reached_some}
use borrow.Author.Rules.{rules}
use Rattle.lookup.proofs.part.part_of.Goals as goal

pub offset_bounds-words-from : goal.offset_bounds-words-from
offset_bounds-words-from c =
    let h = reached_inside _ _ c.start_of-from.ensures c.requires in
    search rules

pub bounds-words-from : goal.bounds-words-from
bounds-words-from c = reached_inside _ _ c.start_of-from.ensures c.requires

pub returns-then-kind_of-ne2 : goal.returns-then-kind_of-ne2
returns-then-kind_of-ne2 c =
    let k = c in
    reached_none _ _ k.start_of-from.ensures (λ e. c.if-kind_of-ne2.true (k.kind_of.ensures ∙ e))

pub overflow_add-result : goal.overflow_add-result
overflow_add-result c =
    let s = c in
    omega (arith, reached_inside _ _ s.start_of-from.ensures s.requires)

pub overflow_add-result-2 : goal.overflow_add-result-2
overflow_add-result-2 c =
    let s = c in
    omega (arith, reached_inside _ _ s.start_of-from.ensures s.requires, c.payload_of.ensures)

pub returns : goal.returns
returns c =
    let k = c in
    let two = sym k.kind_of.ensures ∙ c.if-kind_of-ne2.false in
    reached_some _ _ k.start_of-from.ensures two _ c.payload_of.ensures
