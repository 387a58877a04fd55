-- The label, the coefficients, the line's end.
use Prim.Native.Nat.{ℕ}
use mathlib.Core.Path.{refl}
use mathlib.Core.List.{List, [], ◌∷◌, map}
use Rattle.report_text.specs.declared.text.Text.{Text}
use Rattle.report_text.specs.Ascii.{ascii}
use Rattle.report_text.specs.Decimal.{decimal}
use Rattle.report_text.specs.Text.{all_spaced, denominator_line}
use Rattle.report_text.specs.Grown.{Room}
use Rattle.report_text.proofs.Due.{Due, due_all, due_room, due_next, due_none}
use Rattle.report_text.proofs.line.append_denominator.Goals as goal

start : (d : List ℕ) (text : Text) → Room (denominator_line d) text
    → Due (denominator_line d) text (ascii "denominator" ∷ all_spaced (map decimal d) ∷ ascii "\n" ∷ []) text
unfolding denominator_line
start d text room = due_all _ refl room

pub append-requires : goal.append-requires
append-requires c = due_room (start c.args.d.now c.args.text.now c.requires)

pub append_numbers-requires : goal.append_numbers-requires
append_numbers-requires c = due_room (due_next (start c.args.d.now _ c.requires) c.append.ensures)

pub append-requires-2 : goal.append-requires-2
append-requires-2 c =
    due_room (due_next (due_next (start c.args.d.now _ c.requires) c.append.ensures) c.append_numbers.ensures)

pub returns : goal.returns
returns c =
    let listed = due_next (due_next (start c.args.d.now _ c.requires) c.append.ensures) c.append_numbers.ensures in
    due_none (due_next listed c.append-2.ensures)
