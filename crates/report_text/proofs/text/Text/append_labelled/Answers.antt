-- The label, then the number.
use Prim.Native.Nat.{ℕ}
use mathlib.Core.Path.{sym, ap}
use mathlib.Core.List.{List, [], ◌∷◌, ◌++◌, append-nil}
use Rattle.report_text.specs.declared.text.Text.{Text}
use Rattle.report_text.specs.Decimal.{decimal}
use Rattle.report_text.specs.Text.{spaced}
use Rattle.report_text.specs.Grown.{Room}
use Rattle.report_text.proofs.Due.{Due, due_all, due_room, due_next, due_none}
use Rattle.report_text.proofs.text.Text.append_labelled.Goals as goal

both : (label number : List ℕ) (text : Text) → Room (label ++ number) text
    → Due (label ++ number) text (label ∷ number ∷ []) text
both label number text room = due_all _ (ap (λ t. label ++ t) (sym (append-nil number))) room

pub append_number-requires : goal.append_number-requires
append_number-requires c = due_room (due_next (both c.args.label.now (spaced (decimal c.args.n)) _ c.requires) c.append.ensures)

pub returns : goal.returns
returns c =
    let labelled = due_next (both c.args.label.now (spaced (decimal c.args.n)) _ c.requires) c.append.ensures in
    due_none (due_next labelled c.append_number.ensures)
