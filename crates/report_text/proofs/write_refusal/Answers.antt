-- "refused" with the number, "at" with the place, the line's end.
use Prim.Native.Nat.{ℕ, ◌≤◌, ◌<◌, ◌^◌}
use mathlib.Core.Path.{◌≡◌}
use mathlib.Core.List.{List}
use native.Mathlib.Nat.{zero-add, le_trans}
use native.Mathlib.Omega.{arith}
use lib.ListN.{length}
use borrow.Author.Rules.{rules}
use Rattle.answers.specs.declared.answer.Refusal.{Refusal}
use Rattle.answers.specs.Answer.{reason_number, refused_by}
use Rattle.report_text.specs.declared.text.Text.{Text}
use Rattle.report_text.specs.Ascii.{ascii}
use Rattle.report_text.specs.Decimal.{decimal}
use Rattle.report_text.specs.Text.{report_text}
use Rattle.report_text.specs.Longest.{report_space, ReportWithin}
use Rattle.report_text.proofs.LongestLaws.{report_fits}
use Rattle.report_text.proofs.Due.{Due, due_all, due_room, due_next, due_none, grown_whole}
use Rattle.report_text.proofs.Lines.{parts_three, line_three}
use Rattle.report_text.proofs.write_refusal.Goals as goal

-- n is its number
module _ (n : ℕ) (r : Refusal) (number : n ≡ reason_number r.reason) (few : n < 2 ^ 8) (far : r.place < 2 ^ 64) where
  fits : (out : List ℕ) → report_space ≤ length out → length (report_text (refused_by r)) ≤ length out
  unfolding ReportWithin
  fits out room = le_trans (report_fits (refused_by r) (omega (arith, number), omega arith)) room

  start : (out : List ℕ) (text : Text) → report_space ≤ length out → text.bytes.now ≡ out → text.length ≡ 0
      → Due (report_text (refused_by r)) text (parts_three (ascii "refused") (decimal n) (ascii "at") (decimal r.place)) text
  unfolding report_text
  start out text room first none =
      due_all _ (rw number (line_three (ascii "refused") (decimal (reason_number r.reason)) (ascii "at") (decimal r.place)))
      (rw (first, none, zero-add) (fits out room))

pub append_labelled-requires : goal.append_labelled-requires
append_labelled-requires c =
    due_room
    (start _ c.args.refusal c.number-number.ensures (omega arith) (omega arith) _ c.new-text.result c.requires c.new-text.ensures.bytes c.new-text.ensures.none)

pub append_labelled-requires-2 : goal.append_labelled-requires-2
append_labelled-requires-2 c =
    let begun = start _ c.args.refusal c.number-number.ensures (omega arith) (omega arith) _ _ c.requires c.new-text.ensures.bytes c.new-text.ensures.none in
    due_room (due_next begun c.append_labelled.ensures)

pub append-requires : goal.append-requires
append-requires c =
    let begun = start _ c.args.refusal c.number-number.ensures (omega arith) (omega arith) _ _ c.requires c.new-text.ensures.bytes c.new-text.ensures.none in
    due_room (due_next (due_next begun c.append_labelled.ensures) c.append_labelled-2.ensures)

pub returns : goal.returns
returns c =
    let begun = start _ c.args.refusal c.number-number.ensures (omega arith) (omega arith) _ _ c.requires c.new-text.ensures.bytes c.new-text.ensures.none in
    let placed = due_next (due_next begun c.append_labelled.ensures) c.append_labelled-2.ensures in
    grown_whole (fits _ c.args.refusal c.number-number.ensures (omega arith) (omega arith) _ c.requires) c.new-text.ensures.bytes c.new-text.ensures.none (search rules)
    (due_none (due_next placed c.append.ensures))
