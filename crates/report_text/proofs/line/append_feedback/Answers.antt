-- The label with the feedback, "delay" with the delay, the line's end.
use Prim.Native.Nat.{ℕ, ◌-◌}
use mathlib.Core.Path.{◌≡◌}
use mathlib.Core.List.{List}
use native.Mathlib.Omega.{arith}
use lib.ListN.{length}
use Rattle.modular.specs.Delay.{delay, feedback}
use Rattle.modular.proofs.DelayLaws.{length_undelayed}
use Rattle.report_text.specs.declared.text.Text.{Text}
use Rattle.report_text.specs.Ascii.{ascii}
use Rattle.report_text.specs.Decimal.{decimal}
use Rattle.report_text.specs.Text.{feedback_line}
use Rattle.report_text.specs.Grown.{Room}
use Rattle.report_text.proofs.Due.{Due, due_all, due_room, due_next, due_none}
use Rattle.report_text.proofs.Lines.{parts_three, line_three}
use Rattle.report_text.proofs.line.append_feedback.Goals as goal

-- n is the number of the coefficients behind the factors x, less one
start : (d : List ℕ) (text : Text) (n k : ℕ) → k ≡ delay d → n ≡ length d - k - 1 → Room (feedback_line (feedback d) (delay d)) text
    → Due (feedback_line (feedback d) (delay d)) text (parts_three (ascii "feedback") (decimal n) (ascii "delay") (decimal k)) text
unfolding feedback_line feedback
start d text n k e f room =
    let same : n ≡ feedback d = omega (arith, e, f, length_undelayed d) in
    due_all _ (rw (e, same) (line_three (ascii "feedback") (decimal (feedback d)) (ascii "delay") (decimal (delay d)))) room

-- there are no more factors x than coefficients
pub overflow_sub-d : goal.overflow_sub-d
overflow_sub-d c = omega (arith, c.find_delay-delay.ensures, length_undelayed c.args.d.now)

pub append_labelled-requires : goal.append_labelled-requires
append_labelled-requires c =
    due_room (start c.args.d.now c.args.text.now _ _ c.find_delay-delay.ensures c.saturating_sub-feedback.ensures c.requires)

pub append_labelled-requires-2 : goal.append_labelled-requires-2
append_labelled-requires-2 c =
    let begun = start c.args.d.now _ _ _ c.find_delay-delay.ensures c.saturating_sub-feedback.ensures c.requires in
    due_room (due_next begun c.append_labelled.ensures)

pub append-requires : goal.append-requires
append-requires c =
    let begun = start c.args.d.now _ _ _ c.find_delay-delay.ensures c.saturating_sub-feedback.ensures c.requires in
    due_room (due_next (due_next begun c.append_labelled.ensures) c.append_labelled-2.ensures)

pub returns : goal.returns
returns c =
    let begun = start c.args.d.now _ _ _ c.find_delay-delay.ensures c.saturating_sub-feedback.ensures c.requires in
    due_none (due_next (due_next (due_next begun c.append_labelled.ensures) c.append_labelled-2.ensures) c.append.ensures)
