-- The three lines.
use Prim.Native.Nat.{ℕ, ◌≤◌}
use mathlib.Core.Path.{◌≡◌}
use mathlib.Core.List.{List, [], ◌∷◌, ◌++◌, append_assoc, append-nil}
use native.Mathlib.Nat.{zero-add, le_trans}
use lib.ListN.{length}
use borrow.Author.Rules.{rules}
use Rattle.modular.specs.Delay.{delay, feedback}
use Rattle.words.specs.Limits.{office}
use Rattle.words.specs.Outcome.Outcome.{accepted}
use Rattle.truth.specs.Solution.Answer.{least}
use Rattle.report_text.specs.declared.text.Text.{Text}
use Rattle.report_text.specs.Ascii.{ascii}
use Rattle.report_text.specs.Text.{denominator_line, feedback_line, solution_text, report_text}
use Rattle.report_text.specs.Longest.{DenominatorWithin, report_space, ReportWithin}
use Rattle.report_text.proofs.LongestLaws.{report_fits}
use Rattle.report_text.proofs.Due.{joined, Due, due_all, due_room, due_next, due_none, grown_whole}
use Rattle.report_text.proofs.write_solution.Goals as goal

abbrev parts : List ℕ → List (List ℕ)
parts d = ascii "answer solution\n" ∷ denominator_line d ∷ feedback_line (feedback d) (delay d) ∷ []

three : (a b c : List ℕ) → a ++ b ++ c ≡ joined (a ∷ b ∷ c ∷ [])
three a b c = simp (append_assoc, append-nil)

parts-joined : (d : List ℕ) → report_text (accepted (least d)) ≡ joined (parts d)
unfolding report_text solution_text
parts-joined d = three (ascii "answer solution\n") (denominator_line d) (feedback_line (feedback d) (delay d))

fits : (d out : List ℕ) → DenominatorWithin office d × (report_space ≤ length out)
    → length (report_text (accepted (least d))) ≤ length out
unfolding ReportWithin
fits d out within = le_trans (report_fits (accepted (least d)) within.0) within.1

start : (d out : List ℕ) (text : Text) → DenominatorWithin office d × (report_space ≤ length out) → text.bytes.now ≡ out
    → text.length ≡ 0 → Due (report_text (accepted (least d))) text (parts d) text
start d out text within first none = due_all _ (parts-joined d) (rw (first, none, zero-add) (fits d out within))

pub append_denominator-requires : goal.append_denominator-requires
append_denominator-requires c = due_room (due_next (start c.args.d.now _ _ c.requires c.new-text.ensures.bytes c.new-text.ensures.none) c.append.ensures)

pub append_feedback-requires : goal.append_feedback-requires
append_feedback-requires c =
    due_room (due_next (due_next (start c.args.d.now _ _ c.requires c.new-text.ensures.bytes c.new-text.ensures.none) c.append.ensures) c.append_denominator.ensures)

pub returns : goal.returns
returns c =
    let divided = due_next (due_next (start c.args.d.now _ _ c.requires c.new-text.ensures.bytes c.new-text.ensures.none) c.append.ensures) c.append_denominator.ensures in
    grown_whole (fits c.args.d.now _ c.requires) c.new-text.ensures.bytes c.new-text.ensures.none (search rules)
    (due_none (due_next divided c.append_feedback.ensures))
