-- One line.
use Prim.Native.Nat.{ℕ, ◌≤◌}
use native.Mathlib.Nat.{le_trans}
use borrow.Author.Rules.{rules}
use mathlib.Core.List.{List}
use lib.ListN.{length}
use Rattle.words.specs.Outcome.Outcome.{accepted}
use Rattle.truth.specs.Solution.Answer.{none}
use Rattle.report_text.specs.Longest.{report_space, ReportWithin}
use Rattle.report_text.proofs.LongestLaws.{report_fits}
use Rattle.report_text.specs.Text.{report_text}
use Rattle.report_text.proofs.Due.{grown_whole}
use Rattle.report_text.proofs.write_none.Goals as goal

fits : (out : List ℕ) → report_space ≤ length out → length (report_text (accepted none)) ≤ length out
unfolding ReportWithin
fits out room = le_trans (report_fits (accepted none) tt) room

pub returns : goal.returns
unfolding report_text
returns c = grown_whole (fits _ c.requires) c.new-text.ensures.bytes c.new-text.ensures.none (search rules) c.append.ensures
