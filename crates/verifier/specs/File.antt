-- What is said of two files (document 01, "Words": "In a file each word is four bytes, lowest first"), and of the panel's "two word
-- buffers given as bytes, in the order that files have" (document 02, item 4).
use Rattle.std.specs.Prelude.{ℕ, ◌||◌, List}
use Rattle.words.specs.Limits.{Limits, office, panel}
use Rattle.words.specs.Outcome.{Outcome, refuse}
use Rattle.words.specs.Bytes.{words_of, broken}
use Rattle.files.specs.OpeningBoth.{files_turned_back, files_broken}
use Rattle.truth.specs.Verdict.{verdict}
use Rattle.truth.specs.Within.{verdict_within}

-- "Number 10 comes before all others."
unfoldable pub file_verdict : Limits → (k : ℕ) → (system certificate : List ℕ) → Outcome (Unit {0})
unfolding words_of verdict
file_verdict limits k system certificate =
    refuse (files_broken limits system certificate) 10 0 (verdict limits k (words_of system) (words_of certificate))

-- The panel reads by the office's limits and keeps its own, for right side 0. "Here 10 is given only for a byte count not a
-- multiple of four", of either buffer: none is too long.
unfoldable pub panel_verdict : (system certificate : List ℕ) → Outcome (Unit {0})
unfolding words_of verdict_within
panel_verdict system certificate =
    refuse (broken system || broken certificate) 10 0 (verdict_within office panel 0 (words_of system) (words_of certificate))

-- both of these with what they differ in as parameters: the limits that are kept, how many bytes a system may have, the right side
unfoldable pub bytes_verdict : (limits kept : Limits) → (limit k : ℕ) → (system certificate : List ℕ) → Outcome (Unit {0})
unfolding words_of verdict_within
bytes_verdict limits kept limit k system certificate =
    refuse (files_turned_back limit system certificate) 10 0 (verdict_within limits kept k (words_of system) (words_of certificate))
