-- Two files that were opened: the words that were left tell what the files tell.
use mathlib.Core.Path.{◌≡◌}
use mathlib.Core.List.{List}
use Prim.Native.Nat.{ℕ, ◌≤◌, ◌<◌}
use lib.ListN.{length, take}
use Rattle.words.specs.Limits.{office, longest_system, longest_certificate}
use Rattle.words.specs.LimitsLaws.{office_fits}
use Rattle.words.specs.Outcome.Outcome.{refused}
use Rattle.words.specs.Bytes.{words_of}
use Rattle.files.specs.OpeningBoth.{OpensWords, OpensNone}
use Rattle.files.specs.OpeningBothLaws.{both_refused, both_told}
use Rattle.link_values.specs.Files.{read_both, read_files}
use Rattle.link_values.specs.FilesLaws.{both_room}

module _ (f g : List ℕ) where
  pub none_opened : {before before' after after' : List ℕ} {number place : ℕ}
      → OpensNone office f g before before' after after' number place
      → read_files office f g ≡ refused number place
  unfolding read_files
  none_opened none = both_refused office f g none (read_both office (words_of f) (words_of g))

  pub both_opened : {before before' after after' : List ℕ} {n m : ℕ} → OpensWords office f g before before' after after' n m
      → longest_system office ≤ length before → longest_certificate office < length before'
      → read_files office f g ≡ read_both office (take n after) (take m after')
  unfolding read_files
  both_opened {before' = before'} opens room room' =
      both_told office f g opens room (read_both office)
      (both_room office office_fits (words_of g) (length before') room' (words_of f))
