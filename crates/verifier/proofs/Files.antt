-- Two files or buffers that were opened, in the terms of what is loaded from their words.
use mathlib.Core.Path.{◌≡◌, ◌∙◌}
use mathlib.Core.List.{List}
use Prim.Native.Nat.{ℕ, ◌<◌}
use lib.ListN.{length, take}
use Rattle.words.specs.Limits.{Limits, office, longest_system, longest_certificate}
use Rattle.words.specs.LimitsLaws.{office_fits}
use Rattle.words.specs.Outcome.Outcome.{refused}
use Rattle.words.specs.Bytes.{words_of}
use Rattle.files.specs.OpeningBoth.{WordsWithin, NoneWithin}
use Rattle.files.specs.OpeningBothLaws.{within_refused, within_first}
use Rattle.truth.specs.Within.{verdict_within}
use Rattle.truth.proofs.WithinLaws.{within_room}
use Rattle.verifier.specs.File.{bytes_verdict}
use Rattle.verifier.specs.Loading.{Loads}
use Rattle.std.specs.Prelude.{Result}
use Rattle.answers.specs.declared.answer.Refusal.{Refusal}
use Rattle.answers.specs.declared.shape.Form.{Form}
use Rattle.check_conditions.specs.declared.dimensions.Dimensions.{Dimensions}

module _ (kept : Limits) (limit k : ℕ) (f g : List ℕ) where
  pub none_opened : {before before' after after' : List ℕ} {number place : ℕ}
      → NoneWithin limit f g before before' after after' number place
      → bytes_verdict office kept limit k f g ≡ refused number place
  unfolding bytes_verdict
  none_opened none = within_refused limit f g none (verdict_within office kept k (words_of f) (words_of g))

  pub both_opened : {before before' after after' : List ℕ} {n m : ℕ} → WordsWithin limit f g before before' after after' n m
      → longest_system office < length before → longest_certificate office < length before'
      → {A C : List ℕ} {found : Result (Dimensions × Form) Refusal} → Loads (verdict_within office kept k (take n after) (take m after')) A C found
      → Loads (bytes_verdict office kept limit k f g) A C found
  unfolding bytes_verdict
  both_opened {before} {before'} opens room room' loads = record {
    ready = loads.ready;
    verdict =
        within_first limit f g opens (verdict_within office kept k)
        (within_room office kept office_fits k (words_of f) (words_of g) (length before) (length before') room room')
        ∙ loads.verdict;
  }
