-- Opening a system's file and a certificate's (document 01, "Turned back"): number 10 of either, or the words of both.
use Rattle.std.specs.Prelude.{ℕ, ◌*◌, ◌≡◌, Bool, true, ◌||◌, List, length, Result, Ok, Err}
use Rattle.words.specs.Limits.{Limits, longest_system}
use Rattle.words.specs.Outcome.Outcome.{accepted}
use Rattle.words.specs.Bytes.{broken, too_long, word_bytes}
use Rattle.files.specs.Opening.{turned_back, Opened}
use Rattle.answers.specs.declared.answer.Refusal.{Refusal}
use Rattle.answers.specs.Answer.{reason_number}

-- 10 at 0: of either file that is not whole words, and of a system's of more than so many bytes; a certificate's file may be longer
abbrev pub files_turned_back : ℕ → List ℕ → List ℕ → Bool
files_turned_back limit system certificate = turned_back limit system || broken certificate

-- 10 at 0: "file of bytes not a multiple of four", or of more than 8,712. It is said of either file that is not whole words; the
-- length limit is the system's alone, since a certificate's file may be longer.
abbrev pub files_broken : Limits → List ℕ → List ℕ → Bool
files_broken limits system certificate = (broken system || too_long limits system) || broken certificate

-- so many words of each
pub record WordsWithin (limit : ℕ) (f g before before' after after' : List ℕ) (n m : ℕ) : Type 0 where
  pub system : Opened limit f before after (accepted n)
  pub certificate : Opened (length g) g before' after' (accepted m)

-- 10 of one of them, and no lent word changes
pub record NoneWithin (limit : ℕ) (f g before before' after after' : List ℕ) (number place : ℕ) : Type 0 where
  pub either_broken : files_turned_back limit f g ≡ true
  pub number_ten : number ≡ 10
  pub place_zero : place ≡ 0
  pub system_stays : after ≡ before
  pub certificate_stays : after' ≡ before'

abbrev pub BothWithin : ℕ → (f g before before' after after' : List ℕ) → Result (ℕ × ℕ) Refusal → Type 0
BothWithin limit f g before before' after after' (Ok counts) = WordsWithin limit f g before before' after after' counts.0 counts.1
BothWithin limit f g before before' after after' (Err r) =
    NoneWithin limit f g before before' after after' (reason_number r.reason) r.place

-- the same by limits, whose longest system it is that limits the system's file
abbrev pub OpensWords : Limits → (f g before before' after after' : List ℕ) → (n m : ℕ) → Type 0
OpensWords limits = WordsWithin (word_bytes * longest_system limits)

abbrev pub OpensNone : Limits → (f g before before' after after' : List ℕ) → (number place : ℕ) → Type 0
OpensNone limits = NoneWithin (word_bytes * longest_system limits)

abbrev pub OpensBoth : Limits → (f g before before' after after' : List ℕ) → Result (ℕ × ℕ) Refusal → Type 0
OpensBoth limits f g before before' after after' (Ok counts) = OpensWords limits f g before before' after after' counts.0 counts.1
OpensBoth limits f g before before' after after' (Err r) =
    OpensNone limits f g before before' after after' (reason_number r.reason) r.place
