-- Opening a file (document 01, "Turned back"): number 10, or its words over the first of the lent ones.
use Rattle.std.specs.Prelude.{◌≡◌, Bool, ◌||◌, List, ◌++◌, ℕ, min, length, take, drop, ltb}
use Rattle.words.specs.Outcome.{Outcome, refuse}
use Rattle.words.specs.Outcome.Outcome.{accepted, refused}
use Rattle.words.specs.Bytes.{words_of, broken}

-- "file of bytes not a multiple of four, or over" so many
abbrev pub turned_back : ℕ → List ℕ → Bool
turned_back limit bytes = broken bytes || ltb limit (length bytes)

-- 10, or the number of words for which there is room
abbrev pub opened_count : ℕ → ℕ → List ℕ → Outcome ℕ
opened_count limit room bytes = refuse (turned_back limit bytes) 10 0 (accepted (min (length (words_of bytes)) room))

-- the first words, at most so many
abbrev pub first_words : ℕ → List ℕ → List ℕ
first_words most ws = take (min (length ws) most) ws

-- the lent words then: "A refusal gives a number and a place, and no lent word changes."
abbrev pub opened_words : Outcome ℕ → List ℕ → List ℕ → List ℕ
opened_words (accepted count) bytes before = take count (words_of bytes) ++ drop count before
opened_words (refused number place) bytes before = before

pub record Opened (limit : ℕ) (bytes before after : List ℕ) (told : Outcome ℕ) : Type 0 where
  pub count : told ≡ opened_count limit (length before) bytes
  pub words : after ≡ opened_words told bytes before
