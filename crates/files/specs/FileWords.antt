-- "In a file each word is four bytes, lowest first." Bytes unpacked into lent words: as many words as there is room
-- for, and behind them what stood there.
use Rattle.std.specs.Prelude.{ℕ, min, ◌≡◌, List, ◌++◌, length, take, drop}
use Rattle.words.specs.Bytes.{words_of}

pub record Unpacked (bytes before after : List ℕ) (count : ℕ) : Type 0 where
  pub number : count ≡ min (length (words_of bytes)) (length before)
  pub words : after ≡ take count (words_of bytes) ++ drop count before
