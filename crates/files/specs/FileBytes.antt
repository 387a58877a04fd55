-- "In a file each word is four bytes, lowest first." Words written as bytes over the first of those lent: as many words as there is
-- room for, and behind their bytes what stood there.
use Rattle.std.specs.Prelude.{ℕ, ◌*◌, ◌/◌, min, ◌≡◌, List, ◌++◌, length, take, drop}
use Rattle.words.specs.Bytes.{bytes_of, word_bytes}

-- so many bytes
pub record WritesBytes (ws before after : List ℕ) (count : ℕ) : Type 0 where
  pub number : count ≡ word_bytes * min (length ws) (length before / word_bytes)
  pub bytes : after ≡ take count (bytes_of ws) ++ drop count before
