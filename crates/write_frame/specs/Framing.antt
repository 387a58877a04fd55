-- Polynomials in arrays, as a format frames them, and when code can write them.
use Rattle.std.specs.Prelude.{ℕ, ◌*◌, ◌≤◌, ◌<◌, ◌≡◌, List, length, get_or}
use Rattle.words.specs.Limits.{words_for}
use Rattle.words.specs.Word.{AllBelow, payload_bound}
use Rattle.write_frame.specs.Overwriting.{overwritten}
use Rattle.write_frame.specs.declared.format.Format.{Format}
use Rattle.write_frame.specs.Values.{polynomial_in, polynomials_in}

-- the polynomials in written order
abbrev pub entries_in : Format → List ℕ → List ℕ → List (List ℕ)
entries_in format sizes coefficients = polynomials_in format.stride sizes coefficients 0 format.count

-- the arrays have room for all polynomials, and the count of all words fits into the end word
pub record Covers (format : Format) (sizes coefficients : List ℕ) : Type 0 where
  pub sized : format.count ≤ length sizes
  pub roomy : format.stride * format.count ≤ length coefficients
  pub apart : format.limit ≤ format.stride
  pub short : words_for format.count format.limit < payload_bound

-- the polynomials keep to their room, and their coefficients fit into words
pub record Writable (format : Format) (sizes coefficients : List ℕ) : Type 0 where
  pub few : (k : ℕ) → k < format.count → get_or sizes k 0 ≤ format.limit
  pub payloads : (k : ℕ) → k < format.count → AllBelow payload_bound (polynomial_in format.stride sizes coefficients k)

-- words were written over the first of those lent, and so many they are
pub record Wrote (ws entry exit : List ℕ) (n : ℕ) : Type 0 where
  pub count : n ≡ length ws
  pub words : exit ≡ overwritten ws entry
