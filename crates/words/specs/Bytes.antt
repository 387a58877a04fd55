-- Words as bytes (document 01, "Words"): "In a file each word is four bytes, lowest first."
use Rattle.std.specs.Prelude.{ℕ, ◌+◌, ◌*◌, ◌/◌, ◌%◌, Bool, not, ◌||◌, List, [], ◌∷◌, length, get_or, eqb, ltb}
use Rattle.modular.specs.Bits.{bound8}
use Rattle.words.specs.Limits.{Limits, longest_system}
use Rattle.words.specs.Outcome.{Outcome, refuse}
use Rattle.words.specs.System.{System}
use Rattle.words.specs.Systems.{Systems, read_systems, read_line}

-- bytes of a word
abbrev pub word_bytes : ℕ
word_bytes = 4

-- one more in the second, the third and the fourth byte of a word is so much more
abbrev pub second_byte_unit : ℕ
second_byte_unit = 256

abbrev pub third_byte_unit : ℕ
third_byte_unit = 65536

abbrev pub fourth_byte_unit : ℕ
fourth_byte_unit = 16777216

abbrev pub word_of : ℕ → ℕ → ℕ → ℕ → ℕ
word_of a b c d = a + b * second_byte_unit + c * third_byte_unit + d * fourth_byte_unit

-- the word that starts at a byte
abbrev pub word_at : List ℕ → ℕ → ℕ
word_at bytes at = word_of (get_or bytes at 0) (get_or bytes (at + 1) 0) (get_or bytes (at + 2) 0) (get_or bytes (at + 3) 0)

-- up to three bytes at the end are no word
unfoldable pub words_of : List ℕ → List ℕ
words_of [] = []
words_of (a ∷ []) = []
words_of (a ∷ b ∷ []) = []
words_of (a ∷ b ∷ c ∷ []) = []
words_of (a ∷ b ∷ c ∷ d ∷ bytes) = word_of a b c d ∷ words_of bytes

unfoldable pub bytes_of : List ℕ → List ℕ
bytes_of [] = []
bytes_of (w ∷ ws) = w % bound8 ∷ w / second_byte_unit % bound8 ∷ w / third_byte_unit % bound8 ∷ w / fourth_byte_unit ∷ bytes_of ws

-- 10, first half: bytes not a multiple of four
abbrev pub broken : List ℕ → Bool
broken bytes = not (eqb (length bytes % word_bytes) 0)

-- 10, second half: over 8,712
abbrev pub too_long : Limits → List ℕ → Bool
too_long limits bytes = ltb (word_bytes * longest_system limits) (length bytes)

-- the files of systems, and of one line: "Number 10 comes before all others."
unfoldable pub read_systems_file : Limits → List ℕ → Outcome Systems
unfolding words_of read_systems
read_systems_file limits bytes = refuse (broken bytes || too_long limits bytes) 10 0 (read_systems limits (words_of bytes))

unfoldable pub read_line_file : Limits → ℕ → List ℕ → Outcome System
unfolding words_of read_line
read_line_file limits k bytes = refuse (broken bytes || too_long limits bytes) 10 0 (read_line limits k (words_of bytes))
