-- A word of 32 bits (document 01, "Words"): "Its top four bits are its kind, the other 28 its payload."
use Rattle.std.specs.Prelude.{ℕ, ◌+◌, ◌*◌, ◌/◌, ◌%◌, ◌<◌, List, get_or}
use Rattle.modular.specs.Bits.{bound8, bound32}

-- a payload is less than this
abbrev pub payload_bound : ℕ
payload_bound = 268435456

abbrev pub kind : ℕ → ℕ
kind w = w / payload_bound

abbrev pub payload : ℕ → ℕ
payload w = w % payload_bound

-- the word of a kind and a payload
abbrev pub word : ℕ → ℕ → ℕ
word k x = k * payload_bound + x

-- of a list: each number is below a bound, as in a slice of bytes or of words
abbrev pub AllBelow : ℕ → List ℕ → Type 0
AllBelow bound xs = (i : ℕ) → get_or xs i 0 < bound

abbrev pub Words : List ℕ → Type 0
Words ws = AllBelow bound32 ws

abbrev pub Bytes : List ℕ → Type 0
Bytes bytes = AllBelow bound8 bytes
