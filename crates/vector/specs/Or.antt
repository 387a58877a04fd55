-- `|` of words that stand together.
use Rattle.std.specs.Prelude.{List, ℕ, zero, suc, ◌+◌, get_or}
use Rattle.std.specs.Int.Bits.{bit_or}

-- `|` of the words at a .. a + n
abbrev pub or_to : List ℕ → ℕ → ℕ → ℕ
or_to l a zero = get_or l a 0
or_to l a (suc n) = bit_or (or_to l a n) (get_or l (a + suc n) 0)
