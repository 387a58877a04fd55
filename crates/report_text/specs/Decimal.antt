-- A number in decimal: its digits as bytes, the most significant first, no zero in front.
use Rattle.std.specs.Prelude.{ℕ, zero, suc, ◌+◌, ◌/◌, ◌%◌, cond, List, [], ◌∷◌, ◌++◌, ltb}

-- the byte of a digit
abbrev pub digit : ℕ → ℕ
digit d = 48 + d

-- of a number of at most so many digits: those of its tenth, if it has more than one, then the last
abbrev pub decimal_within : ℕ → ℕ → List ℕ
decimal_within zero n = []
decimal_within (suc most) n = cond (ltb n 10) [] (decimal_within most (n / 10)) ++ (digit (n % 10) ∷ [])

-- n + 1 digits are more than n needs
unfoldable pub decimal : ℕ → List ℕ
decimal n = decimal_within (suc n) n
