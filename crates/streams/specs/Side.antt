-- The number of a right side as an argument says it: decimal digits, and nothing else.
use Rattle.std.specs.Prelude.{ℕ, ◌+◌, ◌-◌, ◌*◌, ◌≤◌, min, Bool, cond, ◌&&◌, List, [], ◌∷◌, leb}
use Rattle.std.proofs.Math.Option.{Option, none, some}
use Rattle.std.specs.Prelude.{Option as Asked, Some, None}

-- the codes of '0' and of '9'
abbrev pub zero_digit : ℕ
zero_digit = 48

abbrev pub nine_digit : ℕ
nine_digit = 57

abbrev pub digit? : ℕ → Bool
digit? c = leb zero_digit c && leb c nine_digit

-- digits behind those that write `value`
unfoldable pub digits_from : (value : ℕ) → List ℕ → Option ℕ
digits_from value [] = some value
digits_from value (c ∷ cs) = cond (digit? c) (digits_from (10 * value + (c - zero_digit)) cs) none

-- the number that an argument writes: one digit or more
unfoldable pub number_written : List ℕ → Option ℕ
unfolding digits_from
number_written [] = none
number_written (c ∷ cs) = digits_from 0 (c ∷ cs)

-- numbers from this one on are taken for it: no sheet has as many right sides
abbrev pub most_side : ℕ
most_side = 65535

abbrev pub at_most : Option ℕ → Option ℕ
at_most none = none
at_most (some n) = some (min n most_side)

abbrev pub side_said : Asked ℕ → Option ℕ
side_said (Some n) = some n
side_said None = none

-- what is asked for, where it is a number, is at most that
abbrev pub SideWithin : Asked ℕ → Type 0
SideWithin (Some n) = n ≤ most_side
SideWithin None = Unit {0}
