-- Numbers that no row of the table has.
use Rattle.std.specs.Prelude.{ℕ, ◌≤◌, ◌<◌}

-- none of those from `first` to `last`
abbrev pub Outside : ℕ → ℕ → ℕ → Type 0
Outside first last n = first ≤ n → last < n

-- the rows have 1 to 12, 21, 24 to 29, 31 to 36, 40 and 41
abbrev pub Unlisted : ℕ → Type 0
Unlisted n = Outside 1 12 n × Outside 21 21 n × Outside 24 29 n × Outside 31 36 n × Outside 40 41 n
