-- Words of a list written anew, four and eight of them.
use Rattle.std.specs.Prelude.{List, ℕ, ◌+◌, set}

-- l with u, v, w, x stored from the place d on
abbrev pub four_stored : List ℕ → ℕ → ℕ → ℕ → ℕ → ℕ → List ℕ
four_stored l d u v w x = set (set (set (set l d u) (d + 1) v) (d + 2) w) (d + 3) x

-- words of a row
abbrev pub row_words : ℕ
row_words = 8

-- l with f 0 .. f 7 stored from the place d on
abbrev pub row_stored : (ℕ → ℕ) → List ℕ → ℕ → List ℕ
row_stored f l d = four_stored (four_stored l d (f 0) (f 1) (f 2) (f 3)) (d + 4) (f 4) (f 5) (f 6) (f 7)
