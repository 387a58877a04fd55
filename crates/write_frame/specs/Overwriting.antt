-- Lent words, of which the first are written over.
use Rattle.std.specs.Prelude.{ℕ, List, ◌++◌, length, drop}

abbrev pub overwritten : List ℕ → List ℕ → List ℕ
overwritten ws lent = ws ++ drop (length ws) lent
