-- Lines by the parts in which the code appends them: a label is appended with the number behind it.
use Prim.Native.Nat.{ℕ}
use mathlib.Core.Path.{◌≡◌}
use mathlib.Core.List.{List, [], ◌∷◌, ◌++◌, append_assoc, append-nil}
use Rattle.report_text.specs.Ascii.{ascii}
use Rattle.report_text.specs.Text.{spaced, line}
use Rattle.report_text.proofs.Due.{joined}

-- a label with a part, two parts more, and the line's end
abbrev pub parts_three : List ℕ → List ℕ → List ℕ → List ℕ → List (List ℕ)
parts_three label a b c = (label ++ spaced a) ∷ (spaced b ++ spaced c) ∷ ascii "\n" ∷ []

regroup : (label s t u end : List ℕ) → label ++ ((s ++ (t ++ (u ++ []))) ++ end) ≡ label ++ s ++ (t ++ u ++ end)
regroup label s t u end = simp (append_assoc, append-nil)

pub line_three : (label a b c : List ℕ) → line label (a ∷ b ∷ c ∷ []) ≡ joined (parts_three label a b c)
line_three label a b c = regroup label (spaced a) (spaced b) (spaced c) (ascii "\n")
