-- Polynomials laid into lent arrays as the writers take them. Words of the arrays that hold no size and no coefficient stay.
use Rattle.std.specs.Prelude.{ℕ, List, [], ◌∷◌, ◌++◌, map, length, take, drop}
use Rattle.write_frame.specs.Overwriting.{overwritten}

-- the sizes, over the first of the lent numbers
unfoldable pub sizes_over : List (List ℕ) → List ℕ → List ℕ
sizes_over fs lent = overwritten (map length fs) lent

-- the coefficients: of each polynomial over the first of as many lent numbers as the stride says
unfoldable pub laid_over : ℕ → List (List ℕ) → List ℕ → List ℕ
laid_over stride [] lent = lent
laid_over stride (f ∷ fs) lent = overwritten f (take stride lent) ++ laid_over stride fs (drop stride lent)
