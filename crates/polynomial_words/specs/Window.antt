-- Words in which a polynomial slides down by a place for each multiplication by x.
use Rattle.std.specs.Prelude.{◌≡◌, List, ℕ, ◌<◌, get_or}

-- all words are reduced, and those before the place a are 0
pub record ReducedFrom (p : ℕ) (h : List ℕ) (a : ℕ) : Type 0 where
  pub below : (i : ℕ) → get_or h i 0 < p
  pub zeros : (i : ℕ) → i < a → get_or h i 0 ≡ 0
