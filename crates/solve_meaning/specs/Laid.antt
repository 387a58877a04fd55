-- The values of a system laid out as the solver takes them: coefficient e of row i of column j in lane 7 - i of that column's
-- block.
use Rattle.std.specs.Prelude.{ℕ, ◌+◌, ◌*◌, ◌<◌, ◌≡◌, List, get_or}
use Rattle.words.specs.System.{System, shape, entry, side_entry}
use Rattle.reduction.specs.Flat.{flat}
use Rattle.solve_lattice.specs.Room.{block_words, lanes, block_degrees}
use Rattle.solve_meaning.specs.SystemIn.{SystemArea}

pub record SystemLaid (s : System) (input : List ℕ) : Type 0 where
  pub area : SystemArea (shape s) input
  pub matrix : (i j e : ℕ) → i < s.rows → j < s.columns → e < block_degrees
      → get_or input (block_words * j + flat lanes i e) 0 ≡ get_or (entry s i j) e 0
  pub side : (i e : ℕ) → i < s.rows → e < block_degrees
      → get_or input (block_words * s.columns + flat lanes i e) 0 ≡ get_or (side_entry s i) e 0
