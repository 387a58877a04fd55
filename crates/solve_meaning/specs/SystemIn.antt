-- The system in the solver's input area, as values: row i of column j has its coefficients, at most 16, in lane 7 - i of that
-- column's block, and b has its own in the block behind the last column.
use Rattle.std.specs.Prelude.{ℕ, ◌+◌, ◌*◌, ◌/◌, ◌%◌, ◌<◌, ◌≤◌, ◌≡◌, List, length, get_or}
use Rattle.vector.specs.Reduced.{reduced}
use Rattle.reduction.specs.Flat.{flat}
use Rattle.solve_lattice.specs.Room.{lanes, block_words, input_words, block_degrees}
use Rattle.words.specs.System.{System, Shape}
use Rattle.truth.specs.Listed.{listed}

-- what the lane of row i stands for in the block from the word b on
unfoldable pub lane_polynomial : ℕ → List ℕ → (b i : ℕ) → List ℕ
unfolding listed reduced
lane_polynomial p input b i = reduced p (listed block_degrees (λ e. get_or input (b + flat lanes i e) 0))

-- of that shape: A row by row, b
abbrev pub system_in_lanes : Shape → List ℕ → System
system_in_lanes h input = record {
  modulus = h.modulus;
  rows = h.rows;
  columns = h.columns;
  matrix = listed (h.rows * h.columns) (λ k. lane_polynomial h.modulus input (block_words * (k % h.columns)) (k / h.columns));
  side = listed h.rows (lane_polynomial h.modulus input (block_words * h.columns));
}

-- what is asked of the words: they are below p, and there is nothing in the lanes beside the rows
pub record SystemArea (h : Shape) (input : List ℕ) : Type 0 where
  pub room : length input ≡ input_words
  pub below : (i : ℕ) → get_or input i 0 < h.modulus
  pub beside : (i j e : ℕ) → h.rows ≤ i → i < lanes → j ≤ h.columns → e < block_degrees
      → get_or input (block_words * j + flat lanes i e) 0 ≡ 0
