-- A system in memory, as the solver takes it: column j is a flat block of 16 degrees in the 128 words from 128·j on, and the right
-- side is such a block behind the last column.
use Rattle.std.specs.Prelude.{ℕ, ◌*◌, ◌<◌, ◌≤◌, ◌≡◌, List, length, get_or}
use Rattle.algebra.specs.Polynomial.{Polynomial}
use Rattle.algebra.specs.Size.{size, sized}
use Rattle.modular.specs.Prime.{Prime}
use Rattle.modular.specs.Residue.{residues}
use Rattle.reduction.specs.Slots.{unweighted}
use Rattle.reduction.specs.System.{LinearSystem}
use Rattle.reduction.specs.Flat.{Flat}
use Rattle.solve_lattice.specs.Room.{input_words, block_words, block_degrees, lanes, last_degree}
use Rattle.solve_lattice.specs.Word.{words}

-- room for 8 columns and the right side
pub record ValidInput (p : ℕ) (input : List ℕ) : Type 0 where
  pub room : length input ≡ input_words
  pub below : (i : ℕ) → get_or input i 0 < p

module _ (p : ℕ) (prime : Prime p) (n m : ℕ) where
  -- n rows and m columns modulo p, of degree at most 15
  pub record Equations : Type 0 where
    pub matrix : ℕ → ℕ → Polynomial (residues p prime)
    pub side : ℕ → Polynomial (residues p prime)
    pub matrix_small : (i j : ℕ) → i < n → j < m → size (residues p prime) (matrix i j) ≤ block_degrees
    pub side_small : (i : ℕ) → i < n → size (residues p prime) (side i) ≤ block_degrees

  -- as `reduction` takes them
  abbrev pub input_system : Equations → LinearSystem (sized (residues p prime))
  input_system X = record {
    rows = n;
    columns = m;
    degree = last_degree;
    matrix = X.matrix;
    side = X.side;
    matrix_small = X.matrix_small;
    side_small = X.side_small;
  }

  pub record HoldsSystem (X : Equations) (input : List ℕ) : Type 0 where
    pub column : (j : ℕ) → j < m
        → Flat (residues p prime) n lanes unweighted (words p prime input (block_words * j) block_words) (λ i. X.matrix i j)
    pub side : Flat (residues p prime) n lanes unweighted (words p prime input (block_words * m) block_words) X.side
