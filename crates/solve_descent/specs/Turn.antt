-- One turn of the way down on memory, in the terms of `reduction`: from a `Descent` to column j + 1 it leads to one to column j.
use Rattle.std.specs.Prelude.{ℕ, suc, ◌+◌, ◌*◌, ◌<◌, ◌≤◌, ◌≡◌, ◌⊎◌, List, length, get_or}
use Rattle.solve_lattice.specs.Room.{product_words, block_words, lanes, most_places, last_degree, most_degree}
use Rattle.algebra.specs.Polynomial.{Polynomial}
use Rattle.algebra.specs.Size.{sized}
use Rattle.modular.specs.Prime.{Prime}
use Rattle.modular.specs.Residue.{residues}
use Rattle.vector.specs.Bound.{AtMost}
use Rattle.reduction.specs.Total.{rank}
use Rattle.reduction.specs.Replace.{replace}
use Rattle.reduction.specs.Slots.{Slots, unweighted}
use Rattle.reduction.specs.System.{LinearSystem}
use Rattle.reduction.specs.Levels.{Levels}
use Rattle.reduction.specs.Descent.{Descent, Turn}
use Rattle.reduction.specs.Holds.{Holds}
use Rattle.reduction.specs.Flat.{Flat}
use Rattle.solve_lattice.specs.Memory as memory
use Rattle.solve_lattice.specs.Memory.{Sums}
use Rattle.solve_lattice.specs.Holding.{HoldsSlots}
use Rattle.solve_lattice.specs.Coefficients.{HoldsCoefficients}
use Rattle.solve_lattice.specs.Word.{words}

module _ (p : ℕ) (prime : Prime p) where
  -- Memory holds a descent that has come to column j + 1: the level, its kernel (zero where there is none) in a block, the column
  -- and the coefficients of the vector.
  pub record HoldsDescent (L : memory.Level) (block columns : List ℕ) (at : ℕ) (quotients : List ℕ) : Type 0 where
    pub system : LinearSystem (sized (residues p prime))
    pub level : ℕ → Slots (Polynomial (residues p prime))
    pub kernel : ℕ → Polynomial (residues p prime)
    pub levels : Levels system level kernel system.columns
    -- L6: no degree of a coordinate is above 120, and none of the vector above 135
    pub low : system.degree ≤ last_degree
    pub small : rank system.rows (level system.columns).size * system.degree ≤ most_degree
    pub column : ℕ
    pub inside : column < system.columns
    pub whole : ℕ → Polynomial (residues p prime)
    pub vector : ℕ → Polynomial (residues p prime)
    pub coordinates : ℕ → Polynomial (residues p prime)
    pub descent : Descent system level kernel whole (suc column) vector coordinates
    pub holds_slots : HoldsSlots p prime system.rows unweighted L (level (suc column))
    pub holds_kernel : Holds (residues p prime) (words p prime block 0 block_words) (kernel column)
    pub holds_column : Flat (residues p prime) system.rows lanes unweighted (words p prime columns at block_words)
        (λ i. system.matrix i column)
    pub coefficients : HoldsCoefficients p prime system.rows (level (suc column)) vector quotients

  -- and then that it has come to column j, with the coordinate of that column in `coordinates` from `place` on
  pub record HoldsTurn {L : memory.Level} {block columns : List ℕ} {at : ℕ} {quotients : List ℕ}
      (A : HoldsDescent L block columns at quotients) (coordinates : List ℕ) (place : ℕ) (t' : List ℕ) : Type 0 where
    pub coordinate : Polynomial (residues p prime)
    pub vector : ℕ → Polynomial (residues p prime)
    pub turn : Turn A.system A.level A.kernel A.column A.vector A.coordinates vector
        (replace A.coordinates A.column coordinate)
    pub descent : Descent A.system A.level A.kernel A.whole A.column vector
        (replace A.coordinates A.column coordinate)
    pub holds_coordinate : Holds (residues p prime) (words p prime coordinates place block_words) coordinate
    pub holds_vector : Flat (residues p prime) A.system.rows lanes unweighted (words p prime t' 0 product_words) vector

-- The vector is left in sums not reduced, and the quotients all 0: as `divide` takes them.
pub record Turned (p : ℕ) (L : memory.Level) (n : ℕ) (kernel columns : List ℕ) (at : ℕ)
    (quotients coordinates : List ℕ) (place : ℕ) (t' quotients' coordinates' : List ℕ) : Type 0 where
  pub same_length : length t' ≡ product_words
  pub sums : Sums p most_places t'
  pub cleared : AtMost 0 quotients'
  pub same_coordinates : length coordinates' ≡ length coordinates
  pub coordinates_below : (i : ℕ) → get_or coordinates' i 0 < p
  pub others : (i : ℕ) → (i < place) ⊎ (place + block_words ≤ i) → get_or coordinates' i 0 ≡ get_or coordinates i 0
  pub holds : (prime : Prime p) (A : HoldsDescent p prime L kernel columns at quotients) → A.system.rows ≡ n
      → HoldsTurn p prime A coordinates' place t'
