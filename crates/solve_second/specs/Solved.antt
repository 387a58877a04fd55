-- The second system of a level solved in memory (L8): w, monic, and the row Y with Y·(block) = w·(tail) for each slot.
use Rattle.std.specs.Prelude.{ℕ, ◌*◌, ◌<◌, ◌≤◌, ◌≡◌, List, length, get_or}
use Rattle.solve_lattice.specs.Room.{block_words, block_degrees, most_degree}
use Rattle.algebra.specs.Polynomial.{Polynomial}
use Rattle.algebra.specs.Size.{sized}
use Rattle.algebra.specs.Monic.{Monic}
use Rattle.modular.specs.Prime.{Prime}
use Rattle.modular.specs.Residue.{residues}
use Rattle.reduction.specs.Slots.{Slots, unweighted}
use Rattle.reduction.specs.Transpose.{Tops}
use Rattle.reduction.specs.Dual.{Dual}
use Rattle.reduction.specs.Holds.{Holds}
use Rattle.solve_lattice.specs.Word.{words}
use Rattle.solve_lattice.specs.Memory.{Level}
use Rattle.solve_lattice.specs.Holding.{HoldsSlots}

-- slots that have a second system within the room, B being the bound of its row
pub record HasTops (p : ℕ) (n : ℕ) (L : Level) : Type 0 where
  pub prime : Prime p
  pub bound : ℕ
  pub small : bound ≤ most_degree
  pub slots : Slots (Polynomial (residues p prime))
  pub holds : HoldsSlots p prime n unweighted L slots
  pub tops : Tops (sized (residues p prime)) n bound block_degrees slots

-- w in 128 words, Y k in the 128 words from 128·k on
pub record HoldsSecond (p : ℕ) (prime : Prime p) (n B : ℕ) (U : Slots (Polynomial (residues p prime))) (w rows : List ℕ) : Type 0
  where
    pub polynomial : Polynomial (residues p prime)
    pub Y : ℕ → Polynomial (residues p prime)
    pub monic : Monic (residues p prime) polynomial
    pub dual : Dual (sized (residues p prime)) n B U polynomial Y
    pub holds_w : Holds (residues p prime) (words p prime w 0 block_words) polynomial
    pub holds_Y : (k : ℕ) → k < n → Holds (residues p prime) (words p prime rows (block_words * k) block_words) (Y k)

pub record SecondSolved (p n : ℕ) (L : Level) (w rows : List ℕ) : Type 0 where
  pub w_room : length w ≡ block_words
  pub w_below : (i : ℕ) → get_or w i 0 < p
  pub rows_below : (i : ℕ) → get_or rows i 0 < p
  pub solved : (prime : Prime p) (B : ℕ) (U : Slots (Polynomial (residues p prime))) → B ≤ most_degree
      → HoldsSlots p prime n unweighted L U → Tops (sized (residues p prime)) n B block_degrees U → HoldsSecond p prime n B U w rows
