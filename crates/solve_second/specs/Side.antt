-- The level whose second system is laid out: with its own tails, or with row h of its blocks for tails.
use Rattle.std.specs.Prelude.{ℕ, ◌<◌, refl}
use Rattle.solve_lattice.specs.Memory.{Level, ValidLevel}
use Rattle.solve_lattice.specs.SameBlocks.{SameLevelBlocks}
use Rattle.solve_second.specs.WithRow.{with_row, row_blocks, row_valid}
use Rattle.solve_second.specs.declared.second_side.Side.{Side}
use Rattle.solve_second.specs.declared.second_side.Side.TheVariants.{Tails, Row}
use Rattle.solve_lattice.specs.Room.{lanes}

abbrev pub sided : Side → Level → Level
sided Tails L = L
sided (Row h) L = with_row h L

-- the row, where there is one
abbrev pub side_row : Side → ℕ
side_row Tails = 0
side_row (Row h) = h

pub side_blocks : (side : Side) (L : Level) → SameLevelBlocks L (sided side L)
side_blocks Tails L = record { words = λ q j l lt. refl; sizes = λ q l. refl; inverses = λ q l. refl }
side_blocks (Row h) L = row_blocks h L

pub side_valid : {p : ℕ} (side : Side) → side_row side < lanes → {L : Level} → ValidLevel p L → ValidLevel p (sided side L)
side_valid Tails lane valid = valid
side_valid (Row h) lane valid = row_valid h valid lane
