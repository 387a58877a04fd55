-- The second system of a level of n rows as it lies in memory that was cleared before: the transposed level, and the right side.
use Rattle.std.specs.Prelude.{ℕ, ◌<◌, ◌≡◌, List, length, get_or, set, replicate}
use Rattle.vector.specs.declared.leading.Leading.{Leading}
use Rattle.solve_lattice.specs.Memory.{Level, slot_size, tail_size, slot_inverse, Memory, memory}
use Rattle.solve_lattice.specs.Room.{level_words, sizes_from, product_words, tail_words, lanes}
use Rattle.solve_second.specs.Words.{reversed, transposed_word, transposed_size, side_word}

pub record SlotsLaid (n : ℕ) (L T : Level) : Type 0 where
  pub room : length T ≡ level_words
  pub words : (x : ℕ) → x < sizes_from → get_or T x 0 ≡ transposed_word L n x
  pub sizes : (k : ℕ) → k < lanes → slot_size T k ≡ transposed_size L n k
  pub tails : (k : ℕ) → k < lanes → tail_size T k ≡ 0
  -- those of slots that are filled
  pub inverses : (k : ℕ) → k < n → 0 < slot_size L (reversed n k) → slot_inverse T k ≡ slot_inverse L (reversed n k)

pub record SecondLaid (n : ℕ) (L T : Level) (b : List ℕ) : Type 0 where
  pub slots : SlotsLaid n L T
  pub room : length b ≡ product_words
  pub side : (x : ℕ) → x < product_words → get_or b x 0 ≡ side_word L n x

-- the memory with which an insertion of a block with tail 1 begins
abbrev pub starting_memory : Level → List ℕ → Leading → Memory
starting_memory T b found = memory T b (set (replicate tail_words 0) 0 1)
    (record { size = found.size; leading = found.value; tail_size = 1 })
