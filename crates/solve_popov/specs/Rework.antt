-- Slots brought into Popov form in memory: what is found of one, how it is stored, and what one and all of them then are.
use Rattle.std.specs.Prelude.{ℕ, ◌+◌, ◌-◌, ◌*◌, ◌%◌, ◌<◌, ◌≤◌, max, ◌≡◌, List, length, get_or, set}
use Rattle.algebra.specs.Polynomial.{Polynomial}
use Rattle.algebra.specs.Size.{sized}
use Rattle.modular.specs.Prime.{Prime}
use Rattle.modular.specs.Residue.{residues}
use Rattle.vector.specs.Bound.{Reducible}
use Rattle.vector.specs.Stored.{stored}
use Rattle.reduction.specs.Slots.{Slots, unweighted, put}
use Rattle.reduction.specs.Popov.{SlotReduced, SlotPopov, Reworked}
use Rattle.reduction.specs.Holds.{Holds}
use Rattle.solve_lattice.specs.Room.{block_words, slot_words, tail_words, tail_sizes_from}
use Rattle.solve_lattice.specs.Word.{words}
use Rattle.solve_lattice.specs.Memory.{ZeroFrom, Level, slot_size, tail_size, ValidLevel}
use Rattle.solve_lattice.specs.Holding.{HoldsSlots}
use Rattle.solve_lattice.specs.Remainder.{Settled, HoldsReduced}

-- slot i less multiples of the others and of d, of `size` coefficients: the words from its last on are as they were, none before
-- it is left that a slot could take away, and fewer than `size` coefficients are left of the tail
pub record ReducedFound (p : ℕ) (L : Level) (i : ℕ) (d : List ℕ) (size : ℕ) (block tail : List ℕ) : Type 0 where
  pub room : length block ≡ block_words
  pub tail_room : length tail ≡ tail_words
  pub sums : Reducible p block block_words
  pub tail_sums : Reducible p tail block_words
  pub kept : (j : ℕ) → slot_size L i - 1 ≤ j → j < block_words → get_or block j 0 ≡ get_or L (slot_words * i + j) 0
  pub settled : (k : ℕ) → 0 < k → k < slot_size L i → Settled p L block k
  pub short : ZeroFrom p tail 0 tail_words (size - 1)
  pub holds : (prime : Prime p) (n : ℕ) (U : Slots (Polynomial (residues p prime))) (x : Polynomial (residues p prime))
      → i < n → 0 < U.size i → HoldsSlots p prime n unweighted L U → Holds (residues p prime) (words p prime d 0 block_words) x
      → HoldsReduced p prime n U i x block tail

-- block and tail put into slot i, reduced: as many words as the slot has, and a tail of `size` words
abbrev pub slot_stored : (p : ℕ) → Level → ℕ → (block tail : List ℕ) → ℕ → Level
slot_stored p L i block tail size = set
    (stored (λ j. get_or tail j 0 % p) (stored (λ j. get_or block j 0 % p) L (slot_words * i) (slot_size L i))
    (slot_words * i + block_words) (max (tail_size L i) size)) (tail_sizes_from + i) size

-- L' holds U with slot i reduced
pub record HoldsReworked (p : ℕ) (prime : Prime p) (n : ℕ) (U : Slots (Polynomial (residues p prime))) (i : ℕ)
    (x : Polynomial (residues p prime)) (L' : Level) : Type 0 where
  pub vector : ℕ → Polynomial (residues p prime)
  pub reduced : SlotReduced (sized (residues p prime)) n x U i vector
  pub popov : SlotPopov (sized (residues p prime)) n x U i vector
  pub slots : HoldsSlots p prime n unweighted L' (put U i vector (U.size i))

pub record SlotReworked (p : ℕ) (L : Level) (i : ℕ) (d : List ℕ) (L' : Level) : Type 0 where
  pub valid : ValidLevel p L'
  pub holds : (prime : Prime p) (n : ℕ) (U : Slots (Polynomial (residues p prime))) (x : Polynomial (residues p prime))
      → i < n → 0 < U.size i → HoldsSlots p prime n unweighted L U → Holds (residues p prime) (words p prime d 0 block_words) x
      → HoldsReworked p prime n U i x L'

-- L' holds slots that were made from U, the first i of them reduced
pub record HoldsPopov (p : ℕ) (prime : Prime p) (n : ℕ) (U : Slots (Polynomial (residues p prime))) (i : ℕ)
    (x : Polynomial (residues p prime)) (L' : Level) : Type 0 where
  pub slots : Slots (Polynomial (residues p prime))
  pub holds : HoldsSlots p prime n unweighted L' slots
  pub reworked : Reworked (sized (residues p prime)) n x U slots
  pub popov : (q : ℕ) → q < i → 0 < slots.size q → SlotPopov (sized (residues p prime)) n x slots q (slots.at q)

pub record SlotsReworked (p n : ℕ) (L : Level) (i : ℕ) (d : List ℕ) (L' : Level) : Type 0 where
  pub valid : ValidLevel p L'
  pub holds : (prime : Prime p) (U : Slots (Polynomial (residues p prime))) (x : Polynomial (residues p prime))
      → HoldsSlots p prime n unweighted L U → Holds (residues p prime) (words p prime d 0 block_words) x
      → HoldsPopov p prime n U i x L'
