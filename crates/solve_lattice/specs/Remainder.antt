-- What `reduce_words` leaves of a slot: its vector less multiples of other slots, with no word left that a slot could take away.
use Rattle.std.specs.Prelude.{ℕ, suc, ◌+◌, ◌-◌, ◌*◌, ◌/◌, ◌%◌, ◌<◌, ◌≤◌, ◌≡◌, List, length, get_or}
use Rattle.algebra.specs.Polynomial.{Polynomial}
use Rattle.algebra.specs.Size.{sized}
use Rattle.modular.specs.Prime.{Prime}
use Rattle.modular.specs.Residue.{residues}
use Rattle.vector.specs.Stored.{stored}
use Rattle.vector.specs.Multiple.{sum_at}
use Rattle.reduction.specs.Slots.{Slots, unweighted}
use Rattle.reduction.specs.Popov.{SlotReduced}
use Rattle.reduction.specs.Held.{Held}
use Rattle.solve_lattice.specs.Room.{product_words, block_words, slot_words, tail_words, lanes, most_products}
use Rattle.solve_lattice.specs.Word.{words}
use Rattle.solve_lattice.specs.Memory.{row, height, Level, slot_size, tail_size, Sums}
use Rattle.solve_lattice.specs.Holding.{HoldsSlots}
use Rattle.solve_lattice.specs.Step.{factor_of}

-- the k-th word is 0 modulo p, where the slot of its row is filled and has at most k words
abbrev pub Settled : (p : ℕ) → Level → List ℕ → ℕ → Type 0
Settled p L block k = 0 < slot_size L (row k) → slot_size L (row k) ≤ k → get_or block (k - 1) 0 % p ≡ 0

-- the k-th word modulo p where it is to be taken away, else 0
pub record WordFound (p : ℕ) (L : Level) (block : List ℕ) (k value : ℕ) : Type 0 where
  pub none : value ≡ 0 → Settled p L block k
  pub filled : 0 < value → 0 < slot_size L (row k)
  pub fits : 0 < value → slot_size L (row k) ≤ k
  pub word : 0 < value → value ≡ get_or block (k - 1) 0 % p

-- the multiple is taken off block and tail
pub record TakesWord (p : ℕ) (L : Level) (block tail : List ℕ) (k value : ℕ) (block' tail' : List ℕ) : Type 0 where
  pub factor : ℕ
  pub by : factor ≡ factor_of p L k value
  pub words : block' ≡ stored (sum_at block (k - slot_size L (row k)) L (slot_words * row k) (p - factor)) block
      (k - slot_size L (row k)) (height (slot_size L (row k)) * lanes)
  pub tail_words_lem : tail' ≡ stored (sum_at tail ((k - slot_size L (row k)) / lanes) L (slot_words * row k + block_words) (p - factor))
      tail ((k - slot_size L (row k)) / lanes) (height (tail_size L (row k)) * lanes)

-- block and tail hold slot i of U less multiples of others, and of x off its tail
pub record HoldsReduced (p : ℕ) (prime : Prime p) (N : ℕ) (U : Slots (Polynomial (residues p prime))) (i : ℕ)
    (x : Polynomial (residues p prime)) (block tail : List ℕ) : Type 0 where
  pub vector : ℕ → Polynomial (residues p prime)
  pub held : Held (residues p prime) N lanes unweighted (words p prime block 0 product_words) (words p prime tail 0 tail_words) vector
  pub reduced : SlotReduced (sized (residues p prime)) N x U i vector

-- The first n words as far as the k-th are reduced, from the last on. A word has taken in at most one product for each.
pub record Reducing (p : ℕ) (L : Level) (block₀ tail₀ : List ℕ) (n k : ℕ) (block tail : List ℕ) : Type 0 where
  pub within : k ≤ n
  pub length_block : length block ≡ length block₀
  pub length_tail : length tail ≡ length tail₀
  pub sums : Sums p (most_products - block_words + k) block
  pub tail_sums : Sums p (most_products - block_words + k) tail
  -- words behind the first n stay as they were
  pub kept : (j : ℕ) → n ≤ j → get_or block j 0 ≡ get_or block₀ j 0
  pub settled : (j : ℕ) → k < j → j ≤ n → Settled p L block j
  -- of slot i, whose last word is the next
  pub holds : (prime : Prime p) (N : ℕ) (U : Slots (Polynomial (residues p prime))) (i : ℕ) (x : Polynomial (residues p prime))
      → i < N → slot_size L i ≡ suc n → HoldsSlots p prime N unweighted L U
      → Held (residues p prime) N lanes unweighted (words p prime block₀ 0 product_words) (words p prime tail₀ 0 tail_words) (U.at i)
      → HoldsReduced p prime N U i x block tail
