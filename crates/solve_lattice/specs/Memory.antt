-- How a level and a hand lie in memory, all of it words of 64 bits, and when such memory is in order.
--   A level has 8 slots, one for each row. Slot q has its block in the 128 words from 256·q on: flat, in 8 lanes, row i in lane
--   7 - i, so that coefficient e of row i is at 8·e + (7 - i). Its tail is in the next 128 words. All these are numbers below p.
--   Behind the slots stand their sizes and inverses: a level is one array of 2072 words.
--   The hand has a block of 128 to 1088 words, 16 to 136 degrees, and a tail of 256; both are sums that are not reduced.
use Rattle.std.specs.Prelude.{ℕ, ◌+◌, ◌-◌, ◌*◌, ◌/◌, ◌%◌, ◌<◌, ◌≤◌, ◌≡◌, List, length, get_or}
use Rattle.modular.specs.Modulo.{modulo}
use Rattle.vector.specs.Bound.{AtMost}
use Rattle.ring.specs.Total.{total}
use Rattle.solve_lattice.specs.declared.hand.Hand.{Hand}
use Rattle.solve_lattice.specs.Room.{lanes, block_words, tail_words, slot_words, level_words, product_words, last_lane}
use Rattle.solve_lattice.specs.Room.{most_coefficients, most_products}
use Rattle.solve_lattice.specs.Room.{sizes_from, tail_sizes_from, inverses_from}

-- of a flat block whose last word that counts is the k-th: the row of that word, and the number of degrees
abbrev pub row : ℕ → ℕ
row k = last_lane - (k - 1) % lanes

abbrev pub height : ℕ → ℕ
height k = (k + last_lane) / lanes

-- of n words from b on, those from the k-th on are 0 modulo p
abbrev pub ZeroFrom : (p : ℕ) → List ℕ → (b n k : ℕ) → Type 0
ZeroFrom p l b n k = (j : ℕ) → k ≤ j → j < n → get_or l (b + j) 0 % p ≡ 0

-- and the word before is not: k is the size
pub record Ends (p : ℕ) (l : List ℕ) (b n k : ℕ) : Type 0 where
  pub within : k ≤ n
  pub last : 0 < k → 0 < get_or l (b + (k - 1)) 0 % p
  pub behind : ZeroFrom p l b n k

-- the words of the slots; behind them the sizes of their blocks, 0 where a slot is empty; the sizes of their tails, or more; and
-- the inverses of the last words of their blocks
abbrev pub Level : Type 0
Level = List ℕ

abbrev pub slot_size : Level → ℕ → ℕ
slot_size L q = get_or L (sizes_from + q) 0

abbrev pub tail_size : Level → ℕ → ℕ
tail_size L q = get_or L (tail_sizes_from + q) 0

abbrev pub slot_inverse : Level → ℕ → ℕ
slot_inverse L q = get_or L (inverses_from + q) 0

pub record ValidSlot (p : ℕ) (L : Level) (q : ℕ) : Type 0 where
  pub block : Ends p L (slot_words * q) block_words (slot_size L q)
  pub pivot : 0 < slot_size L q → row (slot_size L q) ≡ q
  pub inverse : 0 < slot_size L q
      → slot_inverse L q ≡ (modulo p).inverse (get_or L (slot_words * q + (slot_size L q - 1)) 0)
  pub tail_within : tail_size L q ≤ most_coefficients
  pub tail : ZeroFrom p L (slot_words * q + block_words) block_words (tail_size L q)

pub record ValidLevel (p : ℕ) (L : Level) : Type 0 where
  pub room : level_words ≤ length L
  pub below : (i : ℕ) → i < sizes_from → get_or L i 0 < p
  pub slot : (q : ℕ) → q < lanes → ValidSlot p L q

-- Sums that are not reduced: a number of at most p, and so many products of two such numbers. A step adds at most one product to a
-- word, and lowers the number n of places by at least 1, so that no counter is needed against overflow.
abbrev pub Sums : (p n : ℕ) → List ℕ → Type 0
Sums p n = AtMost (p + (most_products - n) * (p * p))

-- a level, and the vector in hand
pub record Memory : Type 0 where
  pub level : Level
  pub block : List ℕ
  pub tail : List ℕ
  pub hand : Hand

abbrev pub memory : Level → List ℕ → List ℕ → Hand → Memory
memory L b t h = record { level = L; block = b; tail = t; hand = h }

-- what falls with each step of an insertion
abbrev pub places : Memory → ℕ
places M = total lanes (slot_size M.level) + M.hand.size

pub record ValidHand (p : ℕ) (M : Memory) : Type 0 where
  -- for a slot's block, and for all degrees of its own
  pub room : block_words ≤ length M.block
  pub degrees : height M.hand.size * lanes ≤ length M.block
  pub tail_room : tail_words ≤ length M.tail
  pub block : Ends p M.block 0 product_words M.hand.size
  pub leading : 0 < M.hand.size → M.hand.leading ≡ get_or M.block (M.hand.size - 1) 0 % p
  pub tail_within : M.hand.tail_size ≤ tail_words
  pub tail : ZeroFrom p M.tail 0 tail_words M.hand.tail_size
  pub sums : Sums p (places M) M.block
  pub tail_sums : Sums p (places M) M.tail

pub record Valid (p : ℕ) (M : Memory) : Type 0 where
  pub level : ValidLevel p M.level
  pub hand : ValidHand p M
