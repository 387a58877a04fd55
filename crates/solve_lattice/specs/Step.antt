-- A step on the block in hand: when there is one, and what it leaves. The slot at the block's pivot is filled and no longer than
-- the block; the multiple of it that takes the leading word away is taken off.
use Rattle.std.specs.Prelude.{ℕ, ◌-◌, ◌*◌, ◌%◌, ◌<◌, ◌≤◌, ◌≡◌, List, length, get_or}
use Rattle.std.proofs.Common.{arith}
use Rattle.modular.specs.Modulo.{modulo}
use Rattle.residue.specs.Sum.{SmallSum}
use Rattle.vector.specs.Stored.{stored}
use Rattle.vector.specs.Multiple.{sum_at}
use Rattle.solve_lattice.specs.Room.{product_words, slot_words, lanes}
use Rattle.solve_lattice.specs.declared.step.Remains.{Remains}
use Rattle.solve_lattice.specs.Memory.{row, height, ZeroFrom, Ends, Level, slot_size, slot_inverse, ValidLevel}

-- value is the k-th word of the block modulo p, and the slot of its row is filled and has at most k words
pub record HasMultiple (p : ℕ) (L : Level) (block : List ℕ) (k value : ℕ) : Type 0 where
  pub level : ValidLevel p L
  pub room : height k * lanes ≤ length block
  pub within : k ≤ product_words
  pub some : 0 < k
  pub leading : value ≡ get_or block (k - 1) 0 % p
  pub filled : 0 < slot_size L (row k)
  pub fits : slot_size L (row k) ≤ k

-- and it is the leading word
pub record HasStep (p : ℕ) (L : Level) (block : List ℕ) (k value : ℕ) : Type 0 where
  pub multiple : HasMultiple p L block k value
  pub behind : ZeroFrom p block 0 product_words k

-- the quotient of the leading words
abbrev pub factor_of : (p : ℕ) → Level → (k value : ℕ) → ℕ
factor_of p L k value = (modulo p).mul value (slot_inverse L (row k))

-- of the slot all words of its degrees are taken; those behind its size are 0
pub record TakesMultiple (p : ℕ) (L : Level) (block : List ℕ) (k value : ℕ) (block' : List ℕ) (r : Remains) : Type 0 where
  pub factor : r.factor ≡ factor_of p L k value
  pub words : block' ≡ stored (sum_at block (k - slot_size L (row k)) L (slot_words * row k) (p - r.factor)) block
      (k - slot_size L (row k)) (height (slot_size L (row k)) * lanes)
  pub ends : Ends p block' 0 product_words r.size
  pub leading : 0 < r.size → r.leading ≡ get_or block' (r.size - 1) 0 % p
  pub fewer : r.size < k

-- what is known of the block before its size is: nothing counts from n on, and value is the word before n where it is not 0; where
-- it is 0, nothing counts from unseen on
pub record Rest (p : ℕ) (block : List ℕ) (n value unseen : ℕ) : Type 0 where
  pub room : n ≤ length block
  pub within : n ≤ product_words
  pub behind : ZeroFrom p block 0 product_words n
  pub reducible : (j : ℕ) → SmallSum p (get_or block j 0)
  pub early : 0 < value → (0 < n) × (value ≡ get_or block (n - 1) 0 % p)
  pub fewer : unseen ≤ n
  pub late : value ≡ 0 → ZeroFrom p block 0 product_words unseen

pub record Left (p : ℕ) (block : List ℕ) (n size value : ℕ) : Type 0 where
  pub ends : Ends p block 0 product_words size
  pub leading : 0 < size → value ≡ get_or block (size - 1) 0 % p
  pub within : size ≤ n

-- a step before its rest is found
pub record Takes (p : ℕ) (L : Level) (block : List ℕ) (k value : ℕ) (block' : List ℕ) (r : Remains) : Type 0 where
  pub factor : r.factor ≡ factor_of p L k value
  pub words : block' ≡ stored (sum_at block (k - slot_size L (row k)) L (slot_words * row k) (p - r.factor)) block
      (k - slot_size L (row k)) (height (slot_size L (row k)) * lanes)
  pub size : r.size ≡ k - 1
  pub rest : Rest p block' r.size r.leading r.unseen

pub takes_left : {p : ℕ} {L : Level} {block : List ℕ} {k value : ℕ} {block' : List ℕ} {r : Remains} {size leading : ℕ} → 0 < k
    → Takes p L block k value block' r → Left p block' r.size size leading
    → TakesMultiple p L block k value block' (record { size = size; leading = leading; unseen = r.unseen; factor = r.factor })
takes_left some T left = record {
  factor = T.factor;
  words = T.words;
  ends = left.ends;
  leading = left.leading;
  fewer = omega (arith, T.size, left.within);
}
