-- What the moves of an insertion ask of memory, and what they do to it.
use Rattle.std.specs.Prelude.{ℕ, ◌+◌, ◌<◌, ◌≤◌, ◌≡◌}
use Rattle.modular.specs.Prime.{Prime}
use Rattle.modular.specs.Residue.{residues}
use Rattle.algebra.specs.Polynomial.{Polynomial}
use Rattle.reduction.specs.Slots.{put}
use Rattle.reduction.specs.Trace.{State}
use Rattle.solve_lattice.specs.Room.{block_words, tail_words, lanes, block_degrees, most_coefficients}
use Rattle.solve_lattice.specs.Memory.{row, height, ZeroFrom, slot_size, tail_size, Memory, places, Valid}
use Rattle.solve_lattice.specs.Holding.{HoldsSlots, HoldsState, Leads}

-- a hand of many degrees meets short tails only, so that the step on the tail has room for all words of the slot's degrees
abbrev pub ShortTails : Memory → Type 0
ShortTails M = (q : ℕ) → q < lanes → tail_size M.level q + height M.hand.size ≤ most_coefficients + block_degrees

-- the slot at the pivot of the hand is filled and no longer than the hand
pub record Fits (M : Memory) : Type 0 where
  pub some : 0 < M.hand.size
  pub filled : 0 < slot_size M.level (row M.hand.size)
  pub shorter : slot_size M.level (row M.hand.size) ≤ M.hand.size
  pub short : ShortTails M

-- the hand has room in a slot
pub record HasRoom (p : ℕ) (M : Memory) : Type 0 where
  pub some : 0 < M.hand.size
  pub block : M.hand.size ≤ block_words
  pub tail : ZeroFrom p M.tail 0 tail_words most_coefficients

-- an insertion can go on: the slot at the pivot of the hand is filled, and the tail has room
pub record GoesOn (p : ℕ) (M : Memory) : Type 0 where
  pub some : 0 < M.hand.size
  pub filled : 0 < slot_size M.level (row M.hand.size)
  pub tail : ZeroFrom p M.tail 0 tail_words most_coefficients
  pub short : ShortTails M

-- memory stays in order and holds a state that an insertion comes to
pub record Moved (p : ℕ) (M M' : Memory) : Type 0 where
  pub valid : Valid p M'
  pub leads : Leads p M M'

-- by a step
pub record Stepped (p : ℕ) (M M' : Memory) : Type 0 where
  pub moved : Moved p M M'
  pub falls : places M' < places M
  pub short : ShortTails M'

-- The hand and the slot at its pivot changed places. Where the slot was filled, that is a move; where it was empty, the hand is
-- now among the slots.
pub record Swapped (p : ℕ) (M M' : Memory) : Type 0 where
  pub valid : Valid p M'
  pub places_kept : places M' ≡ places M
  pub hand_size : M'.hand.size ≡ slot_size M.level (row M.hand.size)
  pub slot_size_lem : slot_size M'.level (row M.hand.size) ≡ M.hand.size
  pub put : (prime : Prime p) (n : ℕ) (ω : ℕ → ℕ) (s : State (Polynomial (residues p prime))) → HoldsState p prime n ω M s
      → HoldsSlots p prime n ω M'.level (put s.slots (row M.hand.size) s.hand s.size)
  pub leads : 0 < slot_size M.level (row M.hand.size) → Leads p M M'

-- The hand is no longer shorter than the slot at its pivot: where it was, the two changed places.
pub record Lengthened (p : ℕ) (M M' : Memory) : Type 0 where
  pub moved : Moved p M M'
  pub places_kept : places M' ≡ places M
  pub fits : Fits M'
