-- What memory holds, in the terms of `reduction`: slots, and the state of an insertion. Weights and the number of rows do not
-- show in memory: lane i of a block holds x^(ω i) times coordinate i, and the lanes of rows from n on are zero.
use Rattle.std.specs.Prelude.{ℕ, ◌+◌, ◌*◌, ◌<◌, ◌≡◌}
use Rattle.modular.specs.Prime.{Prime}
use Rattle.modular.specs.Residue.{residues}
use Rattle.algebra.specs.Polynomial.{Polynomial}
use Rattle.algebra.specs.Size.{sized}
use Rattle.reduction.specs.Slots.{Slots}
use Rattle.reduction.specs.Held.{Held}
use Rattle.reduction.specs.Trace.{State, Trace}
use Rattle.solve_lattice.specs.Room.{product_words, block_words, slot_words, tail_words, lanes}
use Rattle.solve_lattice.specs.Word.{words}
use Rattle.solve_lattice.specs.Memory.{height, Level, slot_size, Memory}

module _ (p : ℕ) (prime : Prime p) (n : ℕ) (ω : ℕ → ℕ) where
  pub record HoldsSlots (L : Level) (U : Slots (Polynomial (residues p prime))) : Type 0 where
    pub size : (q : ℕ) → q < n → U.size q ≡ height (slot_size L q)
    pub vector : (q : ℕ) → q < n → 0 < U.size q
        → Held (residues p prime) n lanes ω (words p prime L (slot_words * q) block_words)
        (words p prime L (slot_words * q + block_words) block_words)
        (U.at q)

  pub record HoldsState (M : Memory) (s : State (Polynomial (residues p prime))) : Type 0 where
    pub slots : HoldsSlots M.level s.slots
    pub hand : Held (residues p prime) n lanes ω (words p prime M.block 0 product_words) (words p prime M.tail 0 tail_words)
        s.hand
    pub size : s.size ≡ height M.hand.size

  -- the state to which an insertion has come from s
  pub record Reached (s : State (Polynomial (residues p prime))) (M : Memory) : Type 0 where
    pub now : State (Polynomial (residues p prime))
    pub holds : HoldsState M now
    pub trace : Trace (sized (residues p prime)) n ω s now

-- whatever state memory held, it now holds one that an insertion comes to from there
abbrev pub Leads : ℕ → Memory → Memory → Type 0
Leads p M M' = (prime : Prime p) (n : ℕ) (ω : ℕ → ℕ) (s : State (Polynomial (residues p prime)))
    → HoldsState p prime n ω M s → Reached p prime n ω s M'
