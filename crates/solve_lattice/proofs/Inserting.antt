-- The invariant of `insert`: memory is in order and holds a state that the insertion has come to.
use Prim.Native.Nat.{ℕ, ◌<◌}
use mathlib.Core.Path.{◌≡◌, refl, ◌∙◌}
use native.Mathlib.Omega.{arith}
use lib.ListN.{length}
use Rattle.modular.specs.Prime.{Prime}
use Rattle.solve_lattice.specs.Memory.{row, slot_size, Memory, Valid}
use Rattle.solve_lattice.specs.Moves.{ShortTails, GoesOn, Moved, Stepped}
use Rattle.solve_lattice.specs.Leading.{leads_none, leads_then}
use Rattle.solve_lattice.specs.Insertion.{Starts, Inserts, starts_room}

pub record Inserting (p : ℕ) (M M' : Memory) : Type 0 where
  -- the words that are lent stay as many
  pub length_block : length M'.block ≡ length M.block
  pub moved : Moved p M M'
  pub short : ShortTails M'

module _ {p : ℕ} where
  pub inserting_start : {M : Memory} → Valid p M → Starts p M → Inserting p M M
  inserting_start {M} valid starts = record {
    length_block = refl;
    moved = record { valid = valid; leads = leads_none M };
    short = λ q h. omega (arith, starts.tails q h, valid.hand.block.within);
  }

  pub inserting_turn : {M M' M'' : Memory} → Inserting p M M' → length M''.block ≡ length M'.block
      → Stepped p M' M'' → Inserting p M M''
  inserting_turn {M} {M'} {M''} so_far same next = record {
    length_block = same ∙ so_far.length_block;
    moved = record {
      valid = next.moved.valid;
      leads = leads_then M M' M'' so_far.moved.leads next.moved.leads;
    };
    short = next.short;
  }

  module _ (prime : Prime p) {M M' : Memory} (valid : Valid p M) (starts : Starts p M) (so_far : Inserting p M M') where
    pub inserting_on : 0 < M'.hand.size → 0 < slot_size M'.level (row M'.hand.size) → GoesOn p M'
    inserting_on some filled = record {
      some = some;
      filled = filled;
      tail = starts_room p prime valid starts so_far.moved.leads;
      short = so_far.short;
    }

    pub inserting_end : (0 < M'.hand.size → slot_size M'.level (row M'.hand.size) ≡ 0) → Inserts p M M'
    inserting_end stops = record {
      valid = so_far.moved.valid;
      leads = so_far.moved.leads;
      stops = stops;
      tail = starts_room p prime valid starts so_far.moved.leads;
    }
