-- The invariant of a loop that stores f 0, f 1 .. from the place d on, one word or more a turn.
use mathlib.Core.Path.{◌≡◌, refl, ap, ◌∙◌}
use mathlib.Core.List.{List}
use Prim.Native.Nat.{ℕ, ◌+◌, ◌≤◌, ◌<◌}
use native.Mathlib.Nat.{le_antisymm}
use native.Mathlib.Omega.{arith}
use lib.ListN.{length, get_or, set, length-set}
use Rattle.vector.specs.Stored.{stored, length_stored, stored_none, stored_more, stored_next, stored_behind}

-- j of n words are stored, and w is what they left of l
pub record Storing (f : ℕ → ℕ) (l : List ℕ) (d n : ℕ) (w : List ℕ) (j : ℕ) : Type 0 where
  pub within : j ≤ n
  pub same_length : length w ≡ length l
  pub words : w ≡ stored f l d j

pub storing_start : (f : ℕ → ℕ) (l : List ℕ) (d n : ℕ) → Storing f l d n l 0
storing_start f l d n = record { within = omega arith; same_length = refl; words = stored_none f l d }

module _ {f : ℕ → ℕ} {l : List ℕ} {d n : ℕ} {w : List ℕ} {j : ℕ} (so_far : Storing f l d n w j) where
  -- what is not stored yet is what stood there at the start
  pub storing_later : (i : ℕ) → d + j ≤ i → get_or w i 0 ≡ get_or l i 0
  storing_later i = stored_next f l d j w i so_far.words

  -- at the place i of a turn: it reads what stood there at the start, and it stores
  pub storing_reads_at : (i : ℕ) → i ≡ d + j → get_or w i 0 ≡ get_or l i 0
  storing_reads_at i here = storing_later i (omega arith)

  pub storing_turn_at : (i : ℕ) → i ≡ d + j → (v : ℕ) → j < n → v ≡ f j → Storing f l d n (set w i v) (j + 1)
  storing_turn_at i here v lt e = record {
    within = omega arith;
    same_length = length-set w i v ∙ so_far.same_length;
    words = rw here (stored_more f l d j w v so_far.words e);
  }

  pub storing_reads : get_or w (d + j) 0 ≡ get_or l (d + j) 0
  storing_reads = storing_reads_at (d + j) refl

  pub storing_turn : (v : ℕ) → j < n → v ≡ f j → Storing f l d n (set w (d + j) v) (j + 1)
  storing_turn = storing_turn_at (d + j) refl

  -- a turn that stores m words
  pub storing_row : (g : ℕ → ℕ) (m : ℕ) (w' : List ℕ) → j + m ≤ n → ((i : ℕ) → i < m → g i ≡ f (j + i))
      → w' ≡ stored g w (d + j) m → Storing f l d n w' (j + m)
  storing_row g m w' within same e = record {
    within = within;
    same_length = ap length e ∙ length_stored g w (d + j) m ∙ so_far.same_length;
    words = e ∙ ap (λ (x : List ℕ). stored g x (d + j) m) so_far.words ∙ stored_behind f g l d j m same;
  }

  pub storing_end : n ≤ j → w ≡ stored f l d n
  storing_end past = so_far.words ∙ ap (stored f l d) (le_antisymm so_far.within past)
