-- One column stored: the first n rows are in their lanes, every other word is as it was.
use Rattle.std.specs.Prelude.{ℕ, ◌+◌, ◌-◌, ◌*◌, ◌<◌, ◌≤◌, ◌≡◌, refl, ◌⊎◌, List, length, get_or}
use Rattle.std.proofs.Common.{sym, ◌∙◌, ap, inl, inr, ⊎_elim, arith}
use Rattle.std.proofs.Math.Decide.{dec_lt}
use Rattle.solve_lattice.specs.Room.{input_words, block_words, lanes, block_degrees, last_lane}
use Rattle.loader.specs.Slot.{slot}
use Rattle.loader.specs.Widths.{system_width}
use Rattle.reduction.specs.Flat.{flat}
use Rattle.solve_lattice.specs.LaneStored.{lane, length_lane, lane_inside, lane_outside}

-- slot k lies in the area, and the number of its coefficients fits it
pub record FitsSlot (area : List ℕ) (k : ℕ) : Type 0 where
  pub room : k * system_width + system_width ≤ length area
  pub size : get_or area (k * system_width) 0 < system_width

-- coefficient e of row i of column j
abbrev pub column_place : (j i e : ℕ) → ℕ
column_place j i e = block_words * j + flat lanes i e

-- row i is in slot first + step·i; every place is one of a row below 8 of some column
pub record ColumnStored (j : ℕ) (area : List ℕ) (first step n : ℕ) (input input' : List ℕ) : Type 0 where
  pub same_length : length input' ≡ length input
  pub rows : (i e : ℕ) → i < n → e < block_degrees → get_or input' (column_place j i e) 0
      ≡ get_or (slot system_width area (first + step * i)) e 0
  pub others : (k i e : ℕ) → i < lanes → e < block_degrees → (¬ (k ≡ j)) ⊎ (n ≤ i)
      → get_or input' (column_place k i e) 0 ≡ get_or input (column_place k i e) 0

module _ {j : ℕ} {area : List ℕ} {first step : ℕ} {input : List ℕ} where
  pub column_start : ColumnStored j area first step 0 input input
  column_start = record {
    same_length = refl;
    rows = λ i e none small. absurd (omega arith);
    others = λ k i e row small apart. refl;
  }

  module _ {n : ℕ} {before : List ℕ} (so_far : ColumnStored j area first step n input before) (row : n < lanes) (column : j ≤ lanes)
      (room : length input ≡ input_words) (f after : List ℕ) (taken : f ≡ slot system_width area (first + step * n))
      (stores : after ≡ lane (λ e. get_or f e 0) before (block_words * j + (last_lane - n)) block_degrees) where
    abbrev d : ℕ
    d = block_words * j + (last_lane - n)

    word : (e : ℕ) → e < block_degrees → get_or after (block_words * j + (last_lane - n) + lanes * e) 0 ≡ get_or f e 0
    word e small = rw stores (lane_inside (λ e. get_or f e 0) before d block_degrees e (omega (arith, so_far.same_length)) small)

    new : (e : ℕ) → e < block_degrees → get_or after (column_place j n e) 0 ≡ get_or (slot system_width area (first + step * n)) e 0
    new e small =
        let at : column_place j n e ≡ block_words * j + (last_lane - n) + lanes * e = omega arith in
        rw (at, ← taken) (word e small)

    -- the other lanes
    old : (i : ℕ) → ((e : ℕ) → e < block_degrees → ¬ (i ≡ block_words * j + (last_lane - n) + lanes * e))
        → get_or after i 0 ≡ get_or before i 0
    old i out = ap (λ l. get_or l i 0) stores ∙ lane_outside (λ e. get_or f e 0) before d block_degrees i out

    pub column_turn : ColumnStored j area first step (n + 1) input after
    column_turn = record {
      same_length = ap length stores ∙ length_lane (λ e. get_or f e 0) before d block_degrees ∙ so_far.same_length;
      rows = λ i e lt small. row_is i e small (dec_lt i n) lt;
      others = λ k i e lt small apart. old (column_place k i e) (apart_from k i e lt small apart) ∙ so_far.others k i e lt small
          (⊎_elim inl (λ ge. inr (omega arith)) apart);
    }
      where
        row_is : (i e : ℕ) → e < block_degrees → Dec (i < n) → i < n + 1
            → get_or after (column_place j i e) 0 ≡ get_or (slot system_width area (first + step * i)) e 0
        row_is i e small (yes lt) more = old (column_place j i e) (λ g little q. omega arith) ∙ so_far.rows i e lt small
        row_is i e small (no ge) more =
            let last : n ≡ i = omega arith in
            ap (λ r. get_or after (column_place j r e) 0) (sym last)
            ∙ new e small
            ∙ ap (λ r. get_or (slot system_width area (first + step * r)) e 0) last

        apart_from : (k i e : ℕ) → i < lanes → e < block_degrees → (¬ (k ≡ j)) ⊎ (n + 1 ≤ i)
            → (g : ℕ) → g < block_degrees → ¬ (column_place k i e ≡ block_words * j + (last_lane - n) + lanes * g)
        apart_from k i e lt small apart g little q = ⊎_elim (λ other. other (omega arith)) (λ ge. omega arith) apart
