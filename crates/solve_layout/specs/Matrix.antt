-- The columns of a matrix stored, and the right side behind them.
use Rattle.std.specs.Prelude.{ℕ, ◌+◌, ◌*◌, ◌<◌, ◌≤◌, ◌≡◌, refl, ◌⊎◌, List, length, get_or}
use Rattle.std.proofs.Common.{sym, ◌∙◌, ap, inl, inr, ⊎_elim, mul-le-mul_right, arith}
use Rattle.std.proofs.Math.Decide.{dec_lt}
use Rattle.solve_lattice.specs.Room.{lanes, block_degrees}
use Rattle.loader.specs.Slot.{slot}
use Rattle.loader.specs.Widths.{system_width}
use Rattle.solve_layout.specs.Column.{column_place, ColumnStored}

-- A lies row by row in the first slots
pub matrix_slot : (rows columns i j : ℕ) → i < rows → j < columns → j + columns * i < rows * columns
matrix_slot rows columns i j row lt = omega (arith, mul-le-mul_right columns row)

-- the first m columns; row i of column j is in slot j + columns·i
pub record ColumnsStored (area : List ℕ) (rows columns m : ℕ) (input input' : List ℕ) : Type 0 where
  pub same_length : length input' ≡ length input
  pub matrix : (i j e : ℕ) → i < rows → j < m → e < block_degrees
      → get_or input' (column_place j i e) 0 ≡ get_or (slot system_width area (j + columns * i)) e 0
  pub others : (j i e : ℕ) → i < lanes → e < block_degrees → (m ≤ j) ⊎ (rows ≤ i)
      → get_or input' (column_place j i e) 0 ≡ get_or input (column_place j i e) 0

-- all of them, and b in column number `columns`
pub record LaidOut (area : List ℕ) (rows columns : ℕ) (input input' : List ℕ) : Type 0 where
  pub same_length : length input' ≡ length input
  pub matrix : (i j e : ℕ) → i < rows → j < columns → e < block_degrees
      → get_or input' (column_place j i e) 0 ≡ get_or (slot system_width area (j + columns * i)) e 0
  pub side : (i e : ℕ) → i < rows → e < block_degrees
      → get_or input' (column_place columns i e) 0 ≡ get_or (slot system_width area (rows * columns + 1 * i)) e 0
  pub others : (j i e : ℕ) → i < lanes → e < block_degrees → (columns < j) ⊎ (rows ≤ i)
      → get_or input' (column_place j i e) 0 ≡ get_or input (column_place j i e) 0

module _ {area : List ℕ} {rows columns : ℕ} {input : List ℕ} where
  pub columns_start : ColumnsStored area rows columns 0 input input
  columns_start = record {
    same_length = refl;
    matrix = λ i j e row none small. absurd (omega arith);
    others = λ j i e row small apart. refl;
  }

  module _ {m : ℕ} {before after : List ℕ} (so_far : ColumnsStored area rows columns m input before) (few : rows ≤ lanes) where
    pub columns_turn : ColumnStored m area m columns rows before after → ColumnsStored area rows columns (m + 1) input after
    columns_turn next = record {
      same_length = next.same_length ∙ so_far.same_length;
      matrix = λ i j e row lt small. column_is i j e row small (dec_lt j m) lt;
      others = λ j i e row small apart. next.others j i e row small (⊎_elim (λ ge. inl (λ q. omega arith)) inr apart)
          ∙ so_far.others j i e row small (⊎_elim (λ ge. inl (omega arith)) inr apart);
    }
      where
        column_is : (i j e : ℕ) → i < rows → e < block_degrees → Dec (j < m) → j < m + 1
            → get_or after (column_place j i e) 0 ≡ get_or (slot system_width area (j + columns * i)) e 0
        column_is i j e row small (yes lt) more =
            next.others j i e (omega arith) small (inl (λ q. omega arith)) ∙ so_far.matrix i j e row lt small
        column_is i j e row small (no ge) more =
            let last : m ≡ j = omega arith in
            ap (λ k. get_or after (column_place k i e) 0) (sym last)
            ∙ next.rows i e row small
            ∙ ap (λ k. get_or (slot system_width area (k + columns * i)) e 0) last

    pub columns_end : m ≡ columns → ColumnStored columns area (rows * columns) 1 rows before after
        → LaidOut area rows columns input after
    columns_end all last = record {
      same_length = last.same_length ∙ so_far.same_length;
      matrix = λ i j e row lt small.
          last.others j i e (omega arith) small (inl (λ q. omega arith)) ∙ so_far.matrix i j e row (omega arith) small;
      side = last.rows;
      others = λ j i e row small apart. last.others j i e row small (⊎_elim (λ gt. inl (λ q. omega arith)) inr apart)
          ∙ so_far.others j i e row small (⊎_elim (λ gt. inl (omega arith)) inr apart);
    }
