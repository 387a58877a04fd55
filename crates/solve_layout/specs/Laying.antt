-- What is loaded from the words of a line and laid out is its system, as the solver takes it.
use Rattle.std.specs.Prelude.{ℕ, ◌+◌, ◌-◌, ◌*◌, ◌/◌, ◌%◌, ◌<◌, ◌≤◌, ◌≡◌, List, [], ◌++◌, length, get_or}
use Rattle.std.proofs.Common.{sym, ◌∙◌, ap, subst, subst₂, inl, inr, mul-le-mul, arith, length-append, get_or-append-add}
use Rattle.std.proofs.Math.Decide.{ℕ_discrete, dec_lt}
use Rattle.std.proofs.Math.ListN.{get_or-append}
use Rattle.words.specs.Limits.{office}
use Rattle.words.specs.LimitsLaws.{office_fits}
use Rattle.words.specs.Outcome.{mapped}
use Rattle.words.specs.Outcome.Outcome.{accepted}
use Rattle.words.specs.OutcomeLaws.{mapped_accepted}
use Rattle.words.specs.System.{System, Shape, SystemWithin, shape, entry, side_entry}
use Rattle.words.specs.SystemLaws.{entry_within, side_entry_within}
use Rattle.words.specs.Systems.{read_line}
use Rattle.words.proofs.LineLaws.{line_written_of_read, line_in_within}
use Rattle.words.specs.VectorLaws.{all_at, vector_append}
use Rattle.words.specs.Starts.{line_entries, HasEntries}
use Rattle.words.proofs.FramedLaws.{LineEntriesRead, line_entries_read}
use Rattle.vector.specs.Bound.{AtMost}
use Rattle.loader.specs.Slot.{InSlots}
use Rattle.loader.specs.SlotLaws.{slot_before, canonical_word, line_stands}
use Rattle.loader.specs.Widths.{system_width, line_polynomials}
use Rattle.solve_meaning.specs.Laid.{SystemLaid}
use Rattle.solve_meaning.specs.SystemIn.{system_in_lanes, SystemArea}
use Rattle.solve_meaning.specs.SystemInLaws.{laid_read}
use Rattle.solve_lattice.specs.Room.{input_words, block_words, lanes, block_degrees, last_lane}
use Rattle.solve_layout.specs.Column.{FitsSlot, column_place}
use Rattle.solve_layout.specs.Matrix.{LaidOut, matrix_slot}

-- line k of the words was read as s, which has so many rows and columns
pub record ReadAs (s : System) (k : ℕ) (ws : List ℕ) (rows columns : ℕ) : Type 0 where
  pub read : read_line office k ws ≡ accepted s
  pub same_rows : s.rows ≡ rows
  pub same_columns : s.columns ≡ columns

module _ {s : System} {k : ℕ} {ws : List ℕ} {rows columns : ℕ} (R : ReadAs s k ws rows columns) where
  within : SystemWithin office s
  within = line_in_within office office_fits k ws (line_written_of_read office office_fits k ws R.read)

  pub few_rows : rows ≤ lanes
  few_rows = subst (λ n. n ≤ lanes) R.same_rows within.shape.rows.1

  pub few_columns : columns ≤ lanes
  few_columns = subst (λ n. n ≤ lanes) R.same_columns within.shape.columns.1

  -- there are at most line_polynomials polynomials
  pub few_entries : rows * columns ≤ lanes * lanes
  few_entries = mul-le-mul few_rows few_columns

  entries_read : LineEntriesRead office.system_coefficients k ws s
  entries_read = line_entries_read office office_fits ws k s R.read

  pub has_entries : HasEntries office.system_coefficients (rows * columns + k * rows + rows) ws
  has_entries =
      subst₂ (λ n m. HasEntries office.system_coefficients (n * m + k * n + n) ws) R.same_rows R.same_columns
      entries_read.has

  module _ (area : List ℕ) (room : length area ≡ line_polynomials * system_width)
      (loaded : InSlots system_width area (line_entries ws rows columns k)) where
    stands : InSlots system_width area (s.matrix ++ s.side)
    stands =
        line_stands entries_read
        (subst₂ (λ n m. InSlots system_width area (line_entries ws n m k)) (sym R.same_rows) (sym R.same_columns) loaded)

    pub loaded_fits : (j : ℕ) → j < rows * columns + rows → FitsSlot area j
    loaded_fits j lt =
        let all = vector_append s.modulus office.system_coefficients within.matrix within.side in
        let small = (all_at s.modulus office.system_coefficients (s.matrix ++ s.side) all.entries j).size in
        let count : length (s.matrix ++ s.side) ≡ rows * columns + rows =
        subst₂ (λ n m. length (s.matrix ++ s.side) ≡ n * m + n) R.same_rows R.same_columns all.count in
        record {
          room = omega (arith, slot_before system_width lt, few_entries, few_rows);
          size = omega (arith, stands.sizes j (omega arith));
        }

    module _ (input input' : List ℕ) (length_is : length input ≡ input_words) (clear : AtMost 0 input)
        (out : LaidOut area rows columns input input') where
      laid_out : LaidOut area s.rows s.columns input input'
      laid_out = subst₂ (λ n m. LaidOut area n m input input') (sym R.same_rows) (sym R.same_columns) out

      count : length s.matrix ≡ s.rows * s.columns
      count = within.matrix.count

      matrix_is : (i j e : ℕ) → i < s.rows → j < s.columns → e < block_degrees
          → get_or input' (column_place j i e) 0 ≡ get_or (entry s i j) e 0
      matrix_is i j e row column small =
          let at : j + s.columns * i ≡ i * s.columns + j = omega arith in
          let inside : j + s.columns * i < length s.matrix =
          omega (arith, count, matrix_slot s.rows s.columns i j row column) in
          laid_out.matrix i j e row column small
          ∙ ap (λ f. get_or f e 0)
          (stands.slots (j + s.columns * i) (omega (arith, length-append s.matrix s.side))
          ∙ get_or-append s.matrix s.side [] (j + s.columns * i) inside
          ∙ ap (λ n. get_or s.matrix n []) at)

      side_is : (i e : ℕ) → i < s.rows → e < block_degrees → get_or input' (column_place s.columns i e) 0 ≡ get_or (side_entry s i) e 0
      side_is i e row small =
          let at : s.rows * s.columns + 1 * i ≡ length s.matrix + i = omega (arith, count) in
          let inside : s.rows * s.columns + 1 * i < length (s.matrix ++ s.side) =
          omega (arith, count, length-append s.matrix s.side, within.side.count) in
          laid_out.side i e row small
          ∙ ap (λ f. get_or f e 0)
          (stands.slots (s.rows * s.columns + 1 * i) inside
          ∙ ap (λ n. get_or (s.matrix ++ s.side) n []) at
          ∙ get_or-append-add s.matrix s.side i [])

      other_is : (j i e : ℕ) → get_or input' (column_place j i e) 0 ≡ get_or input (column_place j i e) 0
          → get_or input' (column_place j i e) 0 ≡ 0
      other_is j i e same = omega (arith, clear (column_place j i e))

      positive : 0 < s.modulus
      positive = omega (arith, within.shape.prime.large)

      below_at : (j i e : ℕ) → i < lanes → e < block_degrees → Dec (i < s.rows) → Dec (j < s.columns) → Dec (j ≡ s.columns)
          → get_or input' (column_place j i e) 0 < s.modulus
      below_at j i e row small (yes r) (yes c) d = subst (λ w. w < s.modulus) (sym (matrix_is i j e r c small))
          (canonical_word s.modulus positive (entry s i j) (entry_within office s within i j).canonical e)
      below_at j i e row small (yes r) (no c) (yes d) = subst (λ w. w < s.modulus)
          (sym (ap (λ k. get_or input' (column_place k i e) 0) d ∙ side_is i e r small))
          (canonical_word s.modulus positive (side_entry s i) (side_entry_within office s within i).canonical e)
      below_at j i e row small (yes r) (no c) (no d) = subst (λ w. w < s.modulus)
          (sym (other_is j i e (laid_out.others j i e row small (inl (omega arith))))) positive
      below_at j i e row small (no r) c d = subst (λ w. w < s.modulus)
          (sym (other_is j i e (laid_out.others j i e row small (inr (omega arith))))) positive

      -- every place is one of some column, row and degree
      below : (x : ℕ) → get_or input' x 0 < s.modulus
      below x =
          let j : ℕ = x / block_words in
          let i : ℕ = last_lane - x % lanes in
          let e : ℕ = x % block_words / lanes in
          let is : column_place (x / block_words) (last_lane - x % lanes) (x % block_words / lanes) ≡ x = omega arith in
          subst (λ y. get_or input' y 0 < s.modulus) is
          (below_at j i e (omega arith) (omega arith) (dec_lt i s.rows) (dec_lt j s.columns) (ℕ_discrete j s.columns))

      system_laid : SystemLaid s input'
      system_laid = record {
        area = record {
          room = laid_out.same_length ∙ length_is;
          below = below;
          beside = λ i j e ge row column small. other_is j i e (laid_out.others j i e row small (inr ge));
        };
        matrix = matrix_is;
        side = side_is;
      }

      -- it is read back
      pub laid_back : SystemArea (shape s) input' × (read_line office k ws ≡ accepted (system_in_lanes (shape s) input'))
      laid_back = (system_laid.area, R.read ∙ ap accepted (sym (laid_read s within system_laid)))

-- by the shape that was read
module _ {h : Shape} (k : ℕ) (ws : List ℕ) (told : mapped shape (read_line office k ws) ≡ accepted h) where
  abbrev found : (s : System) × (read_line office k ws ≡ accepted s) × (shape s ≡ h)
  found = mapped_accepted shape (read_line office k ws) told

  pub told_as : ReadAs found.0 k ws h.rows h.columns
  told_as = record {
    read = found.1;
    same_rows = ap (λ (g : Shape). g.rows) found.2;
    same_columns = ap (λ (g : Shape). g.columns) found.2;
  }

  pub told_back : (input : List ℕ)
      → SystemArea (shape found.0) input × (read_line office k ws ≡ accepted (system_in_lanes (shape found.0) input))
      → SystemArea h input × (read_line office k ws ≡ accepted (system_in_lanes h input))
  told_back input =
      subst (λ (g : Shape). SystemArea g input × (read_line office k ws ≡ accepted (system_in_lanes g input))) found.2
