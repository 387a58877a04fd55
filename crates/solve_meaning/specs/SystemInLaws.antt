-- What is read from the input area: what was laid out there; and from any area with words below p and nothing beside the rows, a
-- system within the limits that is laid out there.
use Rattle.std.specs.Prelude.{ℕ, ◌+◌, ◌*◌, ◌/◌, ◌%◌, ◌<◌, ◌≡◌, List, []}
use Rattle.std.proofs.Math.Path.{sym}
use Rattle.std.proofs.Common.{◌∙◌, ap, ap₂, arith, mod-lt, div-add-mod', mul-le-mul_right, div-lt_iff_lt-mul}
use Rattle.std.proofs.Math.Nat.{zero-mod, mod-eq_of_lt, mul-add-mod_self_right, mul-add-div_right, div-eq_of_lt}
use Rattle.std.proofs.Math.Decide.{dec_lt}
use Rattle.std.proofs.Math.ListN.{get_or, get_or-eq_default}
use Rattle.algebra.specs.Coefficients.{coefficient}
use Rattle.modular.specs.Primality.{prime_positive}
use Rattle.modular.specs.Modulo.{modulo}
use Rattle.modular.specs.Coefficientwise.{coefficient_get_or, coefficient_beyond, length_bound}
use Rattle.vector.specs.Reduced.{reduced, residue_same, reduced_is, canonical_reduced, coefficient_reduced}
use Rattle.reduction.specs.Flat.{flat}
use Rattle.words.specs.Limits.{office}
use Rattle.words.specs.Polynomial.{Within}
use Rattle.words.specs.System.{System, Shape, ShapeWithin, SystemWithin, shape, entry, side_entry}
use Rattle.words.specs.SystemLaws.{entry_within, side_entry_within}
use Rattle.solve_lattice.specs.Room.{block_words, lanes, block_degrees}
use Rattle.truth.specs.Listed.{listed, length_listed, listed_at, listed_is}
use Rattle.solve_meaning.specs.Listed.{vector_listed}
use Rattle.solve_meaning.specs.SystemIn.{lane_polynomial, system_in_lanes, SystemArea}
use Rattle.solve_meaning.specs.Laid.{SystemLaid}

-- one lane
module _ (p : ℕ) (positive : 0 < p) (input : List ℕ) (b i : ℕ) where
  abbrev lane : List ℕ
  lane = listed block_degrees (λ e. get_or input (b + flat lanes i e) 0)

  lane_behind : (e : ℕ) → ¬ (e < block_degrees) → get_or (listed block_degrees (λ e. get_or input (b + flat lanes i e) 0)) e 0 ≡ 0
  lane_behind e h = get_or-eq_default lane 0 (omega (arith, length_listed block_degrees (λ e. get_or input (b + flat lanes i e) 0)))

  lane_within : Within p block_degrees (lane_polynomial p input b i)
  unfolding lane_polynomial
  lane_within = record {
    canonical = canonical_reduced p positive lane;
    size = length_bound p _ block_degrees (canonical_reduced p positive lane) (λ e h.
        coefficient_reduced p positive lane e ∙ residue_same p (lane_behind e (omega arith)) ∙ zero-mod p);
  }

  -- words below p are the coefficients
  lane_word : (e : ℕ) → e < block_degrees → get_or input (b + flat lanes i e) 0 < p
      → get_or (lane_polynomial p input b i) e 0 ≡ get_or input (b + flat lanes i e) 0
  unfolding lane_polynomial
  lane_word e h small =
      sym (coefficient_get_or p (reduced p lane) e)
      ∙ coefficient_reduced p positive lane e
      ∙ residue_same p (listed_at block_degrees (λ e. get_or input (b + flat lanes i e) 0) 0 e h)
      ∙ mod-eq_of_lt small

  -- words that are the coefficients of f stand for f
  lane_is : (f : List ℕ) → Within p block_degrees f → ((e : ℕ) → e < block_degrees → get_or input (b + flat lanes i e) 0 ≡ get_or f e 0)
      → ((e : ℕ) → get_or input e 0 < p) → lane_polynomial p input b i ≡ f
  unfolding lane_polynomial
  lane_is f h same below = reduced_is p positive lane f h.canonical (λ e. at e (dec_lt e block_degrees))
    where
      at : (e : ℕ) → Dec (e < block_degrees)
          → get_or (listed block_degrees (λ e. get_or input (b + flat lanes i e) 0)) e 0 % p ≡ coefficient (modulo p) f e
      at e (yes k) =
          residue_same p (listed_at block_degrees (λ e. get_or input (b + flat lanes i e) 0) 0 e k)
          ∙ mod-eq_of_lt (below (b + flat lanes i e))
          ∙ same e k
          ∙ sym (coefficient_get_or p f e)
      at e (no k) =
          residue_same p (lane_behind e k)
          ∙ zero-mod p
          ∙ sym (coefficient_beyond p f e (omega (arith, h.size)))

-- number k of n·m, row by row, is that of row k / m and column k % m
module _ (n m : ℕ) (some : 0 < m) where
  row_inside : (k : ℕ) → k < n * m → k / m < n
  row_inside k h = (div-lt_iff_lt-mul some).1 h

  number_inside : (i j : ℕ) → i < n → j < m → i * m + j < n * m
  number_inside i j row column = omega (arith, mul-le-mul_right m row)

  row_of : (i j : ℕ) → j < m → (i * m + j) / m ≡ i
  row_of i j h = omega (arith, mul-add-div_right some i j, div-eq_of_lt h)

  column_of : (i j : ℕ) → j < m → (i * m + j) % m ≡ j
  column_of i j h = mul-add-mod_self_right i m j ∙ mod-eq_of_lt h

module _ (s : System) (h : SystemWithin office s) {input : List ℕ} (L : SystemLaid s input) where
  positive : 0 < s.modulus
  positive = prime_positive s.modulus h.shape.prime

  entry_is : (k : ℕ) → k < s.rows * s.columns
      → lane_polynomial s.modulus input (block_words * (k % s.columns)) (k / s.columns) ≡ get_or s.matrix k []
  entry_is k lt =
      let some : 0 < s.columns = omega (arith, h.shape.columns.0) in
      let i : ℕ = k / s.columns in
      let j : ℕ = k % s.columns in
      lane_is s.modulus positive input (block_words * j) i (entry s i j) (entry_within office s h i j)
      (λ e. L.matrix i j e (row_inside s.rows s.columns some k lt) (mod-lt k some)) L.area.below
      ∙ ap (λ x. get_or s.matrix x []) (div-add-mod' k s.columns)

  -- what is laid out is read
  pub laid_read : system_in_lanes (shape s) input ≡ s
  laid_read =
      ap₂ (λ A b. record { modulus = s.modulus; rows = s.rows; columns = s.columns; matrix = A; side = b })
      (listed_is (s.rows * s.columns) (λ k. lane_polynomial s.modulus input (block_words * (k % s.columns)) (k / s.columns))
      s.matrix
      [] h.matrix.count entry_is)
      (listed_is s.rows (lane_polynomial s.modulus input (block_words * s.columns)) s.side [] h.side.count
      (λ i row. lane_is s.modulus positive input (block_words * s.columns) i (side_entry s i) (side_entry_within office s h i)
      (λ e. L.side i e row) L.area.below))

module _ (h : Shape) (within : ShapeWithin office h) (input : List ℕ) where
  pub read_within : SystemWithin office (system_in_lanes h input)
  read_within = record {
    shape = within;
    matrix = vector_listed h.modulus block_degrees (h.rows * h.columns) _ (λ k lt. lane_within h.modulus
        (prime_positive h.modulus within.prime) input (block_words * (k % h.columns)) (k / h.columns));
    side = vector_listed h.modulus block_degrees h.rows _ (λ i row. lane_within h.modulus
        (prime_positive h.modulus within.prime) input (block_words * h.columns) i);
  }

  module _ (area : SystemArea h input) where
    word : (b i e : ℕ) → e < block_degrees → get_or input (b + flat lanes i e) 0 ≡ get_or (lane_polynomial h.modulus input b i) e 0
    word b i e small =
        sym (lane_word h.modulus (prime_positive h.modulus within.prime) input b i e small
        (area.below (b + flat lanes i e)))

    entry_read : (i j : ℕ) → i < h.rows → j < h.columns
        → entry (system_in_lanes h input) i j ≡ lane_polynomial h.modulus input (block_words * j) i
    entry_read i j row column =
        let some : 0 < h.columns = omega arith in
        listed_at (h.rows * h.columns) (λ k. lane_polynomial h.modulus input (block_words * (k % h.columns)) (k / h.columns))
        []
        (i * h.columns + j) (number_inside h.rows h.columns some i j row column)
        ∙ ap₂ (λ c r. lane_polynomial h.modulus input (block_words * c) r) (column_of h.rows h.columns some i j column)
        (row_of h.rows h.columns some i j column)

    -- what is read is laid out
    pub read_laid : SystemLaid (system_in_lanes h input) input
    read_laid = record {
      area = area;
      matrix = λ i j e row column small.
          word (block_words * j) i e small ∙ sym (ap (λ f. get_or f e 0) (entry_read i j row column));
      side = λ i e row small.
          word (block_words * h.columns) i e small
          ∙ sym (ap (λ f. get_or f e 0) (listed_at h.rows (lane_polynomial h.modulus input (block_words * h.columns)) [] i row));
    }
