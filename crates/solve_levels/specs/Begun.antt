-- The hand (column | 1) beside a level with tails 0, in the terms of `solve_lattice` and `reduction`: memory is in order, an
-- insertion can start, and it holds the state in which `reduction` begins to insert the column.
use Rattle.std.specs.Prelude.{ℕ, zero, suc, ◌+◌, ◌-◌, ◌%◌, ◌<◌, ◌≤◌, ◌≡◌, refl, List, length, get_or, set}
use Rattle.std.proofs.Common.{sym, ◌∙◌, ap, zero-add, mod-eq_of_lt, arith, length-set, get_or-set_same, get_or-set_other}
use Rattle.std.proofs.Math.Nat.{zero-mod}
use Rattle.std.proofs.Math.Decide.{ℕ_discrete}
use Rattle.std.proofs.Math.ListN.{get_or-eq_default}
use Rattle.algebra.specs.Series.{unit}
use Rattle.algebra.specs.Polynomial.{Polynomial, polynomials, coefficients_one}
use Rattle.modular.specs.Prime.{Prime}
use Rattle.modular.specs.Residue.{residues}
use Rattle.vector.specs.Bound.{AtMost}
use Rattle.reduction.specs.Total.{total_le, total_constant}
use Rattle.reduction.specs.Slots.{Slots}
use Rattle.reduction.specs.Inserting.{cleared, begin}
use Rattle.reduction.specs.Holds.{Holds}
use Rattle.reduction.specs.Flat.{Flat}
use Rattle.solve_lattice.specs.Word.{words, words_first, residue_one}
use Rattle.solve_lattice.specs.declared.hand.Hand.{Hand}
use Rattle.solve_lattice.specs.Memory.{height, Ends, ZeroFrom, Sums, Level, slot_size, tail_size, ValidLevel, memory, places}
use Rattle.solve_lattice.specs.Memory.{ValidHand}
use Rattle.solve_lattice.specs.Holding.{HoldsSlots, HoldsState}
use Rattle.solve_lattice.specs.Range.{words_zero, words_shorter, ends_same}
use Rattle.solve_lattice.specs.Sums.{sums_fewer}
use Rattle.solve_lattice.specs.Reading.{flat_same}
use Rattle.solve_lattice.specs.Insertion.{Starts}
use Rattle.solve_lattice.specs.Room.{product_words, slot_places, block_words, tail_words, lanes}
use Rattle.solve_lattice.specs.SameBlocks.{held_extend}

-- a column in memory: a block of 128 words, of which so many count, in sums with room for an insertion
pub record ValidColumn (p : ℕ) (column : List ℕ) (size : ℕ) : Type 0 where
  pub room : length column ≡ block_words
  pub ends : Ends p column 0 block_words size
  pub sums : Sums p (slot_places + size) column

abbrev pub begun : ℕ → List ℕ → ℕ → Hand
begun p column size = record { size = size; leading = get_or column (size - 1) 0 % p; tail_size = 1 }

module _ {p : ℕ} (prime₀ : Prime p) {column : List ℕ} {size : ℕ} (valid : ValidColumn p column size) (tail : List ℕ)
    (tail_length : length tail ≡ tail_words) (none : AtMost 0 tail) where
  abbrev tail' : List ℕ
  tail' = set tail 0 1

  behind : ZeroFrom p column 0 product_words block_words
  behind j ge lt = ap (λ w. w % p) (get_or-eq_default column 0 (omega (arith, valid.room))) ∙ zero-mod p

  column_words : (prime : Prime p) (x : ℕ) → words p prime column 0 block_words x ≡ words p prime column 0 product_words x
  column_words prime x = sym (words_shorter p prime column 0 product_words block_words (omega arith) behind x)

  tail_first : get_or tail' 0 0 ≡ 1
  tail_first = get_or-set_same tail 0 1 0 (omega arith)

  tail_behind : (j : ℕ) → 1 ≤ j → get_or tail' (0 + j) 0 ≡ 0
  tail_behind j ge =
      let zero : get_or tail (0 + j) 0 ≡ 0 = omega (arith, none (0 + j)) in
      get_or-set_other tail 0 (0 + j) 1 0 (λ e. omega arith) ∙ zero

  tail_zero : ZeroFrom p tail' 0 tail_words 1
  tail_zero j h lt = ap (λ w. w % p) (tail_behind j h) ∙ zero-mod p

  tail_most : (i : ℕ) → get_or tail' i 0 < p
  tail_most i = go (ℕ_discrete i 0)
    where
      go : Dec (i ≡ 0) → get_or tail' i 0 < p
      go (yes e) = omega (arith, ap (λ x. get_or tail' x 0) e, tail_first, prime₀.large)
      go (no e) = omega (arith, ap (λ x. get_or tail' x 0) (zero-add i), tail_behind i (omega arith), prime₀.large)

  pub begun_valid : {L : Level} → ValidLevel p L → ValidHand p (memory L column (set tail 0 1) (begun p column size))
  begun_valid {L} level = record {
    room = omega (arith, valid.room);
    degrees = omega (arith, valid.room, valid.ends.within);
    tail_room = omega (arith, length-set tail 0 1);
    block = ends_same p prime₀ column column 0 0 block_words product_words (column_words prime₀) size
        (omega (arith, valid.ends.within))
        valid.ends;
    leading = λ some. refl;
    tail_within = omega arith;
    tail = tail_zero;
    sums = sums_fewer p column (slot_places + size) (places (memory L column tail' (begun p column size)))
        (omega (
          arith,
          total_le lanes (slot_size L) (λ q. block_words) (λ q h. (level.slot q h).block.within),
          total_constant lanes block_words,
        )) valid.sums;
    tail_sums = λ i. omega (arith, tail_most i);
  }

  pub begun_starts : {L : Level} → ((q : ℕ) → q < lanes → tail_size L q ≡ 0)
      → Starts p (memory L column (set tail 0 1) (begun p column size))
  begun_starts tails = record {
    tails = tails;
    tail = refl;
    one = ap (λ w. w % p) tail_first ∙ mod-eq_of_lt prime₀.large;
  }

  module _ (prime : Prime p) (n : ℕ) (ω : ℕ → ℕ) where
    tail_one_lem : Holds (residues p prime) (words p prime tail' 0 tail_words) (polynomials (residues p prime)).one
    tail_one_lem = record { at = λ k. coefficients_one (residues p prime) k ∙ at k }
      where
        at : (k : ℕ) → unit (residues p prime).ring k ≡ words p prime tail' 0 tail_words k
        at zero = sym (words_first p prime tail' tail_words 0 (omega arith)
            ∙ residue_one p prime _ (ap (λ w. w % p) tail_first ∙ mod-eq_of_lt prime₀.large))
        at (suc k) = sym (words_zero p prime tail' 0 tail_words 1 tail_zero (suc k) (omega arith))

    pub begun_holds : {L : Level} (U : Slots (Polynomial (residues p prime))) (a : ℕ → Polynomial (residues p prime))
        → HoldsSlots p prime n ω L (cleared (polynomials (residues p prime)) n U)
        → Flat (residues p prime) n lanes ω (words p prime column 0 block_words) a
        → HoldsState p prime n ω (memory L column (set tail 0 1) (begun p column size))
        (begin (polynomials (residues p prime)) n U a (height size))
    begun_holds U a slots A = record {
      slots = slots;
      hand = held_extend (flat_same (column_words prime) A) tail_one_lem;
      size = refl;
    }
