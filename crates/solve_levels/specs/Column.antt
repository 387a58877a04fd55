-- A column divided by the slots of a level: what is left of it, in sums, and its coefficients in the blocks of the slots.
use Rattle.std.specs.Prelude.{ℕ, ◌+◌, ◌%◌, ◌<◌, ◌≤◌, ◌≡◌, refl, List, [], ◌∷◌, length, get_or}
use Rattle.std.proofs.Common.{sym, ◌∙◌, ap, inr, ⊎_elim, arith}
use Rattle.std.proofs.Math.Nat.{zero-mod}
use Rattle.std.proofs.Math.ListN.{get_or-eq_default}
use Rattle.solve_lattice.specs.Room.{product_words, slot_places, block_words, lanes, most_places}
use Rattle.ring.specs.Identity.{quotes, identity}
use Rattle.ring.specs.Ring.{Ring}
use Rattle.ring.specs.Combination.{given, combination}
use Rattle.algebra.specs.Polynomial.{Polynomial, polynomials}
use Rattle.modular.specs.Prime.{Prime}
use Rattle.modular.specs.Residue.{residues}
use Rattle.vector.specs.Stored.{stored, stored_inside, stored_outside, below_or_not}
use Rattle.vector.specs.Bound.{AtMost, at_most_stored}
use Rattle.reduction.specs.Slots.{Slots, unweighted}
use Rattle.reduction.specs.Span.{combined, InSpan}
use Rattle.reduction.specs.Division.{slot_quotient, quotient_empty, division_equal}
use Rattle.reduction.specs.Flat.{Flat}
use Rattle.solve_lattice.specs.Word.{residue, words, words_inside, words_behind}
use Rattle.solve_lattice.specs.Memory.{Level, ZeroFrom, Ends, Sums}
use Rattle.solve_lattice.specs.Holding.{HoldsSlots}
use Rattle.solve_lattice.specs.Range.{words_zero, words_shorter, ends_most, ends_same}
use Rattle.solve_lattice.specs.Reading.{flat_same}
use Rattle.solve_lattice.specs.Quotients.{DividedSoFar, Dividend, BlockDivided}
use Rattle.solve_lattice.specs.Coefficients.{HoldsCoefficients}

-- a vector is left of the column, which is in the span but for that
pub record HoldsLeft (p : ℕ) (prime : Prime p) (n : ℕ) (U : Slots (Polynomial (residues p prime)))
    (column : ℕ → Polynomial (residues p prime)) (rest factors : List ℕ) : Type 0 where
  pub vector : ℕ → Polynomial (residues p prime)
  pub holds : Flat (residues p prime) n lanes unweighted (words p prime rest 0 block_words) vector
  pub coefficients : HoldsCoefficients p prime n U
      (λ k. (polynomials (residues p prime)).add (column k) ((polynomials (residues p prime)).neg (vector k))) factors

pub record DividedByLevel (p : ℕ) (L : Level) (input : List ℕ) (at : ℕ) (rest factors : List ℕ) (left : ℕ) : Type 0 where
  pub room : length rest ≡ block_words
  pub sums : Sums p (slot_places + left) rest
  pub factors_below : (i : ℕ) → get_or factors i 0 < p
  pub ends : Ends p rest 0 block_words left
  -- of a column in the span nothing is left
  pub whole : (prime : Prime p) (n : ℕ) (U : Slots (Polynomial (residues p prime))) (column : ℕ → Polynomial (residues p prime))
      → HoldsSlots p prime n unweighted L U → Flat (residues p prime) n lanes unweighted (words p prime input at block_words) column
      → InSpan (polynomials (residues p prime)) n n U column → left ≡ 0
  pub divides : (prime : Prime p) (n : ℕ) (U : Slots (Polynomial (residues p prime))) (column : ℕ → Polynomial (residues p prime))
      → HoldsSlots p prime n unweighted L U → Flat (residues p prime) n lanes unweighted (words p prime input at block_words) column
      → HoldsLeft p prime n U column rest factors

-- 128 words of the input, copied to a block of zeros
module _ (p : ℕ) (input : List ℕ) (at : ℕ) (zeros : List ℕ) (long : length zeros ≡ block_words) (none : AtMost 0 zeros) where
  abbrev block : List ℕ
  block = stored (λ i. get_or input (at + i) 0) zeros 0 block_words

  pub copied_zero : ZeroFrom p (stored (λ i. get_or input (at + i) 0) zeros 0 block_words) 0 product_words block_words
  copied_zero i ge lt =
      let empty : get_or zeros (0 + i) 0 ≡ 0 = omega (arith, none (0 + i)) in
      ap (λ w. w % p) (stored_outside (λ i. get_or input (at + i) 0) zeros 0 block_words (0 + i) (inr (omega arith)) ∙ empty)
      ∙ zero-mod p

  pub copied_sums : ((i : ℕ) → get_or input i 0 < p) → Sums p most_places (stored (λ i. get_or input (at + i) 0) zeros 0 block_words)
  copied_sums below i = omega (
    arith,
    at_most_stored p (λ i. get_or input (at + i) 0) zeros 0 block_words (λ k lt. omega (arith, below (at + k)))
        (λ k. omega (arith, none k)) i,
  )

  copied_words : (prime : Prime p) (x : ℕ) → words p prime input at block_words x ≡ words p prime block 0 product_words x
  copied_words prime x =
      ⊎_elim
      (λ lt. words_inside p prime input at block_words x lt
      ∙ ap (λ w. residue p prime w) (sym (stored_inside (λ i. get_or input (at + i) 0) zeros 0 block_words x (omega arith) lt))
      ∙ sym (words_inside p prime block 0 product_words x (omega arith)))
      (λ ge. words_behind p prime input at block_words x ge ∙ sym
      (words_zero p prime block 0 product_words block_words copied_zero x ge))
      (below_or_not x block_words)

  -- divided
  module _ (prime₀ : Prime p) {L : Level} {block₀ rest factors : List ℕ} {left : ℕ}
      (copied : block₀ ≡ stored (λ i. get_or input (at + i) 0) zeros 0 block_words) (done : BlockDivided p L block₀ rest factors left)
      (room : length rest ≡ block_words) where
    nothing : ZeroFrom p rest 0 product_words block_words
    nothing j ge lt = ap (λ w. w % p) (get_or-eq_default rest 0 (omega (arith, room))) ∙ zero-mod p

    rest_words : (prime : Prime p) (x : ℕ) → words p prime rest 0 product_words x ≡ words p prime rest 0 block_words x
    rest_words prime = words_shorter p prime rest 0 product_words block_words (omega arith) nothing

    few : left ≤ block_words
    few = ends_most rest 0 product_words left block_words done.ends nothing

    dividend : (prime : Prime p) (n : ℕ) (U : Slots (Polynomial (residues p prime))) (column : ℕ → Polynomial (residues p prime))
        → HoldsSlots p prime n unweighted L U → Flat (residues p prime) n lanes unweighted (words p prime input at block_words)
        column
        → Dividend p prime n unweighted L block₀
    dividend prime n U column slots flat = record {
      slots = U;
      vector = column;
      holds_slots = slots;
      holds = flat_same (λ x. copied_words prime x ∙ ap (λ l. words p prime l 0 product_words x) (sym copied)) flat;
    }

    left_of : (prime : Prime p) (n : ℕ) (U : Slots (Polynomial (residues p prime))) (column : ℕ → Polynomial (residues p prime))
        → HoldsSlots p prime n unweighted L U → Flat (residues p prime) n lanes unweighted (words p prime input at block_words)
        column
        → HoldsLeft p prime n U column rest factors
    unfolding dividend
    left_of prime n U column slots flat = record {
      vector = Q.rest;
      holds = flat_same (rest_words prime) Q.holds_rest;
      coefficients = record {
        span = record {
          coefficient = slot_quotient R n U Q.trace;
          empty = quotient_empty R n U Q.trace;
          equal = λ k h. combination R (R.add (column k) (R.neg (Q.rest k))) (combined R n (slot_quotient R n U Q.trace) U k)
              (given R.one (division_equal R n U Q.trace k (omega arith)) ∷ [])
              (identity R (column k ∷ Q.rest k ∷ combined R n (slot_quotient R n U Q.trace) U k ∷ [])
              (λ ρ qc qr qs. search quotes depth 16) refl);
        };
        holds = Q.holds_quotient;
      };
    }
      where
        R : Ring (Polynomial (residues p prime))
        R = polynomials (residues p prime)

        Q : DividedSoFar p prime n unweighted U column rest factors
        Q = done.divides prime n unweighted (dividend prime n U column slots flat)

    pub column_divided : DividedByLevel p L input at rest factors left
    unfolding dividend
    column_divided = record {
      room = room;
      sums = done.sums;
      factors_below = done.below;
      ends = ends_same p prime₀ rest rest 0 0 product_words block_words (rest_words prime₀) left few done.ends;
      whole = λ prime n U column slots flat s. done.whole prime n unweighted (dividend prime n U column slots flat) s;
      divides = left_of;
    }
