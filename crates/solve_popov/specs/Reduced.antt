-- Slot i copied, reduced by the other slots, and its tail by d.
use Rattle.std.specs.Prelude.{ℕ, ◌+◌, ◌-◌, ◌*◌, ◌%◌, ◌<◌, ◌≤◌, ◌≡◌, List, length, get_or}
use Rattle.std.proofs.Common.{sym, ◌∙◌, ap, subst, inr, mul-le-mul_right, arith}
use Rattle.std.proofs.Math.Nat.{zero-mod}
use Rattle.algebra.specs.Field.{Field}
use Rattle.algebra.specs.Expressions.{shift}
use Rattle.algebra.specs.Polynomial.{Polynomial}
use Rattle.algebra.specs.Size.{sized}
use Rattle.modular.specs.Prime.{Prime}
use Rattle.modular.specs.Residue.{residues}
use Rattle.vector.specs.Bound.{AtMost, at_most_stored}
use Rattle.vector.specs.Stored.{stored, length_stored, stored_first, stored_outside}
use Rattle.reduction.specs.Replace.{extend, extend_below, extend_at}
use Rattle.reduction.specs.Slots.{Slots, unweighted}
use Rattle.reduction.specs.Popov.{slot_reduced_tail}
use Rattle.reduction.specs.Holds.{Holds}
use Rattle.reduction.specs.Flat.{flat}
use Rattle.reduction.specs.Held.{Held}
use Rattle.solve_lattice.specs.Room.{lanes, sizes_from, block_words, slot_words, tail_words, product_words, combination_products}
use Rattle.solve_lattice.specs.Word.{words}
use Rattle.solve_lattice.specs.Memory.{ZeroFrom, Level, slot_size, ValidLevel}
use Rattle.solve_lattice.specs.Holding.{HoldsSlots}
use Rattle.solve_lattice.specs.Range.{words_shorter}
use Rattle.solve_lattice.specs.Reading.{held_same}
use Rattle.solve_lattice.specs.Remainder.{HoldsReduced, Reducing}
use Rattle.solve_descent.specs.Kernel.{TakesKernel, Lessened}
use Rattle.solve_popov.specs.Words.{words_copied}
use Rattle.solve_popov.specs.Rework.{ReducedFound}

-- another tail
held_tail : {K : Type 0} (F : Field K) {n W : ℕ} {ω : ℕ → ℕ} {H τ τ' : ℕ → K} {v : ℕ → Polynomial F} {y : Polynomial F}
    → Held F n W ω H τ v → Holds F τ' y → Held F n W ω H τ' (extend n v y)
held_tail F {n} {W} {ω} {H} {τ} {τ'} {v} {y} A B = record {
  block = record {
    lanes = A.block.lanes;
    lane = λ j h. subst (λ x. Holds F (λ e. H (flat W j e)) (shift F (ω j) x)) (sym (extend_below n v y j h)) (A.block.lane j h);
    beside = A.block.beside;
  };
  tail = subst (Holds F τ') (sym (extend_at n v y)) B;
}

-- words of L from b on copied over zeros
module _ {p : ℕ} {L : Level} (valid : ValidLevel p L) (b : ℕ) (inside : b + block_words ≤ sizes_from) (zeros : List ℕ)
    (room : block_words ≤ length zeros) (none : AtMost 0 zeros) (l : List ℕ)
    (copied : l ≡ stored (λ j. get_or L (b + j) 0) zeros 0 block_words) where
  pub copied_most : AtMost p l
  copied_most = subst (AtMost p) (sym copied) (at_most_stored p _ zeros 0 block_words
      (λ j lt. omega (arith, valid.below (b + j) (omega arith))) (λ j. omega (arith, none j)))

  pub copied_word : (j : ℕ) → j < block_words → get_or l j 0 ≡ get_or L (b + j) 0
  copied_word j lt = ap (λ w. get_or w j 0) copied ∙ stored_first (λ j. get_or L (b + j) 0) zeros block_words j room lt

  pub copied_words : (prime : Prime p) (N : ℕ) → block_words ≤ N → (x : ℕ) → words p prime L b block_words x ≡ words p prime l 0 N x
  copied_words prime N wider x =
      words_copied p prime L zeros b 0 block_words b 0 block_words (omega arith) (omega arith) (omega arith) (omega arith) x
      ∙ ap (λ w. words p prime w 0 block_words x) (sym copied)
      ∙ sym (words_shorter p prime l 0 N block_words wider behind x)
    where
      behind : ZeroFrom p l 0 N block_words
      behind j ge lt =
          let word : get_or l (0 + j) 0 ≡ 0 =
          omega (
            arith,
            ap (λ w. get_or w (0 + j) 0) copied,
            stored_outside (λ j. get_or L (b + j) 0) zeros 0 block_words (0 + j) (inr (omega arith)),
            none (0 + j),
          ) in
          ap (λ w. w % p) word ∙ zero-mod p

module _ {p : ℕ} (prime₀ : Prime p) {L : Level} (valid : ValidLevel p L) {i : ℕ} (inside : i < lanes) (some : 0 < slot_size L i)
    (zeros tail_zeros : List ℕ) (room : length zeros ≡ block_words) (none : AtMost 0 zeros)
    (tail_room : length tail_zeros ≡ tail_words) (tail_none : AtMost 0 tail_zeros) (block₀ tail₀ : List ℕ)
    (copied : block₀ ≡ stored (λ j. get_or L (slot_words * i + j) 0) zeros 0 block_words)
    (tail_copied : tail₀ ≡ stored (λ j. get_or L (slot_words * i + block_words + j) 0) tail_zeros 0 block_words)
    {block tail : List ℕ} (R : Reducing p L block₀ tail₀ (slot_size L i - 1) 0 block tail) where
  -- the sums that the loop on the tail takes
  pub reduced_sums : AtMost (combination_products * (p * p)) tail
  reduced_sums j =
      let positive : 1 ≤ p = omega (arith, prime₀.large) in
      omega (arith, R.tail_sums j, mul-le-mul_right p positive)

  module _ {d : List ℕ} {size : ℕ} (size_some : 0 < size) {tail' : List ℕ} (T : TakesKernel p tail d size tail') where
    holds : (prime : Prime p) (n : ℕ) (U : Slots (Polynomial (residues p prime))) (x : Polynomial (residues p prime))
        → i < n → 0 < U.size i → HoldsSlots p prime n unweighted L U → Holds (residues p prime) (words p prime d 0 block_words) x
        → HoldsReduced p prime n U i x block tail'
    holds prime n U x h f H D = record {
      vector = extend n B.vector _;
      held = held_tail (residues p prime) B.held Y.holds;
      reduced = slot_reduced_tail (sized (residues p prime)) n x B.reduced Y.multiple
          (λ c l. extend_below n B.vector _ c l) (extend_at n B.vector _);
    }
      where
        B : HoldsReduced p prime n U i x block tail
        B = R.holds prime n U i x h (omega arith) H
            (held_same
            (copied_words valid (slot_words * i) (omega arith) zeros (omega arith) none block₀ copied prime product_words
            (omega arith))
            (copied_words valid (slot_words * i + block_words) (omega arith) tail_zeros (omega arith) tail_none tail₀ tail_copied
            prime tail_words (omega arith)) (H.vector i h f))

        Y : Lessened p prime (B.vector n) x tail'
        Y = T.holds prime (B.vector n) x B.held.tail D

    pub reduced_found : ReducedFound p L i d size block tail'
    reduced_found =
        let positive : 1 ≤ p = omega (arith, prime₀.large) in
        let square = mul-le-mul_right p positive in record {
          room = R.length_block ∙ ap length copied ∙ length_stored _ zeros 0 block_words ∙ room;
          tail_room = T.same_length ∙ R.length_tail ∙ ap length tail_copied ∙ length_stored _ tail_zeros 0 block_words ∙ tail_room;
          sums = λ j lt. omega (arith, R.sums j, square);
          tail_sums = λ j lt. omega (arith, T.bound (combination_products * (p * p)) reduced_sums j);
          kept = λ j h lt. R.kept j h
              ∙ copied_word valid (slot_words * i) (omega arith) zeros (omega arith) none block₀ copied j lt;
          settled = λ k h l. R.settled k h (omega arith);
          short = T.short size_some;
          holds = holds;
        }
