-- Words looked at together: `|` of them is 0 only where each of them is, and then they count for nothing at the end.
use Rattle.std.specs.Prelude.{◌≡◌, List, ℕ, zero, suc, ◌+◌, ◌≤◌, length, get_or, take}
use Rattle.std.proofs.Common.{◌∙◌, arith}
use Rattle.std.proofs.Math.Nat.{zero-mod}
use Rattle.std.specs.Int.Bits.{bit_or, or_add_and}
use Rattle.std.proofs.lemmas.Nat.{and_le_l, and_le_r}
use Rattle.vector.specs.Or.{or_to}
use Rattle.vector.specs.Reduced.{reduced, residue_same}
use Rattle.vector.specs.Size.{reduced_take_zero}
use Rattle.vector.specs.RowStored.{row_words}

or_zero : (x y : ℕ) → bit_or x y ≡ 0 → (x ≡ 0) × (y ≡ 0)
or_zero x y e = (omega (arith, or_add_and x y, and_le_r x y), omega (arith, or_add_and x y, and_le_l x y))

module _ (p : ℕ) (l : List ℕ) where
  -- the last word of k, at i, is 0, or the last n + 1 words, from a on, are
  reduced_take_word : (k i : ℕ) → k ≡ i + 1 → k ≤ length l → get_or l i 0 ≡ 0 → reduced p (take k l) ≡ reduced p (take i l)
  reduced_take_word k i next inside z = reduced_take_zero p l k i next inside (residue_same p z ∙ zero-mod p)

  reduced_take_or : (k a n : ℕ) → k ≡ a + n + 1 → k ≤ length l → or_to l a n ≡ 0 → reduced p (take k l) ≡ reduced p (take a l)
  reduced_take_or k a zero next inside e = reduced_take_word k a (omega arith) inside e
  reduced_take_or k a (suc n) next inside e =
      let parts = or_zero (or_to l a n) (get_or l (a + suc n) 0) e in
      reduced_take_word k (a + suc n) next inside parts.1
      ∙ reduced_take_or (a + suc n) a n (omega arith) (omega arith) parts.0

  -- the last eight words are, from a on
  pub reduced_take_row : (k a : ℕ) → k ≡ a + row_words → k ≤ length l → bit_or (or_to l a 3) (or_to l (a + 4) 3) ≡ 0
      → reduced p (take k l) ≡ reduced p (take a l)
  reduced_take_row k a next inside e =
      let parts = or_zero (or_to l a 3) (or_to l (a + 4) 3) e in
      reduced_take_or k (a + 4) 3 (omega arith) inside parts.1
      ∙ reduced_take_or (a + 4) a 3 (omega arith) (omega arith) parts.0
