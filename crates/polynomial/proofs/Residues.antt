-- Words copied to zeros and reduced: the words of the value that they stand for.
use mathlib.Core.Path.{◌≡◌, sym, ap, ◌∙◌}
use mathlib.Core.Logic.{⊎_elim, inr}
use mathlib.Core.List.{List}
use Prim.Native.Nat.{ℕ, ◌+◌, ◌%◌, ◌≤◌, ◌<◌}
use native.Mathlib.Nat.{zero-mod}
use native.Mathlib.Omega.{arith}
use lib.ListN.{length, get_or, take, drop}
use Rattle.algebra.specs.Coefficients.{coefficient}
use Rattle.modular.specs.Prime.{Prime}
use Rattle.modular.specs.Modulo.{modulo}
use Rattle.vector.specs.Stored.{stored, stored_first, stored_outside, length_stored, below_or_not}
use Rattle.vector.specs.Reduced.{polynomial, canonical_reduced, coefficient_reduced, word_inside, word_behind}
use Rattle.vector.specs.Size.{length_polynomial}
use Rattle.polynomial.specs.Value.{polynomial_room, Represents, represents}

-- n words from the place a on are copied to zeros, each modulo p
pub record Residues (p : ℕ) (words : List ℕ) (a n : ℕ) (zeros residues : List ℕ) : Type 0 where
  pub positive : 0 < p
  pub few : n ≤ polynomial_room
  pub room : length zeros ≡ polynomial_room
  pub zero : (i : ℕ) → get_or zeros i 0 ≡ 0
  pub copies : residues ≡ stored (λ j. get_or words (a + j) 0 % p) zeros 0 n

pub copied : {p : ℕ} {words : List ℕ} {a n : ℕ} {zeros residues : List ℕ} → Prime p → n ≤ polynomial_room →
    (length zeros ≡ polynomial_room) × ((i : ℕ) → get_or zeros i 0 ≡ 0) →
    residues ≡ stored (λ j. get_or words (a + j) 0 % p) zeros 0 n → Residues p words a n zeros residues
copied prime few blank copies = record {
  positive = omega (arith, prime.large);
  few = few;
  room = blank.0;
  zero = blank.1;
  copies = copies;
}

module _ {p : ℕ} {words : List ℕ} {a n : ℕ} {zeros residues : List ℕ} (by : Residues p words a n zeros residues) where
  residue_word : (j : ℕ) → j < n → get_or residues j 0 ≡ get_or words (a + j) 0 % p
  residue_word j lt =
      ap (λ (l : List ℕ). get_or l j 0) by.copies
      ∙ stored_first (λ j. get_or words (a + j) 0 % p) zeros n j (omega (arith, by.few, by.room)) lt

  behind : (i : ℕ) → n ≤ i → get_or residues i 0 ≡ 0
  behind i ge =
      ap (λ (l : List ℕ). get_or l i 0) by.copies
      ∙ stored_outside (λ j. get_or words (a + j) 0 % p) zeros 0 n i (inr (omega arith))
      ∙ by.zero i

  word : (i : ℕ) → get_or residues i 0 ≡ coefficient (modulo p) (polynomial p words a n) i
  word i =
      ⊎_elim
      (λ lt. residue_word i lt ∙ ap (λ (x : ℕ). x % p) (sym (word_inside words a n i lt)))
      (λ ge. behind i ge ∙ sym (ap (λ (x : ℕ). x % p) (word_behind words a n i ge) ∙ zero-mod p))
      (below_or_not i n)
      ∙ sym (coefficient_reduced p by.positive (take n (drop a words)) i)

  pub represents_words : (k : ℕ) → k ≡ length (polynomial p words a n) →
      Represents p (record { size = k; coefficients = residues }) (polynomial p words a n)
  represents_words k size =
      represents
      p
      (record { size = k; coefficients = residues })
      (polynomial p words a n)
      (canonical_reduced p by.positive (take n (drop a words)))
      (ap length by.copies ∙ length_stored (λ j. get_or words (a + j) 0 % p) zeros 0 n ∙ by.room)
      size
      (omega (arith, by.few, length_polynomial p words a n))
      word
