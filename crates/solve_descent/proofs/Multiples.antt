-- `subtract_multiple`: what is left of the quotients.
use Prim.Native.Nat.{ℕ, ◌+◌, ◌-◌, ◌*◌, ◌%◌, ◌<◌, ◌≤◌, min}
use mathlib.Core.Path.{◌≡◌, refl, sym, ◌∙◌, ap, subst}
use mathlib.Core.List.{List, [], ◌∷◌}
use native.Mathlib.Nat.{mod-lt, mod-eq_of_lt, zero-mod}
use native.Mathlib.Omega.{arith}
use native.Mathlib.Decide.{dec_lt}
use lib.ListN.{length, get_or, take, drop, length-take, get_or-eq_default}
use Rattle.ring.specs.Identity.{quotes, identity}
use Rattle.algebra.specs.Polynomial.{Polynomial, polynomials, coefficients, equal_coefficients}
use Rattle.algebra.specs.Size.{size, coefficients_beyond}
use Rattle.modular.specs.Prime.{Prime}
use Rattle.modular.specs.Residue.{residues}
use Rattle.vector.specs.Reduced.{polynomial}
use Rattle.vector.specs.Size.{size_reduced}
use Rattle.vector.specs.Stored.{stored, length_stored, stored_all_first}
use Rattle.reduction.specs.Holds.{Holds, read, read_at, read_beyond}
use Rattle.reduction.specs.Flat.{flat}
use Rattle.solve_lattice.specs.Memory.{ZeroFrom, Ends}
use Rattle.solve_lattice.specs.Word.{residue, words, words_inside}
use Rattle.solve_lattice.specs.Range.{words_same, words_zero, words_shorter}
use Rattle.solve_lattice.specs.Reading.{holds_same}
use Rattle.solve_lattice.specs.Found.{found_ends}
use Rattle.solve_lattice.specs.Quotients.{HoldsQuotient}
use Rattle.solve_lattice.specs.Room.{product_words, block_words, lanes, most_coefficients}
use Rattle.solve_descent.specs.Product.{strided, less, TakesProduct}
use Rattle.solve_descent.specs.Multiple.{SubtractsMultiple}

-- what `find_leading` finds is no more than it is given
pub found_most : (p : ℕ) (l : List ℕ) (n found : ℕ) → found ≡ length (polynomial p l 0 n) → found ≤ n
found_most p l n found is = omega (arith, size_reduced p (take n (drop 0 l)), length-take n (drop 0 l))

-- behind the end of a list all words are 0
zero_behind : (p : ℕ) (l : List ℕ) (n : ℕ) → ZeroFrom p l 0 n (length l)
zero_behind p l n j ge lt = ap (λ w. w % p) (get_or-eq_default l 0 (omega arith)) ∙ zero-mod p

module _ (p : ℕ) (prime : Prime p) where
  positive : 0 < p
  positive = omega (arith, prime.large)

  -- the terms that are multiplied are all of x
  module _ (y : List ℕ) (x : Polynomial (residues p prime)) (A : Holds (residues p prime) (words p prime y 0 block_words) x)
      (small : size (residues p prime) x ≤ most_coefficients) (found terms : ℕ)
      (found_is : found ≡ length (polynomial p y 0 block_words))
      (few : terms ≡ min found most_coefficients) where
    terms_read : read (residues p prime) terms (strided p prime y 0 1) ≡ x
    terms_read = equal_coefficients (residues p prime) _ _ (λ j. go j (dec_lt j terms) (dec_lt j most_coefficients))
      where
        ends : Ends p y 0 block_words found
        ends = found_ends p positive y block_words block_words (omega arith) (λ j ge lt. absurd (omega arith)) found found_is

        go : (j : ℕ) → Dec (j < terms) → Dec (j < most_coefficients)
            → coefficients (residues p prime) (read (residues p prime) terms (strided p prime y 0 1)) j
            ≡ coefficients (residues p prime) x j
        go j (yes lt) h =
            let place : 0 + j * 1 ≡ 0 + j = omega arith in
            read_at (residues p prime) terms (strided p prime y 0 1) j lt
            ∙ ap (λ i. residue p prime (get_or y i 0)) place
            ∙ sym (A.at j ∙ words_inside p prime y 0 block_words j (omega arith))
        go j (no ge) (yes h) =
            read_beyond (residues p prime) terms (strided p prime y 0 1) j (omega arith)
            ∙ sym (A.at j ∙ words_zero p prime y 0 block_words found ends.behind j (omega arith))
        go j (no ge) (no h) =
            read_beyond (residues p prime) terms (strided p prime y 0 1) j (omega arith)
            ∙ sym (coefficients_beyond (residues p prime) x j (omega arith))

    none_read : terms ≡ 0 → (polynomials (residues p prime)).zero ≡ x
    unfolding read
    none_read none = ap (λ n. read (residues p prime) n (strided p prime y 0 1)) (sym none) ∙ terms_read

-- y has no terms
pub nothing_taken : (p : ℕ) (quotients y factors : List ℕ) (found terms : ℕ) → ((i : ℕ) → get_or quotients i 0 < p)
    → found ≡ length (polynomial p y 0 block_words) → terms ≡ min found most_coefficients → terms ≡ 0
    → SubtractsMultiple p quotients y factors quotients
nothing_taken p quotients y factors found terms below found_is few none = record {
  same_length = refl;
  below = below;
  holds = λ prime x A small i lane c f C D. subst (HoldsQuotient p prime quotients i)
      (identity (polynomials (residues p prime)) (c ∷ f ∷ []) (λ ρ qc qf. search quotes depth 16) refl
      ∙ ap (λ z. less p prime c z f) (none_read p prime y x A small found terms found_is few none)) C;
}

-- the first m words of the factors hold all that is not 0; the terms of y times them are taken off, and what that touched is
-- reduced
module _ {p : ℕ} (prime₀ : Prime p) {quotients y factors q₁ q' : List ℕ} (found terms m : ℕ)
    (found_is : found ≡ length (polynomial p y 0 block_words)) (few : terms ≡ min found most_coefficients)
    (enough : length (polynomial p factors 0 block_words) ≤ m) (fits : m ≤ block_words)
    (T : TakesProduct p lanes quotients y 0 1 terms factors 0 m q₁)
    (reduces : q' ≡ stored (λ j. get_or q₁ j 0 % p) q₁ 0 (lanes * terms + m - lanes))
    (room : length quotients ≡ product_words) (factors_room : length factors ≡ block_words) (below : (i : ℕ)
    → get_or quotients i 0 < p) where
  factors_behind : ZeroFrom p factors 0 product_words m
  factors_behind j ge lt = (found_ends p (positive p prime₀) factors product_words block_words (omega arith)
      (subst (ZeroFrom p factors 0 product_words) factors_room (zero_behind p factors product_words)) _ refl).behind j
      (omega arith) lt

  reduced_all : (P : ℕ → ℕ → Type 0) → ((j : ℕ) → P j (get_or q₁ j 0 % p))
      → ((i : ℕ) → terms * lanes + m ≤ i + lanes → P i (get_or q₁ i 0))
      → (i : ℕ) → P i (get_or q' i 0)
  reduced_all P inside outside = stored_all_first P (λ j. get_or q₁ j 0 % p) q₁ q' _ reduces (omega (arith, T.same_length))
      (λ j lt. inside j) (λ i far. outside i (omega arith))

  same_residue : (i : ℕ) → get_or q₁ i 0 % p ≡ get_or q' i 0 % p
  same_residue = reduced_all (λ i w. get_or q₁ i 0 % p ≡ w % p) (λ j. sym (mod-eq_of_lt (mod-lt _ (positive p prime₀))))
      (λ i far. refl)

  pub multiple_taken : SubtractsMultiple p quotients y factors q'
  multiple_taken = record {
    same_length = ap length reduces ∙ length_stored _ q₁ 0 _ ∙ T.same_length;
    below = reduced_all (λ i w. w < p) (λ j. mod-lt _ (positive p prime₀)) (λ i far. omega (arith, T.behind i far, below i));
    holds = λ prime x A small i lane c f C D. subst (λ z. HoldsQuotient p prime q' i (less p prime c z f))
        (terms_read p prime y x A small found terms found_is few)
        (holds_same (λ e. words_same p prime q₁ q' 0 0 product_words (flat lanes i e) (λ lt. same_residue (0 + flat lanes i e)))
        (T.holds product_words (omega arith) (omega arith) prime i lane c f C
        (holds_same (λ e. words_shorter p prime factors 0 product_words m (omega arith) factors_behind (flat lanes i e)) D)));
  }
