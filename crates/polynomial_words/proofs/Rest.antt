-- The words from a place on, as polynomials.
use mathlib.Core.Path.{◌≡◌, sym, ap, ap₂, ◌∙◌}
use mathlib.Core.Logic.{⊎_elim}
use mathlib.Core.List.{List, [], ◌∷◌}
use Prim.Native.Nat.{ℕ, zero, suc, ◌+◌, ◌-◌, ◌%◌, ◌≤◌, ◌<◌}
use native.Mathlib.Nat.{mod-eq_of_lt}
use native.Mathlib.Omega.{arith}
use lib.ListN.{length, get_or, take, drop, length-take, get_or-eq_default}
use lib.Seq.{drop-cons, get_or-take, get_or-drop}
use Rattle.algebra.specs.Coefficients.{cons}
use Rattle.modular.specs.Modulo.{modulo}
use Rattle.modular.specs.Canonical.{Canonical}
use Rattle.modular.specs.Closed.{canonical_tail}
use Rattle.modular.specs.Coefficientwise.{coefficient_get_or, coefficient_below}
use Rattle.vector.specs.Stored.{below_or_not}
use Rattle.vector.specs.Bound.{AtMost}
use Rattle.vector.specs.Reduced.{polynomial, reduced, reduced_is, polynomial_same, residue_same, word_inside, word_behind}
use Rattle.vector.specs.Moved.{polynomial_nil}

-- a polynomial without its first coefficients
pub canonical_drop : (p i : ℕ) (f : List ℕ) → Canonical p f → Canonical p (drop i f)
canonical_drop p zero f h = h
canonical_drop p (suc i) [] h = h
canonical_drop p (suc i) (a ∷ f) h = canonical_drop p i f (canonical_tail p a f h)

-- n - i words from i on begin with the word at i
pub polynomial_first : (p : ℕ) (l : List ℕ) (i n : ℕ) → i < n → n ≤ length l →
    polynomial p l i (n - i) ≡ cons (modulo p) (get_or l i 0 % p) (polynomial p l (i + 1) (n - (i + 1)))
unfolding reduced
polynomial_first p l i n lt room =
    let one_more : n - i ≡ suc (n - (i + 1)) = omega arith in
    let next : suc i ≡ i + 1 = omega arith in
    let here : i < length l = omega arith in
    ap₂
    (λ (m : ℕ) (t : List ℕ). reduced p (take m t))
    one_more
    (drop-cons l i 0 here ∙ ap (λ (j : ℕ). get_or l i 0 ∷ drop j l) next)

module _ (p : ℕ) (positive : 0 < p) where
  pub polynomial_zero : (l : List ℕ) (a n : ℕ) → AtMost 0 l → polynomial p l a n ≡ []
  polynomial_zero l a n zeros =
      polynomial_same p positive l [] a 0 n (λ j lt. residue_same p (omega (arith, zeros (a + j)))) ∙ polynomial_nil p n

  entry_residue : (f : List ℕ) → Canonical p f → (n : ℕ) → get_or f n 0 % p ≡ get_or f n 0
  entry_residue f h n =
      let below = coefficient_below p positive f n h in
      mod-eq_of_lt (rw (coefficient_get_or p f n) at below)

  pub reduced_canonical : (f : List ℕ) → Canonical p f → reduced p f ≡ f
  reduced_canonical f h = reduced_is p positive f f h (λ n. entry_residue f h n ∙ sym (coefficient_get_or p f n))

  -- of n words that are a polynomial, those from i on
  pub polynomial_rest : (l : List ℕ) (i n : ℕ) → Canonical p (take n l) → polynomial p l i (n - i) ≡ drop i (take n l)
  polynomial_rest l i n h =
      let rest = canonical_drop p i (take n l) h in
      reduced_is
      p
      positive
      (take (n - i) (drop i l))
      (drop i (take n l))
      rest
      (λ j. residue_same p (word j) ∙ entry_residue (drop i (take n l)) rest j ∙ sym (coefficient_get_or p (drop i (take n l)) j))
    where
      word : (j : ℕ) → get_or (take (n - i) (drop i l)) j 0 ≡ get_or (drop i (take n l)) j 0
      word j =
          ⊎_elim
          (λ lt.
          let inside : i + j < n = omega arith in
          word_inside l i (n - i) j lt ∙ sym (get_or-drop i (take n l) j 0 ∙ get_or-take n l (i + j) 0 inside))
          (λ ge.
          word_behind l i (n - i) j ge
          ∙ sym (get_or-drop i (take n l) j 0 ∙ get_or-eq_default (take n l) 0 (simp length-take (omega arith))))
          (below_or_not j (n - i))
