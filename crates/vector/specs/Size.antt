-- Size and leading coefficient of the polynomial that words stand for: they are found from the end of the words.
use Rattle.std.specs.Prelude.{◌≡◌, Bool, get_or, take, drop, eqb}
use Rattle.std.proofs.Math.Path.{refl, ap}
use Rattle.std.proofs.Common.{sym, ◌∙◌, subst, add-one, length-take, take-suc, length-take-le, eq-eqb, ne_eqb}
use Rattle.std.proofs.Math.Bool.{true, false}
use mathlib.Core.List.{List, [], ◌∷◌, ◌++◌}
use Prim.Native.Nat.{ℕ, zero, suc, ◌+◌, ◌%◌, ◌≤◌, ◌<◌}
use native.Mathlib.Omega.{arith}
use Rattle.std.proofs.Math.ListN.{length}
use Rattle.algebra.specs.Coefficients.{single, cons, leading}
use Rattle.modular.specs.Modulo.{modulo}
use Rattle.modular.specs.Coefficientwise.{coefficient_beyond, coefficient_last, leading_positive}
use Rattle.vector.specs.Reduced.{reduced, polynomial, canonical_reduced, coefficient_reduced}

module _ (p : ℕ) where
  cons_single : (a : ℕ) (t : Bool) → eqb a 0 ≡ t → cons (modulo p) a [] ≡ single t a
  unfolding cons modulo
  cons_single a t e = ap (λ (u : Bool). single u a) e

  -- in front of something nothing is dropped
  size_cons : (a : ℕ) (f : List ℕ) (n : ℕ) → length f ≡ suc n → length (cons (modulo p) a f) ≡ suc (suc n)
  unfolding cons
  size_cons a [] n e = absurd (omega arith)
  size_cons a (b ∷ f) n e = ap suc e

  leading_cons : (a : ℕ) (f : List ℕ) (n : ℕ) → length f ≡ suc n → leading (modulo p) (cons (modulo p) a f) ≡ leading (modulo p) f
  unfolding cons leading
  leading_cons a [] n e = absurd (omega arith)
  leading_cons a (b ∷ f) n e = refl

  zero_end : (l : List ℕ) (a : ℕ) → a % p ≡ 0 → reduced p (l ++ a ∷ []) ≡ reduced p l
  unfolding reduced single
  zero_end [] a z = cons_single (a % p) true (eq-eqb (a % p) 0 z)
  zero_end (x ∷ l) a z = ap (cons (modulo p) (x % p)) (zero_end l a z)

  size_end : (l : List ℕ) (a : ℕ) → (a % p ≡ 0 → ⊥) → length (reduced p (l ++ a ∷ [])) ≡ suc (length l)
  unfolding reduced single
  size_end [] a h = ap length (cons_single (a % p) false (ne_eqb (a % p) 0 h))
  size_end (x ∷ l) a h = size_cons (x % p) (reduced p (l ++ a ∷ [])) (length l) (size_end l a h)

  leading_end : (l : List ℕ) (a : ℕ) → (a % p ≡ 0 → ⊥) → leading (modulo p) (reduced p (l ++ a ∷ [])) ≡ a % p
  unfolding reduced single leading
  leading_end [] a h = ap (leading (modulo p)) (cons_single (a % p) false (ne_eqb (a % p) 0 h))
  leading_end (x ∷ l) a h = leading_cons (x % p) (reduced p (l ++ a ∷ [])) (length l) (size_end l a h) ∙ leading_end l a h

  -- no words stand for zero
  pub reduced_take_none : (l : List ℕ) (k : ℕ) → k ≤ 0 → reduced p (take k l) ≡ []
  unfolding reduced
  reduced_take_none l zero h = refl
  reduced_take_none l (suc k) h = absurd (omega arith)

  -- of k words the last, at i, counts, or it is 0 modulo p
  module _ (l : List ℕ) (k i : ℕ) (next : k ≡ i + 1) (inside : k ≤ length l) where
    longer : take k l ≡ take i l ++ get_or l i 0 ∷ []
    longer = ap (λ (n : ℕ). take n l) (next ∙ add-one i) ∙ take-suc l i 0 (omega arith)

    pub reduced_take_zero : get_or l i 0 % p ≡ 0 → reduced p (take k l) ≡ reduced p (take i l)
    reduced_take_zero z = ap (reduced p) longer ∙ zero_end (take i l) (get_or l i 0) z

    pub size_take : (get_or l i 0 % p ≡ 0 → ⊥) → length (reduced p (take k l)) ≡ k
    size_take h =
        ap (λ (w : List ℕ). length (reduced p w)) longer
        ∙ size_end (take i l) (get_or l i 0) h
        ∙ ap suc (length-take-le i l (omega arith))
        ∙ sym (next ∙ add-one i)

    pub leading_take : (get_or l i 0 % p ≡ 0 → ⊥) → leading (modulo p) (reduced p (take k l)) ≡ get_or l i 0 % p
    leading_take h = ap (λ (w : List ℕ). leading (modulo p) (reduced p w)) longer ∙ leading_end (take i l) (get_or l i 0) h

  -- what a caller knows of the words when it knows the size: behind it all are 0 modulo p, the last of it is not
  module _ (positive : 0 < p) (l : List ℕ) where
    pub word_past : (i : ℕ) → length (reduced p l) ≤ i → get_or l i 0 % p ≡ 0
    word_past i h = sym (coefficient_reduced p positive l i) ∙ coefficient_beyond p (reduced p l) i h

    pub word_last : (m : ℕ) → length (reduced p l) ≡ suc m → leading (modulo p) (reduced p l) ≡ get_or l m 0 % p
    word_last m e = sym (coefficient_last p (reduced p l) m e) ∙ coefficient_reduced p positive l m

    pub word_last_positive : (m : ℕ) → length (reduced p l) ≡ suc m → 0 < get_or l m 0 % p
    word_last_positive m e =
        subst (λ (x : ℕ). 0 < x) (word_last m e) (leading_positive p (reduced p l) (canonical_reduced p positive l) (omega arith))

  size_single : (t : Bool) (a : ℕ) → length (single t a) ≤ 1
  unfolding single
  size_single true a = omega arith
  size_single false a = omega arith

  size_cons_most : (a : ℕ) (f : List ℕ) → length (cons (modulo p) a f) ≤ suc (length f)
  unfolding cons
  size_cons_most a [] = size_single ((modulo p).zero? a) a
  size_cons_most a (b ∷ f) = omega arith

  pub size_reduced : (l : List ℕ) → length (reduced p l) ≤ length l
  unfolding reduced
  size_reduced [] = omega arith
  size_reduced (a ∷ l) = omega (arith, size_cons_most (a % p) (reduced p l), size_reduced l)

pub length_polynomial : (p : ℕ) (l : List ℕ) (a n : ℕ) → length (polynomial p l a n) ≤ n
length_polynomial p l a n = omega (arith, size_reduced p (take n (drop a l)), length-take n (drop a l))
