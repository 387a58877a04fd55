-- Words as polynomials modulo p. A hand holds sums that are not reduced, and zeros may stand at its end; `reduced` is the
-- polynomial of document 01 that it stands for: coefficients below p, the last not 0.
use Rattle.std.specs.Prelude.{◌≡◌, length, get_or, take, drop}
use Rattle.std.proofs.Math.Path.{sym}
use Rattle.std.proofs.Common.{ap, ap₂, ◌∙◌, subst, ⊎_elim, mod-lt, add-zero, arith, length-take, get_or-take, get_or-drop}
use mathlib.Core.List.{List, [], ◌∷◌}
use Prim.Native.Nat.{ℕ, zero, suc, ◌+◌, ◌-◌, ◌*◌, ◌%◌, ◌≤◌, ◌<◌}
use Rattle.std.proofs.Math.Nat.{zero-mod, add-mod}
use Rattle.std.proofs.Math.ListN.{get_or-eq_default}
use Rattle.algebra.specs.Coefficients.{cons, coefficient, add, scale, shift}
use Rattle.modular.specs.Modulo.{modulo}
use Rattle.modular.specs.Canonical.{Canonical}
use Rattle.modular.specs.Remainder.{mul_mod_mod}
use Rattle.modular.specs.Coefficientwise.{coefficient_nil, coefficient_beyond, coefficient_cons_zero, coefficient_cons_suc}
use Rattle.modular.specs.Coefficientwise.{coefficient_add}
use Rattle.modular.specs.Coefficientwise.{coefficient_scale, coefficient_shift_below, coefficient_shift_from, canonical_same}
use Rattle.modular.specs.Closed.{canonical_nil, canonical_cons, canonical_add, canonical_multiple}
use Rattle.vector.specs.Stored.{below_or_not}

unfoldable pub reduced : ℕ → List ℕ → List ℕ
reduced p [] = []
reduced p (a ∷ l) = cons (modulo p) (a % p) (reduced p l)

-- the polynomial that n words from the place a on stand for
abbrev pub polynomial : ℕ → List ℕ → ℕ → ℕ → List ℕ
polynomial p l a n = reduced p (take n (drop a l))

-- the words of a range, 0 behind it
pub word_inside : (l : List ℕ) (b m i : ℕ) → i < m → get_or (take m (drop b l)) i 0 ≡ get_or l (b + i) 0
word_inside l b m i lt = rw (get_or-take, get_or-drop)

pub word_behind : (l : List ℕ) (b m i : ℕ) → m ≤ i → get_or (take m (drop b l)) i 0 ≡ 0
word_behind l b m i ge = get_or-eq_default (take m (drop b l)) 0 (simp length-take (omega arith))

pub residue_same : (p : ℕ) {x y : ℕ} → x ≡ y → x % p ≡ y % p
residue_same p e = ap (λ (x : ℕ). x % p) e

module _ (p : ℕ) (positive : 0 < p) where
  pub canonical_reduced : (l : List ℕ) → Canonical p (reduced p l)
  unfolding reduced
  canonical_reduced [] = canonical_nil p
  canonical_reduced (a ∷ l) = canonical_cons p (a % p) (reduced p l) (mod-lt a positive) (canonical_reduced l)

  pub coefficient_reduced : (l : List ℕ) (n : ℕ) → coefficient (modulo p) (reduced p l) n ≡ get_or l n 0 % p
  unfolding reduced
  coefficient_reduced [] n = coefficient_nil p n ∙ sym (zero-mod p)
  coefficient_reduced (a ∷ l) zero = coefficient_cons_zero p (a % p) (reduced p l)
  coefficient_reduced (a ∷ l) (suc n) = coefficient_cons_suc p (a % p) (reduced p l) n ∙ coefficient_reduced l n

  -- words with the coefficients of f stand for f
  pub reduced_is : (l f : List ℕ) → Canonical p f → ((n : ℕ) → get_or l n 0 % p ≡ coefficient (modulo p) f n) → reduced p l ≡ f
  reduced_is l f hf e = canonical_same p (reduced p l) f (canonical_reduced l) hf (λ n. coefficient_reduced l n ∙ e n)

  -- words that are the same modulo p stand for the same polynomial
  pub reduced_same : (l m : List ℕ) → ((n : ℕ) → get_or l n 0 % p ≡ get_or m n 0 % p) → reduced p l ≡ reduced p m
  reduced_same l m e = reduced_is l (reduced p m) (canonical_reduced m) (λ n. e n ∙ sym (coefficient_reduced m n))

  pub polynomial_same : (l m : List ℕ) (a b n : ℕ) → ((j : ℕ) → j < n → get_or l (a + j) 0 % p ≡ get_or m (b + j) 0 % p)
      → polynomial p l a n ≡ polynomial p m b n
  polynomial_same l m a b n e =
      reduced_same
      (take n (drop a l))
      (take n (drop b m))
      (λ j.
      ⊎_elim
      (λ lt. residue_same p (word_inside l a n j lt) ∙ e j lt ∙ sym (residue_same p (word_inside m b n j lt)))
      (λ ge. residue_same p (word_behind l a n j ge ∙ sym (word_behind m b n j ge)))
      (below_or_not j n))

  -- fewer words are enough for a polynomial that has no more coefficients
  pub polynomial_fewer : (l : List ℕ) (a n e : ℕ) → length (polynomial p l a n) ≤ e → e ≤ n
      → polynomial p l a e ≡ polynomial p l a n
  polynomial_fewer l a n e short le =
      reduced_is (take e (drop a l)) (polynomial p l a n) (canonical_reduced (take n (drop a l)))
      (λ i.
      ⊎_elim
      (λ lt.
      let lt_n : i < n = omega arith in
      residue_same p (word_inside l a e i lt ∙ sym (word_inside l a n i lt_n)) ∙ sym (coefficient_reduced (take n (drop a l)) i))
      (λ ge.
      residue_same p (word_behind l a e i ge) ∙ zero-mod p ∙ sym (coefficient_beyond p (polynomial p l a n) i (omega arith)))
      (below_or_not i e))

  -- c times the words q, added from the place k on
  module _
      (l m q : List ℕ)
      (k c : ℕ)
      (before : (i : ℕ) → i < k → get_or m i 0 ≡ get_or l i 0)
      (from : (j : ℕ) → get_or m (k + j) 0 ≡ get_or l (k + j) 0 + c * get_or q j 0)
    where
      abbrev multiple : List ℕ
      multiple = shift (modulo p) k (scale (modulo p) c (reduced p q))

      multiple_from : (j : ℕ) → coefficient (modulo p) multiple (k + j) ≡ c * get_or q j 0 % p
      multiple_from j =
          coefficient_shift_from p k _ j
          ∙ coefficient_scale p c (reduced p q) j
          ∙ ap (λ (x : ℕ). c * x % p) (coefficient_reduced q j)
          ∙ mul_mod_mod c (get_or q j 0) p

      sum_is : (i y : ℕ) → coefficient (modulo p) multiple i ≡ y % p → get_or m i 0 ≡ get_or l i 0 + y
          → get_or m i 0 % p ≡ coefficient (modulo p) (add (modulo p) (reduced p l) multiple) i
      sum_is i y ey em =
          residue_same p em
          ∙ add-mod (get_or l i 0) y p
          ∙ ap₂ (λ (u v : ℕ). (u + v) % p) (sym (coefficient_reduced l i)) (sym ey)
          ∙ sym
          (coefficient_add p positive (reduced p l) multiple i (canonical_reduced l)
          (canonical_multiple p positive k c (reduced p q)))

      pub reduced_multiple : reduced p m ≡ add (modulo p) (reduced p l) multiple
      reduced_multiple =
          reduced_is
          m
          (add (modulo p) (reduced p l) multiple)
          (canonical_add p positive (reduced p l) multiple (canonical_reduced l) (canonical_multiple p positive k c (reduced p q)))
          (λ i.
          ⊎_elim
          (λ lt. sum_is i 0 (coefficient_shift_below p k _ i lt ∙ sym (zero-mod p)) (before i lt ∙ sym (add-zero (get_or l i 0))))
          (λ ge.
          let e : k + (i - k) ≡ i = omega arith in
          let y : ℕ = c * get_or q (i - k) 0 in
          sum_is
          i
          y
          (subst (λ (x : ℕ). coefficient (modulo p) multiple x ≡ y % p) e (multiple_from (i - k)))
          (subst (λ (x : ℕ). get_or m x 0 ≡ get_or l x 0 + y) e (from (i - k))))
          (below_or_not i k))
