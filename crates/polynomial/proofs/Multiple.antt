-- f + c·g on the words of values, and the c for which it is a sum or a difference.
use mathlib.Core.Path.{◌≡◌, refl, sym, ap, ap₂, ◌∙◌}
use mathlib.Core.List.{List, [], ◌∷◌}
use Prim.Native.Nat.{ℕ, ◌+◌, ◌-◌, ◌*◌, ◌%◌, ◌≤◌, ◌<◌}
use native.Mathlib.Nat.{mod-eq_of_lt, one-mul, add-mul, add-mul-mod_self_right, mul_comm}
use native.Mathlib.Nat.{mul-le-mul, mul-le-mul_right, le-mul_of_pos_right}
use native.Mathlib.Omega.{arith}
use lib.ListN.{length, get_or}
use Rattle.algebra.specs.Coefficients.{coefficient, add, negate, subtract, scale, shift, monic}
use Rattle.modular.specs.Modulo.{modulo}
use Rattle.modular.specs.Canonical.{Canonical}
use Rattle.modular.specs.Closed.{canonical_negate, canonical_scale}
use Rattle.modular.specs.Coefficientwise.{coefficient_below, coefficient_negate, coefficient_scale, canonical_same}
use Rattle.modular.specs.LargestPrime.{largest_modulus}
use Rattle.modular.specs.Bits.{bound64}
use Rattle.residue.specs.Sum.{SmallSum}
use Rattle.vector.specs.Stored.{stored}
use Rattle.vector.specs.Bound.{AtMost, at_most_sum}
use Rattle.vector.specs.Reduced.{polynomial}
use Rattle.vector.specs.Multiple.{sum_at, GainsMultiple}
use Rattle.polynomial.specs.declared.value.Polynomial.{Polynomial}
use Rattle.polynomial.specs.Value.{coefficients_of, ValidPolynomial, word_below, value_polynomial}

-- zero is its own monic associate
pub monic_zero : (p : ℕ) (f : List ℕ) → length f ≡ 0 → monic (modulo p) f ≡ f
unfolding monic scale
monic_zero p [] e = refl
monic_zero p (a ∷ f) e = absurd (omega arith)

module _ (p : ℕ) (positive : 0 < p) where
  pub scale_one : (f : List ℕ) → Canonical p f → scale (modulo p) 1 f ≡ f
  scale_one f h =
      canonical_same
      p
      (scale (modulo p) 1 f)
      f
      (canonical_scale p positive 1 f)
      h
      (λ n. coefficient_scale p 1 f n ∙ ap (λ (x : ℕ). x % p) (one-mul _) ∙ mod-eq_of_lt (coefficient_below p positive f n h))

  -- (p - 1)·x is p - x modulo p
  opposite : (x : ℕ) → x < p → (p - 1) * x % p ≡ (p - x) % p
  opposite x less =
      let all : (p - 1) * x + 1 * p ≡ p - x + x * p =
      omega (arith, add-mul (p - 1) 1 x, ap (λ (k : ℕ). k * x) back, mul_comm p x) in
      sym (add-mul-mod_self_right ((p - 1) * x) 1 p) ∙ ap (λ (k : ℕ). k % p) all ∙ add-mul-mod_self_right (p - x) x p
    where
      back : p - 1 + 1 ≡ p
      back = omega arith

  pub scale_opposite : (f : List ℕ) → Canonical p f → scale (modulo p) (p - 1) f ≡ negate (modulo p) f
  scale_opposite f h =
      canonical_same
      p
      (scale (modulo p) (p - 1) f)
      (negate (modulo p) f)
      (canonical_scale p positive (p - 1) f)
      (canonical_negate p positive f)
      (λ n.
      coefficient_scale p (p - 1) f n
      ∙ opposite (coefficient (modulo p) f n) (coefficient_below p positive f n h)
      ∙ sym (coefficient_negate p f n))

  pub subtract_is : (f g : List ℕ) → Canonical p g → add (modulo p) f (scale (modulo p) (p - 1) g) ≡ subtract (modulo p) f g
  unfolding subtract
  subtract_is f g h = ap (add (modulo p) f) (scale_opposite g h)

  module _ {f g : Polynomial} (hf : ValidPolynomial p f) (hg : ValidPolynomial p g) (c : ℕ) (small : c < p) where
    product_small : (j : ℕ) → c * get_or g.coefficients (0 + j) 0 ≤ p * p
    product_small j =
        let below : get_or g.coefficients (0 + j) 0 < p = word_below p g hg positive (0 + j) in
        mul-le-mul {n₁ = c} {m₁ = get_or g.coefficients (0 + j) 0} {n₂ = p} {m₂ = p} (omega arith) (omega arith)

    words_small : AtMost p f.coefficients
    words_small j = let below : get_or f.coefficients j 0 < p = word_below p f hf positive j in omega arith

    -- what `add_scaled` adds up and stores, of any k words
    pub multiple_fits : p ≤ largest_modulus → (j : ℕ) → sum_at f.coefficients 0 g.coefficients 0 c j < bound64
    multiple_fits limit j = omega (arith, words_small (0 + j), product_small j, mul-le-mul_right p limit)

    pub multiple_small : {h : List ℕ} (k : ℕ) →
        h ≡ stored (sum_at f.coefficients 0 g.coefficients 0 c) f.coefficients 0 k → (i : ℕ) → SmallSum p (get_or h i 0)
    multiple_small k words i =
        rw words (omega (
          arith,
          at_most_sum p (p * p) f.coefficients 0 g.coefficients 0 k c words_small (λ j lt. product_small j) i,
          le-mul_of_pos_right p positive,
        ))

    pub multiple_is : (h : List ℕ) (n : ℕ) → GainsMultiple f.coefficients h 0 g.coefficients 0 g.size c →
        f.size ≤ n → g.size ≤ n → polynomial p h 0 n ≡ add (modulo p) (coefficients_of f) (scale (modulo p) c (coefficients_of g))
    unfolding shift
    multiple_is h n gains all_f all_g =
        gains p 0 0 n positive refl (omega arith)
        ∙ ap₂
        (λ (x y : List ℕ). add (modulo p) x (scale (modulo p) c y))
        (value_polynomial p f hf positive n all_f)
        (value_polynomial p g hg positive g.size (omega arith))
