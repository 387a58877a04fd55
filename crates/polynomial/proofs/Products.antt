-- s + f·g on the words of values.
use mathlib.Core.Path.{◌≡◌, ap₂, ◌∙◌}
use mathlib.Core.List.{List}
use Prim.Native.Nat.{ℕ, ◌+◌, ◌*◌, ◌≤◌, ◌<◌}
use native.Mathlib.Nat.{mul-le-mul_right, le-mul_of_pos_right}
use native.Mathlib.Omega.{arith}
use lib.ListN.{get_or}
use Rattle.algebra.specs.Coefficients.{add, mul}
use Rattle.modular.specs.Modulo.{modulo}
use Rattle.residue.specs.Sum.{SmallSum}
use Rattle.vector.specs.Bound.{AtMost}
use Rattle.vector.specs.Reduced.{polynomial}
use Rattle.polynomial.specs.declared.value.Polynomial.{Polynomial}
use Rattle.polynomial.specs.Value.{polynomial_room, coefficients_of, ValidPolynomial, word_below, value_polynomial}
use Rattle.polynomial_words.specs.Product.{GainsProduct}

module _ (p : ℕ) (positive : 0 < p) where
  pub words_at_most : (b : ℕ) → p ≤ b → (f : Polynomial) → ValidPolynomial p f → AtMost b f.coefficients
  words_at_most b le f valid i = omega (arith, word_below p f valid positive i)

  module _ {s f g : Polynomial} (hs : ValidPolynomial p s) (hf : ValidPolynomial p f) (hg : ValidPolynomial p g) {h : List ℕ} where
    -- of any n rows of k words
    pub products_small : {n k : ℕ} → n ≤ polynomial_room →
        GainsProduct s.coefficients f.coefficients n g.coefficients k h → (i : ℕ) → SmallSum p (get_or h i 0)
    products_small few gains i =
        let at_most : (t : Polynomial) → ValidPolynomial p t → AtMost p t.coefficients = words_at_most p (omega arith) in
        omega (
          arith,
          gains.bound p p (at_most s hs) (at_most f hf) (at_most g hg) i,
          mul-le-mul_right (p * p) few,
          le-mul_of_pos_right p positive,
        )

    pub products_are : GainsProduct s.coefficients f.coefficients f.size g.coefficients g.size h →
        (n : ℕ) → s.size ≤ n → f.size + g.size ≤ n + 1 →
        polynomial p h 0 n ≡ add (modulo p) (coefficients_of s) (mul (modulo p) (coefficients_of f) (coefficients_of g))
    products_are gains n all_s all =
        gains.sum p n positive all
        ∙ ap₂
        (λ (x y : List ℕ). add (modulo p) x y)
        (value_polynomial p s hs positive n all_s)
        (ap₂
        (mul (modulo p))
        (value_polynomial p f hf positive f.size (omega arith))
        (value_polynomial p g hg positive g.size (omega arith)))
