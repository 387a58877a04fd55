-- The invariant of a growing sum: after k products its words stand for the sum of these, and are small.
use mathlib.Core.Path.{◌≡◌, sym, ap, ap₂, ◌∙◌}
use mathlib.Core.List.{List}
use Prim.Native.Nat.{ℕ, ◌+◌, ◌*◌, ◌≤◌, ◌<◌}
use native.Mathlib.Nat.{le_antisymm, mul-le-mul, mul-le-mul_right, suc-mul}
use native.Mathlib.Numerals.{add-one}
use native.Mathlib.Omega.{arith}
use lib.ListN.{length, get_or}
use Rattle.algebra.specs.Coefficients.{add, mul}
use Rattle.modular.specs.Modulo.{modulo}
use Rattle.modular.specs.Canonical.{Canonical}
use Rattle.modular.specs.LargestPrime.{largest_modulus}
use Rattle.words.specs.Limits.{office}
use Rattle.vector.specs.Bound.{AtMost}
use Rattle.vector.specs.Reduced.{polynomial}
use Rattle.polynomial.specs.Value.{polynomial_room}
use Rattle.polynomial_words.specs.Product.{sum_most, GainsProduct}
use Rattle.polynomial_words.proofs.Rest.{polynomial_zero}
use Rattle.truth.specs.Solution.{total_modulo}
use Rattle.loader.specs.SlotLaws.{canonical_word, canonical_polynomial}
use Rattle.check_conditions.specs.Products.{longest_sum, longest_product}

pub record Summing (p : ℕ) (term : ℕ → List ℕ) (count : ℕ) (h : List ℕ) (k : ℕ) : Type 0 where
  pub within : k ≤ count
  pub long : length h ≡ polynomial_room
  pub bound : AtMost (k * (office.system_coefficients * (p * p))) h
  pub sum : polynomial p h 0 longest_product ≡ total_modulo p k term

module _ (p : ℕ) (positive : 0 < p) (term : ℕ → List ℕ) (count : ℕ) where
  pub summing_start : (h : List ℕ) → length h ≡ polynomial_room → ((i : ℕ) → get_or h i 0 ≡ 0) → Summing p term count h 0
  unfolding total_modulo
  summing_start h long zeros =
      record {
        within = omega arith;
        long = long;
        bound = λ i. omega (arith, zeros i);
        sum = polynomial_zero p positive h 0 longest_product (λ i. omega (arith, zeros i));
      }

  module _ (h : List ℕ) (k : ℕ) (so_far : Summing p term count h k) where
    -- sums of the most products
    products : count ≤ longest_sum → k * (office.system_coefficients * (p * p)) ≤ longest_sum * (office.system_coefficients * (p * p))
    products few = mul-le-mul_right (office.system_coefficients * (p * p)) (omega (arith, so_far.within))

    pub summing_fits : count ≤ longest_sum → p ≤ largest_modulus → AtMost sum_most h
    summing_fits few limit i = omega (arith, so_far.bound i, products few, mul-le-mul limit limit)

    pub summing_turn : (f g : List ℕ) → Canonical p f → Canonical p g → length f ≤ office.system_coefficients
        → length g ≤ office.certificate_coefficients → term k ≡ mul (modulo p) f g
        → k < count → (h' : List ℕ) → length h' ≡ polynomial_room → GainsProduct h f (length f) g (length g) h'
        → Summing p term count h' (k + 1)
    unfolding total_modulo
    summing_turn f g hf hg short long_enough is more h' long gains = record {
      within = omega arith;
      long = long;
      bound = λ i. omega (
        arith,
        gains.bound (k * (office.system_coefficients * (p * p))) p so_far.bound
            (λ j. omega (arith, canonical_word p positive f hf j)) (λ j. omega (arith, canonical_word p positive g hg j)) i,
        mul-le-mul_right (p * p) short,
        suc-mul k (office.system_coefficients * (p * p)),
        ap (λ (n : ℕ). n * (office.system_coefficients * (p * p))) (add-one k),
      );
      sum =
          gains.sum p longest_product positive (omega arith)
          ∙ ap₂ (add (modulo p)) so_far.sum (ap₂ (mul (modulo p)) (canonical_polynomial p positive f hf)
          (canonical_polynomial p positive g hg) ∙ sym is)
          ∙ ap (λ (n : ℕ). total_modulo p n term) (sym (add-one k));
    }

pub summing_end : (p : ℕ) (term : ℕ → List ℕ) (count : ℕ) (h : List ℕ) (k : ℕ) → Summing p term count h k → count ≤ k
    → polynomial p h 0 longest_product ≡ total_modulo p count term
summing_end p term count h k done past = done.sum ∙ ap (λ (n : ℕ). total_modulo p n term) (le_antisymm done.within past)
