-- Polynomials over the residues modulo p as the lists of numbers of document 01: the ring's operations are those on lists.
use Prim.Native.Nat.{ℕ, zero, suc, ◌<◌}
use Rattle.std.specs.Prelude.{◌≡◌, List, [], map, length}
use Rattle.std.proofs.Math.Path.{refl, sym, ap}
use Rattle.std.proofs.Common.{◌∙◌, ap₂}
use Rattle.std.proofs.lemmas.List.{length-map}
use Rattle.ring.specs.Ring.{Ring}
use Rattle.ring.specs.Sum.{sum}
use Rattle.algebra.specs.Field.{Field, operations}
use Rattle.algebra.specs.Transfer
use Rattle.algebra.specs.Transfer.{Homomorphism}
use Rattle.algebra.specs.Coefficients
use Rattle.algebra.specs.Polynomial.{Polynomial, polynomials, coefficients}
use Rattle.algebra.specs.Size.{size, size_none}
use Rattle.algebra.specs.Divides.{Divides as DividesIn}
use Rattle.algebra.specs.Monic.{Monic as MonicIn, monic}
use Rattle.algebra.specs.Division.{quotient}
use Rattle.algebra.specs.Gcd.{gcd}
use Rattle.modular.specs.Prime.{Prime}
use Rattle.modular.specs.Modulo.{modulo}
use Rattle.modular.specs.Canonical.{Canonical}
use Rattle.modular.specs.Residue.{Residue, value, residue_ext, residues, value_homomorphism}
use Rattle.modular.specs.Values.{canonical_values}
use Rattle.truth.specs.Solution.{total_modulo, DividesModulo, Monic}
use Rattle.truth.specs.Listed.{total_ext}

module _ (p : ℕ) (prime : Prime p) where
  abbrev F : Field (Residue p)
  F = residues p prime

  abbrev R : Ring (Polynomial (residues p prime))
  R = polynomials (residues p prime)

  abbrev h : Homomorphism (operations (residues p prime)) (modulo p) value
  h = value_homomorphism p prime

  -- the numbers of the coefficients
  abbrev pub list_of : Polynomial (residues p prime) → List ℕ
  list_of x = map value x.0

  pub list_canonical : (x : Polynomial F) → Canonical p (list_of x)
  list_canonical x = canonical_values p prime x.0 x.1

  pub list_length : (x : Polynomial F) → length (list_of x) ≡ size F x
  list_length x = length-map x.0 value

  pub list_coefficient : (x : Polynomial F) (n : ℕ) → Coefficients.coefficient (modulo p) (list_of x) n ≡ (coefficients F x n).value
  list_coefficient x n = sym (Transfer.map_coefficient h x.0 n)

  pub list_zero : list_of R.zero ≡ []
  unfolding polynomials
  list_zero = refl

  pub list_none : (x : Polynomial F) → list_of x ≡ [] → x ≡ R.zero
  list_none x e = size_none F x (sym (list_length x) ∙ ap length e)

  pub list_mul : (x y : Polynomial F) → list_of (R.mul x y) ≡ Coefficients.mul (modulo p) (list_of x) (list_of y)
  unfolding polynomials
  list_mul x y = Transfer.map_mul h x.0 y.0

  pub list_add : (x y : Polynomial F) → list_of (R.add x y) ≡ Coefficients.add (modulo p) (list_of x) (list_of y)
  unfolding polynomials
  list_add x y = Transfer.map_add h x.0 y.0

  pub list_sum : (n : ℕ) (f : ℕ → Polynomial F) → list_of (sum R n f) ≡ total_modulo p n (λ i. list_of (f i))
  unfolding polynomials sum total_modulo
  list_sum zero f = refl
  list_sum (suc n) f =
      list_add (sum R n f) (f n) ∙ ap (λ t. Coefficients.add (modulo p) t (list_of (f n))) (list_sum n f)

  -- a sum of products whose factors are given as lists
  pub list_products : (n : ℕ) (x y : ℕ → Polynomial F) (f g : ℕ → List ℕ)
      → ((i : ℕ) → i < n → f i ≡ list_of (x i)) → ((i : ℕ) → i < n → g i ≡ list_of (y i))
      → total_modulo p n (λ i. Coefficients.mul (modulo p) (f i) (g i)) ≡ list_of (sum R n (λ i. R.mul (x i) (y i)))
  list_products n x y f g ef eg =
      total_ext p n (λ i. Coefficients.mul (modulo p) (f i) (g i)) (λ i. list_of (R.mul (x i) (y i)))
      (λ i l. ap₂ (Coefficients.mul (modulo p)) (ef i l) (eg i l) ∙ sym (list_mul (x i) (y i)))
      ∙ sym (list_sum n (λ i. R.mul (x i) (y i)))

  pub list_divides : {d x : Polynomial F} → DividesIn R d x → DividesModulo p (list_of d) (list_of x)
  list_divides {d} {x} w = record {
    quotient = list_of w.cofactor;
    canonical = list_canonical w.cofactor;
    product = ap list_of w.product ∙ list_mul w.cofactor d;
  }

  pub list_is_monic : (x : Polynomial F) → MonicIn F x → Monic p (list_of x)
  unfolding Monic residues
  list_is_monic x m = sym (Transfer.map_leading h x.0) ∙ ap value m

  pub is_monic_list : (x : Polynomial F) → Monic p (list_of x) → MonicIn F x
  unfolding Monic residues
  is_monic_list x m = residue_ext _ _ (Transfer.map_leading h x.0 ∙ m)

  pub list_monic : (x : Polynomial F) → list_of (monic F x) ≡ Coefficients.monic (modulo p) (list_of x)
  unfolding monic
  list_monic x = Transfer.map_monic h x.0

  pub list_quotient : (x d : Polynomial F) → list_of (quotient F x d) ≡ Coefficients.quotient (modulo p) (list_of x) (list_of d)
  unfolding quotient
  list_quotient x d = Transfer.map_quotient h x.0 d.0

  pub list_gcd : (x y : Polynomial F) → list_of (gcd F x y) ≡ Coefficients.gcd (modulo p) (list_of x) (list_of y)
  unfolding gcd
  list_gcd x y = Transfer.map_gcd h x.0 y.0
