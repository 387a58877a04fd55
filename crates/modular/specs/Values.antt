-- Polynomials over the residues modulo a prime and canonical lists of numbers: a bijection, by the value of each coefficient.
use Rattle.std.specs.Prelude.{◌≡◌, ℕ, suc, length}
use Rattle.std.proofs.Math.Path.{refl, ap}
use Rattle.std.proofs.Common.{sym, ◌∙◌, ap₂, arith}
use mathlib.Core.List.{List, [], ◌∷◌, map}
use mathlib.Core.HLevel.{Unit-prop, ×₃_prop, Σ_prop_path}
use Rattle.std.proofs.Math.Bridge.{le_prop}
use Rattle.algebra.specs.Canonical.{Canonical as Canonicalᶠ}
use Rattle.algebra.specs.Polynomial.{Polynomial, equal_lists}
use Rattle.modular.specs.Prime.{Prime}
use Rattle.modular.specs.Residue.{Residue, value, residue_ext, residue_positive, residues}
use Rattle.modular.specs.Canonical.{Canonical, LastNonzero}

-- a canonical list of numbers: a polynomial modulo p as a value
abbrev pub NumberPolynomial : ℕ → Type 0
NumberPolynomial p = (f : List ℕ) × Canonical p f

ends_unique : (a : ℕ) (f : List ℕ) → IsProp (LastNonzero a f)
unfolding LastNonzero
ends_unique a [] = le_prop {n = 1} {m = a}
ends_unique a (b ∷ f) = Unit-prop

pub canonical_unique : (p : ℕ) (f : List ℕ) → IsProp (Canonical p f)
unfolding Canonical
canonical_unique p [] = Unit-prop
canonical_unique p (a ∷ f) = ×₃_prop (le_prop {n = suc a} {m = p}) (ends_unique a f) (canonical_unique p f)

-- the list decides
pub equal_numbers : (p : ℕ) (x y : NumberPolynomial p) → x.0 ≡ y.0 → x ≡ y
equal_numbers p x y e = Σ_prop_path (canonical_unique p) e

values_injective : {p : ℕ} (f g : List (Residue p)) → map value f ≡ map value g → f ≡ g
values_injective [] [] e = refl
values_injective [] (b ∷ g) e = let z : 0 ≡ suc (length (map value g)) = ap length e in absurd (omega arith)
values_injective (a ∷ f) [] e = let z : suc (length (map value f)) ≡ 0 = ap length e in absurd (omega arith)
values_injective (a ∷ f) (b ∷ g) e = ap₂ ◌∷◌ (residue_ext a b (cc)) (values_injective f g (cc))

module _ (p : ℕ) (prime : Prime p) where
  pub canonical_values : (f : List (Residue p)) → Canonicalᶠ (residues p prime) f → Canonical p (map value f)
  unfolding Canonical LastNonzero residues
  canonical_values [] h = tt
  canonical_values (a ∷ []) h = (a.below, residue_positive p prime.large a h, tt)
  canonical_values (a ∷ b ∷ f) h = (a.below, tt, canonical_values (b ∷ f) h)

  with_bounds : (f : List ℕ) → Canonical p f → List (Residue p)
  unfolding Canonical
  with_bounds [] h = []
  with_bounds (a ∷ f) h = record { value = a; below = h.0 } ∷ with_bounds f h.2

  canonical_with_bounds : (f : List ℕ) (h : Canonical p f) → Canonicalᶠ (residues p prime) (with_bounds f h)
  unfolding Canonical LastNonzero with_bounds residues
  canonical_with_bounds [] h = tt
  canonical_with_bounds (a ∷ []) h = λ e. let z : a ≡ 0 = ap value e in omega (arith, h.1)
  canonical_with_bounds (a ∷ b ∷ f) h = canonical_with_bounds (b ∷ f) h.2

  values_with_bounds : (f : List ℕ) (h : Canonical p f) → map value (with_bounds f h) ≡ f
  unfolding Canonical with_bounds
  values_with_bounds [] h = refl
  values_with_bounds (a ∷ f) h = ap (λ g. a ∷ g) (values_with_bounds f h.2)

  -- there and back
  unfoldable pub to_numbers : Polynomial (residues p prime) → NumberPolynomial p
  to_numbers x = (map value x.0, canonical_values x.0 x.1)

  pub to_residues : NumberPolynomial p → Polynomial (residues p prime)
  to_residues x = (with_bounds x.0 x.1, canonical_with_bounds x.0 x.1)

  pub to_residues_list : (x : NumberPolynomial p) → map value (to_residues x).0 ≡ x.0
  unfolding to_residues
  to_residues_list x = values_with_bounds x.0 x.1

  -- the residues of x are y, seen from their numbers
  pub to_residues_is : (x : NumberPolynomial p) (y : Polynomial (residues p prime)) → x.0 ≡ map value y.0 → to_residues x ≡ y
  to_residues_is x y e =
      equal_lists (residues p prime) (to_residues x) y (values_injective (to_residues x).0 y.0 (to_residues_list x ∙ e))

  pub to_residues_to_numbers : (x : Polynomial (residues p prime)) → to_residues (to_numbers x) ≡ x
  unfolding to_numbers
  to_residues_to_numbers x = to_residues_is (to_numbers x) x refl

  pub to_numbers_to_residues : (x : NumberPolynomial p) → to_numbers (to_residues x) ≡ x
  unfolding to_numbers
  to_numbers_to_residues x = equal_numbers p (to_numbers (to_residues x)) x (to_residues_list x)

  pub to_residues_injective : (x y : NumberPolynomial p) → to_residues x ≡ to_residues y → x ≡ y
  to_residues_injective x y e = sym (to_numbers_to_residues x) ∙ ap to_numbers e ∙ to_numbers_to_residues y
