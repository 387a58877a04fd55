-- Vectors of polynomials over the residues modulo p, and lists of lists of numbers: there and back.
use Rattle.std.specs.Prelude.{ℕ, zero, suc, ◌<◌, ◌≡◌, List, [], ◌∷◌, length, get_or}
use Rattle.std.proofs.Math.Path.{sym}
use Rattle.std.proofs.Common.{◌∙◌, ap₂, arith}
use Rattle.ring.specs.Ring.{Ring}
use Rattle.algebra.specs.Polynomial.{Polynomial, polynomials}
use Rattle.algebra.specs.Coefficients
use Rattle.algebra.specs.Divides.{Divides as DividesIn}
use Rattle.modular.specs.Prime.{Prime}
use Rattle.modular.specs.Modulo.{modulo}
use Rattle.modular.specs.Canonical.{Canonical}
use Rattle.modular.specs.Residue.{residues}
use Rattle.modular.specs.Values.{to_numbers, to_residues, to_residues_list, to_residues_is, to_residues_to_numbers}
use Rattle.truth.specs.Solution.{AllCanonical, DividesModulo}
use Rattle.truth.specs.Lift.{canonical_at}
use Rattle.truth.specs.Listed.{listed, listed_at}
use Rattle.solve_meaning.specs.Lists.{list_of, list_canonical, list_mul}

all_canonical : (p n : ℕ) (f : ℕ → List ℕ) → ((i : ℕ) → i < n → Canonical p (f i)) → AllCanonical p (listed n f)
unfolding listed AllCanonical
all_canonical p zero f h = tt
all_canonical p (suc n) f h = (h 0 (omega arith), all_canonical p n (λ i. f (suc i)) (λ i k. h (suc i) (omega arith)))

-- a list of polynomials, each by itself
canonical_each : (p : ℕ) (fs : List (List ℕ)) → ((i : ℕ) → i < length fs → Canonical p (get_or fs i [])) → AllCanonical p fs
unfolding AllCanonical
canonical_each p [] h = tt
canonical_each p (f ∷ fs) h = (h 0 (omega arith), canonical_each p fs (λ i k. h (suc i) (omega arith)))

module _ (p : ℕ) (prime : Prime p) where
  abbrev R : Ring (Polynomial (residues p prime))
  R = polynomials (residues p prime)

  abbrev list : Polynomial (residues p prime) → List ℕ
  list = list_of p prime

  pub list_injective : (x y : Polynomial (residues p prime)) → list_of p prime x ≡ list_of p prime y → x ≡ y
  unfolding to_numbers
  list_injective x y e = sym (to_residues_to_numbers p prime x) ∙ to_residues_is p prime (to_numbers p prime x) y e

  -- from polynomials to lists
  abbrev pub lists : ℕ → (ℕ → Polynomial (residues p prime)) → List (List ℕ)
  lists n x = listed n (λ i. list_of p prime (x i))

  pub lists_at : (n : ℕ) (x : ℕ → Polynomial (residues p prime)) (i : ℕ) → i < n → get_or (lists n x) i [] ≡ list_of p prime (x i)
  lists_at n x = listed_at n (λ i. list_of p prime (x i)) []

  pub lists_canonical : (n : ℕ) (x : ℕ → Polynomial (residues p prime)) → AllCanonical p (lists n x)
  lists_canonical n x = all_canonical p n (λ i. list_of p prime (x i)) (λ i h. list_canonical p prime (x i))

  pub all_canonical_lists : (n : ℕ) (x : ℕ → Polynomial (residues p prime)) (fs : List (List ℕ)) → length fs ≡ n
      → ((i : ℕ) → i < n → get_or fs i [] ≡ list_of p prime (x i)) → AllCanonical p fs
  all_canonical_lists n x fs count e = canonical_each p fs (λ i k. rw (e i (omega arith)) (list_canonical p prime (x i)))

  -- and from lists to polynomials
  abbrev pub polynomial_modulo : (f : List ℕ) → Canonical p f → Polynomial (residues p prime)
  polynomial_modulo f h = to_residues p prime (f, h)

  pub polynomial_list : (f : List ℕ) (h : Canonical p f) → f ≡ list_of p prime (polynomial_modulo f h)
  polynomial_list f h = sym (to_residues_list p prime (f, h))

  abbrev pub vector_modulo : (fs : List (List ℕ)) → AllCanonical p fs → ℕ → Polynomial (residues p prime)
  vector_modulo fs h i = polynomial_modulo (get_or fs i []) (canonical_at p fs h i)

  pub vector_list : (fs : List (List ℕ)) (h : AllCanonical p fs) (i : ℕ) → get_or fs i [] ≡ list_of p prime (vector_modulo fs h i)
  vector_list fs h i = polynomial_list (get_or fs i []) (canonical_at p fs h i)

  -- what divides as lists divides
  pub polynomial_divides : (d x : Polynomial (residues p prime)) (f g : List ℕ) → f ≡ list_of p prime d → g ≡ list_of p prime x
      → DividesModulo p f g → DividesIn (polynomials (residues p prime)) d x
  polynomial_divides d x f g ef eg w = record {
    cofactor = polynomial_modulo w.quotient w.canonical;
    product = list_injective x (R.mul (polynomial_modulo w.quotient w.canonical) d)
        (sym eg ∙ w.product ∙ ap₂ (Coefficients.mul (modulo p)) (polynomial_list w.quotient w.canonical) ef
        ∙ sym (list_mul p prime (polynomial_modulo w.quotient w.canonical) d));
  }
