-- Polynomials modulo a prime p as canonical lists of numbers: the ring K[x] of document 01, with the executable operations over
-- `modulo p`.
use Rattle.std.specs.Prelude.{◌≡◌, List, [], ℕ, ◌<◌, length}
use Rattle.std.proofs.Math.Path.{refl, ap, ap₂}
use Rattle.std.proofs.Common.{sym, ◌∙◌}
use Rattle.ring.specs.Ring.{Ring}
use Rattle.algebra.specs.Operations.{Operations}
use Rattle.algebra.specs.Field.{Field, operations}
use Rattle.algebra.specs.Coefficients
use Rattle.algebra.specs.Transfer.{Homomorphism, map_one, map_add, map_negate, map_mul}
use Rattle.algebra.specs.Pullback.{Embedding, pullback}
use Rattle.algebra.specs.Polynomial.{polynomials}
use Rattle.modular.specs.Prime.{Prime}
use Rattle.modular.specs.Primality.{prime_positive}
use Rattle.modular.specs.Modulo.{modulo}
use Rattle.modular.specs.Residue.{Residue, value, residues, value_homomorphism}
use Rattle.modular.specs.Closed
use Rattle.modular.specs.Coefficientwise.{leading_below}
use Rattle.modular.specs.Values.{NumberPolynomial, to_residues, to_residues_list, to_residues_is, to_residues_injective}

module _ (p : ℕ) (prime : Prime p) where
  abbrev F : Field (Residue p)
  F = residues p prime

  abbrev o : Operations ℕ
  o = modulo p

  abbrev positive : 0 < p
  positive = prime_positive p prime

  abbrev h : Homomorphism (operations F) (modulo p) value
  h = value_homomorphism p prime

  abbrev residues_of : NumberPolynomial p → List (Residue p)
  residues_of x = (to_residues p prime x).0

  embedding : Embedding (polynomials F) (to_residues p prime)
  unfolding polynomials
  embedding = record {
    add = λ x y. (Coefficients.add o x.0 y.0, Closed.canonical_add p positive x.0 y.0 x.1 y.1);
    mul = λ x y. (Coefficients.mul o x.0 y.0, Closed.canonical_mul p positive x.0 y.0);
    neg = λ x. (Coefficients.negate o x.0, Closed.canonical_negate p positive x.0);
    zero = ([], Closed.canonical_nil p);
    one = (Coefficients.one o, Closed.canonical_one p prime.large);
    injective = to_residues_injective p prime;
    on_add = λ x y. to_residues_is p prime _ _ (sym (map_add h (residues_of x) (residues_of y)
        ∙ ap₂ (Coefficients.add o) (to_residues_list p prime x) (to_residues_list p prime y)));
    on_mul = λ x y. to_residues_is p prime _ _ (sym (map_mul h (residues_of x) (residues_of y)
        ∙ ap₂ (Coefficients.mul o) (to_residues_list p prime x) (to_residues_list p prime y)));
    on_neg = λ x. to_residues_is p prime _ _ (sym (map_negate h (residues_of x)
        ∙ ap (Coefficients.negate o) (to_residues_list p prime x)));
    on_zero = to_residues_is p prime _ _ refl;
    on_one = to_residues_is p prime _ _ (sym (map_one h));
  }

  unfoldable pub numbers : Ring (NumberPolynomial p)
  unfolding embedding
  numbers = pullback embedding

  -- the ring's operations are the executable ones
  pub list_zero : numbers.zero.0 ≡ []
  unfolding numbers
  list_zero = refl

  pub list_one : numbers.one.0 ≡ Coefficients.one o
  unfolding numbers
  list_one = refl

  pub list_add : (x y : NumberPolynomial p) → (numbers.add x y).0 ≡ Coefficients.add o x.0 y.0
  unfolding numbers
  list_add x y = refl

  pub list_neg : (x : NumberPolynomial p) → (numbers.neg x).0 ≡ Coefficients.negate o x.0
  unfolding numbers
  list_neg x = refl

  pub list_mul : (x y : NumberPolynomial p) → (numbers.mul x y).0 ≡ Coefficients.mul o x.0 y.0
  unfolding numbers
  list_mul x y = refl

  -- the other operations
  abbrev pub size : NumberPolynomial p → ℕ
  size x = length x.0

  abbrev pub constant : Residue p → NumberPolynomial p
  constant c = (Coefficients.constant o c.value, Closed.canonical_constant p c.value c.below)

  abbrev pub scale : Residue p → NumberPolynomial p → NumberPolynomial p
  scale c x = (Coefficients.scale o c.value x.0, Closed.canonical_scale p positive c.value x.0)

  abbrev pub shift : ℕ → NumberPolynomial p → NumberPolynomial p
  shift k x = (Coefficients.shift o k x.0, Closed.canonical_shift p positive k x.0 x.1)

  abbrev pub leading : NumberPolynomial p → Residue p
  leading x = record { value = Coefficients.leading o x.0; below = leading_below p positive x.0 x.1 }

  abbrev pub Monic : NumberPolynomial p → Type 0
  Monic x = Coefficients.leading o x.0 ≡ 1

  abbrev pub monic : NumberPolynomial p → NumberPolynomial p
  monic x = (Coefficients.monic o x.0, Closed.canonical_monic p positive x.0)

  abbrev pub quotient : NumberPolynomial p → NumberPolynomial p → NumberPolynomial p
  quotient x d = (Coefficients.quotient o x.0 d.0, Closed.canonical_quotient p positive x.0 d.0 x.1)

  abbrev pub remainder : NumberPolynomial p → NumberPolynomial p → NumberPolynomial p
  remainder x d = (Coefficients.remainder o x.0 d.0, Closed.canonical_remainder p positive x.0 d.0 x.1)

  abbrev pub gcd : NumberPolynomial p → NumberPolynomial p → NumberPolynomial p
  gcd x y = (Coefficients.gcd o x.0 y.0, Closed.canonical_gcd p positive x.0 y.0)
