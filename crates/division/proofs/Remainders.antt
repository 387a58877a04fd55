-- The invariant of Euclid's loop: the pair at hand has the greatest common divisor of the pair at the start.
use mathlib.Core.Path.{◌≡◌, refl, sym, ap, ◌∙◌}
use mathlib.Core.List.{List, [], ◌∷◌}
use Prim.Native.Nat.{ℕ, ◌≤◌, ◌<◌}
use native.Mathlib.Omega.{arith}
use lib.ListN.{length}
use Rattle.algebra.specs.Coefficients.{remainder, monic, gcd}
use Rattle.modular.specs.Prime.{Prime}
use Rattle.modular.specs.Modulo.{modulo}
use Rattle.modular.specs.Lists.{length_remainder, gcd_nil, gcd_step}
use Rattle.polynomial.specs.declared.value.Polynomial.{Polynomial}
use Rattle.polynomial.specs.Value.{coefficients_of, ValidPolynomial, Represents, size_length, represents_is}

pub record Descending (p : ℕ) (f g a b : Polynomial) : Type 0 where
  pub first : ValidPolynomial p a
  pub second : ValidPolynomial p b
  pub same : gcd (modulo p) (coefficients_of a) (coefficients_of b) ≡ gcd (modulo p) (coefficients_of f) (coefficients_of g)

pub descending_start : (p : ℕ) (f g : Polynomial) → ValidPolynomial p f → ValidPolynomial p g → Descending p f g f g
descending_start p f g hf hg = record { first = hf; second = hg; same = refl }

nothing : (l : List ℕ) → length l ≡ 0 → l ≡ []
nothing [] e = refl
nothing (a ∷ l) e = absurd (omega arith)

module _ (p : ℕ) (prime : Prime p) (f g a b : Polynomial) (so_far : Descending p f g a b) where
  abbrev A : List ℕ
  A = coefficients_of a

  abbrev B : List ℕ
  B = coefficients_of b

  module _ (some : 0 < b.size) (r : Polynomial) (is : Represents p r (remainder (modulo p) A B)) where
    positive : 0 < length B
    positive = omega (arith, size_length p b so_far.second)

    pub descending_turn : Descending p f g b r
    descending_turn = record {
      first = so_far.second;
      second = is.valid;
      same =
          ap (gcd (modulo p) B) is.same
          ∙ sym (gcd_step p prime A B so_far.first.canonical so_far.second.canonical positive)
          ∙ so_far.same;
    }

    pub descending_less : r.size < b.size
    descending_less =
        omega (
          arith,
          length_remainder p prime A B so_far.first.canonical so_far.second.canonical positive,
          ap length is.same,
          size_length p r is.valid,
          size_length p b so_far.second,
        )

  pub descending_end : b.size ≤ 0 → (r : Polynomial) → Represents p r (monic (modulo p) A) →
      Represents p r (gcd (modulo p) (coefficients_of f) (coefficients_of g))
  descending_end none r is =
      let zero : B ≡ [] = nothing B (size_length p b so_far.second ∙ omega arith) in
      represents_is is (sym (gcd_nil p prime A) ∙ ap (gcd (modulo p) A) (sym zero) ∙ so_far.same)
