-- Polynomials over a field: canonical lists of coefficients. They are a commutative ring, by their coefficients inside the power
-- series, and its operations are the executable ones of `Coefficients`.
use Prim.Native.Nat.{ℕ}
use Rattle.std.specs.Prelude.{◌≡◌, List, []}
use Rattle.std.proofs.Math.Path.{refl, ap, fun_ext}
use Rattle.std.proofs.Common.{◌∙◌}
use mathlib.Core.HLevel.{Σ_prop_path}
use Rattle.ring.specs.Ring.{Ring}
use Rattle.algebra.specs.Operations.{Operations}
use Rattle.algebra.specs.Field.{Field, operations}
use Rattle.algebra.specs.Coefficients.{coefficient, one, add, negate, mul}
use Rattle.algebra.specs.Series.{series, convolution, unit}
use Rattle.algebra.specs.Pullback.{Embedding, pullback}
use Rattle.algebra.specs.Coefficient.{coefficient_one, coefficient_add, coefficient_negate, coefficient_mul}
use Rattle.algebra.specs.Canonical.{Canonical, canonical_unique, canonical_equal}
use Rattle.algebra.specs.Canonical.{canonical_one, canonical_add, canonical_negate, canonical_mul}

module _ {A : Type 0} (F : Field A) where
  abbrev o : Operations A
  o = operations F

  abbrev pub Polynomial : Type 0
  Polynomial = (f : List A) × Canonical F f

  abbrev pub coefficients : Polynomial → ℕ → A
  coefficients x = coefficient o x.0

  -- two polynomials are equal by their lists, and by their coefficients
  pub equal_lists : (x y : Polynomial) → x.0 ≡ y.0 → x ≡ y
  equal_lists x y e = Σ_prop_path (canonical_unique F) e

  pub equal_coefficients : (x y : Polynomial) → ((n : ℕ) → coefficients x n ≡ coefficients y n) → x ≡ y
  equal_coefficients x y e = equal_lists x y (canonical_equal F x.0 y.0 x.1 y.1 e)

  unfoldable pub embedding : Embedding (series F.ring) coefficients
  unfolding coefficient
  embedding = record {
    add = λ x y. (add o x.0 y.0, canonical_add F x.0 y.0 x.1 y.1);
    mul = λ x y. (mul o x.0 y.0, canonical_mul F x.0 y.0);
    neg = λ x. (negate o x.0, canonical_negate F x.0);
    zero = ([], tt);
    one = (one o, canonical_one F);
    injective = λ x y e. equal_coefficients x y (λ n. ap (λ f. f n) e);
    on_add = λ x y. fun_ext (coefficient_add F x.0 y.0);
    on_mul = λ x y. fun_ext (coefficient_mul F x.0 y.0);
    on_neg = λ x. fun_ext (coefficient_negate F x.0);
    on_zero = refl;
    on_one = fun_ext (coefficient_one F);
  }

  unfoldable pub polynomials : Ring Polynomial
  unfolding embedding
  polynomials = pullback embedding

  open polynomials use {add as ◌+◌, mul as ◌*◌, neg as -◌, zero as 𝟘, one as 𝟙}

  infixl 65 ◌+◌
  infixl 70 ◌*◌
  infix 75 -◌
  -- the ring's operations are the executable ones
  pub list_zero : 𝟘.0 ≡ []
  unfolding polynomials
  list_zero = refl

  pub list_one : 𝟙.0 ≡ one o
  unfolding polynomials
  list_one = refl

  pub list_add : (x y : Polynomial) → (x + y).0 ≡ add o x.0 y.0
  unfolding polynomials
  list_add x y = refl

  pub list_neg : (x : Polynomial) → (- x).0 ≡ negate o x.0
  unfolding polynomials
  list_neg x = refl

  pub list_mul : (x y : Polynomial) → (x * y).0 ≡ mul o x.0 y.0
  unfolding polynomials
  list_mul x y = refl

  -- their coefficients
  pub coefficients_zero : (n : ℕ) → coefficients 𝟘 n ≡ F.ring.zero
  unfolding polynomials coefficient
  coefficients_zero n = refl

  pub coefficients_one : (n : ℕ) → coefficients 𝟙 n ≡ unit F.ring n
  unfolding polynomials
  coefficients_one n = coefficient_one F n

  pub coefficients_add : (x y : Polynomial) (n : ℕ) → coefficients (x + y) n ≡ F.ring.add (coefficients x n) (coefficients y n)
  unfolding polynomials
  coefficients_add x y n = coefficient_add F x.0 y.0 n

  pub coefficients_neg : (x : Polynomial) (n : ℕ) → coefficients (- x) n ≡ F.ring.neg (coefficients x n)
  unfolding polynomials
  coefficients_neg x n = coefficient_negate F x.0 n

  pub coefficients_mul : (x y : Polynomial) (n : ℕ)
      → coefficients (x * y) n ≡ convolution F.ring (coefficients x) (coefficients y) n
  unfolding polynomials
  coefficients_mul x y n = coefficient_mul F x.0 y.0 n

  -- zero is the empty list
  pub list_none : (x : Polynomial) → x ≡ 𝟘 → x.0 ≡ []
  list_none x e = ap (λ y. y.0) e ∙ list_zero

  pub zero_list : (x : Polynomial) → x.0 ≡ [] → x ≡ 𝟘
  unfolding polynomials
  zero_list x e = equal_lists x 𝟘 e
