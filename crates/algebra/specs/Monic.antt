-- Monic polynomials: the leading coefficient is one. Each polynomial that is not zero has just one monic associate.
use Rattle.std.specs.Prelude.{ℕ, zero, suc, ◌<◌, ◌≡◌}
use Rattle.std.proofs.Math.Path.{refl}
use Rattle.std.proofs.Common.{sym, ◌∙◌, ap, ap₂, arith}
use Rattle.ring.specs.Ring.{Ring, one_mul}
use Rattle.algebra.specs.Operations.{Operations}
use Rattle.algebra.specs.Field.{Field, operations, inverse_mul, inverse_nonzero, inverse_one}
use Rattle.algebra.specs.Coefficients
use Rattle.algebra.specs.Series.{unit}
use Rattle.algebra.specs.Canonical.{canonical_monic}
use Rattle.algebra.specs.Polynomial.{Polynomial, polynomials, coefficients, equal_lists}
use Rattle.algebra.specs.Polynomial.{equal_coefficients, zero_list, coefficients_one}
use Rattle.algebra.specs.Expressions.{constant, scale, scale_constant, scale_scale, scale_one}
use Rattle.algebra.specs.Sized.{zero_decided, size_positive, mul_nonzero_right}
use Rattle.algebra.specs.Size.{size, leading, sized, size_mul, coefficients_last, coefficients_beyond}
use Rattle.algebra.specs.Size.{leading_zero, leading_one, leading_positive, leading_mul, leading_scale}
use Rattle.algebra.specs.Divides.{Divides, divides_equal, divides_zero, divides_size}

module _ {A : Type 0} (F : Field A) where
  abbrev o : Operations A
  o = operations F

  abbrev K : Ring A
  K = F.ring

  open polynomials F use {mul as ◌*◌, zero as 𝟘, one as 𝟙}

  infixl 70 ◌*◌
  abbrev pub Monic : Polynomial F → Type 0
  Monic x = leading F x ≡ K.one

  unfoldable pub monic : Polynomial F → Polynomial F
  monic x = (Coefficients.monic o x.0, canonical_monic F x.0)

  pub list_monic : (x : Polynomial F) → (monic x).0 ≡ Coefficients.monic o x.0
  unfolding monic
  list_monic x = refl

  pub monic_scale : (x : Polynomial F) → monic x ≡ scale F (F.inverse (leading F x)) x
  unfolding monic scale Coefficients.monic
  monic_scale x = equal_lists F (monic x) (scale F (F.inverse (leading F x)) x) refl

  pub monic_zero : monic 𝟘 ≡ 𝟘
  unfolding monic polynomials Coefficients.monic
  monic_zero = zero_list F (monic 𝟘) refl

  -- what is monic
  pub monic_nonzero : (x : Polynomial F) → Monic x → ¬ (x ≡ 𝟘)
  monic_nonzero x h e = F.one_nonzero (sym h ∙ ap (leading F) e ∙ leading_zero F)

  pub monic_positive : (x : Polynomial F) → Monic x → 0 < size F x
  monic_positive x h = size_positive (sized F) x (monic_nonzero x h)

  pub monic_one : Monic 𝟙
  monic_one = leading_one F

  pub monic_monic : (x : Polynomial F) → 0 < size F x → Monic (monic x)
  monic_monic x h =
      ap (leading F) (monic_scale x)
      ∙ leading_scale F (F.inverse (leading F x)) x (inverse_nonzero F (leading F x) (leading_positive F x h)) h
      ∙ inverse_mul F (leading F x) (leading_positive F x h)

  pub monic_same : (x : Polynomial F) → Monic x → monic x ≡ x
  monic_same x h = monic_scale x ∙ ap (λ a. scale F a x) (ap F.inverse h ∙ inverse_one F) ∙ scale_one F x

  pub monic_mul : (x y : Polynomial F) → Monic x → Monic y → Monic (x * y)
  monic_mul x y hx hy = leading_mul F x y (monic_positive x hx) (monic_positive y hy) ∙ ap₂ K.mul hx hy ∙ K.mul_one K.one

  pub monic_cofactor : (x y : Polynomial F) → Monic x → Monic (x * y) → Monic y
  monic_cofactor x y hx h =
      sym (leading_mul F x y (monic_positive x hx) (size_positive (sized F) y nonzero)
      ∙ ap (λ a. K.mul a (leading F y)) hx ∙ one_mul K (leading F y))
      ∙ h
    where
      nonzero : ¬ (y ≡ 𝟘)
      nonzero = mul_nonzero_right (sized F) x y (monic_nonzero (x * y) h)

  pub monic_unit : (x : Polynomial F) → Monic x → size F x ≡ 1 → x ≡ 𝟙
  monic_unit x h e = equal_coefficients F x 𝟙 (λ n. at n ∙ sym (coefficients_one F n))
    where
      at : (n : ℕ) → coefficients F x n ≡ unit K n
      at zero = coefficients_last F x 0 e ∙ h
      at (suc n) = coefficients_beyond F x (suc n) (omega arith)

  -- associates: x and `monic x` divide each other, and monic polynomials that do are equal
  pub divides_monic : (x : Polynomial F) → Divides (polynomials F) x (monic x)
  divides_monic x = record {
    cofactor = constant F (F.inverse (leading F x));
    product = monic_scale x ∙ scale_constant F (F.inverse (leading F x)) x;
  }

  pub monic_divides : (x : Polynomial F) → Divides (polynomials F) (monic x) x
  monic_divides x = go (zero_decided (sized F) x)
    where
      back : ¬ (leading F x ≡ K.zero) → x ≡ constant F (leading F x) * monic x
      back h =
          sym (scale_one F x)
          ∙ ap (λ a. scale F a x) (sym (F.mul_inverse (leading F x) h))
          ∙ sym (scale_scale F (leading F x) (F.inverse (leading F x)) x)
          ∙ ap (scale F (leading F x)) (sym (monic_scale x))
          ∙ scale_constant F (leading F x) (monic x)

      go : Dec (x ≡ 𝟘) → Divides (polynomials F) (monic x) x
      go (yes e) = divides_equal (sym e) (divides_zero (monic x))
      go (no h) = record {
        cofactor = constant F (leading F x);
        product = back (leading_positive F x (size_positive (sized F) x h));
      }

  pub monic_associates : (x y : Polynomial F) → Monic x → Monic y
      → Divides (polynomials F) x y → Divides (polynomials F) y x → x ≡ y
  monic_associates x y hx hy h k =
      sym (h.product ∙ ap (λ c. c * x) (monic_unit h.cofactor cofactor_monic cofactor_size) ∙ one_mul (polynomials F) x)
    where
      cofactor_monic : Monic h.cofactor
      cofactor_monic = monic_cofactor x h.cofactor hx
          (ap (leading F) ((polynomials F).mul_comm x h.cofactor ∙ sym h.product) ∙ hy)

      cofactor_size : size F h.cofactor ≡ 1
      cofactor_size = omega (
        arith,
        ap (size F) h.product,
        size_mul F h.cofactor x (monic_positive h.cofactor cofactor_monic) (monic_positive x hx),
        divides_size (sized F) h (monic_nonzero y hy),
        divides_size (sized F) k (monic_nonzero x hx),
      )
