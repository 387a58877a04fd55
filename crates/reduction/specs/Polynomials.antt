-- The instance: polynomials over a field. So every system over K[x] has a right certificate.
use Rattle.std.specs.Prelude.{◌<◌, ◌≡◌}
use Rattle.std.proofs.Common.{sym, ◌∙◌, ap}
use Rattle.algebra.specs.Field.{Field, inverse_mul}
use Rattle.algebra.specs.Polynomial.{Polynomial, polynomials}
use Rattle.algebra.specs.Expressions.{constant, scale, scale_constant, scale_scale, scale_one}
use Rattle.algebra.specs.Size.{size, leading, sized, leading_positive}
use Rattle.algebra.specs.Cancellation.{multiplier, size_multiplier, size_cancelled}
use Rattle.algebra.specs.Division.{quotient, remainder, division, size_remainder}
use Rattle.algebra.specs.Monic.{Monic, monic_scale, monic_monic, monic_nonzero, monic_mul}
use Rattle.reduction.specs.Euclidean.{Associate, Euclidean}
use Rattle.reduction.specs.System.{LinearSystem}
use Rattle.reduction.specs.Existence.{RankCertified, certificate_exists}

module _ {K : Type 0} (F : Field K) where
  open polynomials F use {mul as ◌*◌, one as 𝟙, mul_one}

  infixl 70 ◌*◌
  -- constants that are inverse to each other
  constants : (a b : K) → F.ring.mul a b ≡ F.ring.one → constant F a * constant F b ≡ 𝟙
  constants a b e =
      sym (scale_constant F a (constant F b))
      ∙ ap (scale F a) (sym (scale_constant F b 𝟙 ∙ mul_one (constant F b)))
      ∙ scale_scale F a b 𝟙
      ∙ ap (λ c. scale F c 𝟙) e
      ∙ scale_one F 𝟙

  -- divided by its leading coefficient
  pub associate : (x : Polynomial F) → 0 < size F x → Associate (sized F) (Monic F) x
  associate x h = record {
    unit = constant F (F.inverse (leading F x));
    inverse = constant F (leading F x);
    unit_inverse = constants (F.inverse (leading F x)) (leading F x) (inverse_mul F (leading F x) (leading_positive F x h));
    monic =
        ap (leading F) (sym (scale_constant F (F.inverse (leading F x)) x) ∙ sym (monic_scale F x))
        ∙ monic_monic F x h;
  }

  abbrev pub euclidean : Euclidean (sized F)
  euclidean = record {
    cancel = λ x y p l. record {
      factor = multiplier F x y;
      shift = size_multiplier F x y p l;
      smaller = size_cancelled F x y p l;
    };
    divide = λ x y p. record {
      quotient = quotient F x y;
      remainder = remainder F x y;
      equal = division F x y p;
      smaller = size_remainder F x y p;
    };
    Monic = Monic F;
    monic_nonzero = monic_nonzero F;
    monic_mul = monic_mul F;
    associate = associate;
  }

  pub polynomials_certified : (T : LinearSystem (sized F)) → RankCertified euclidean T
  polynomials_certified = certificate_exists euclidean
