-- Divisibility of polynomials is decided by the remainder, and the quotient is then exact.
use Rattle.std.specs.Prelude.{◌<◌, ◌≡◌, []}
use Rattle.std.proofs.Common.{sym, ◌∙◌, ap, arith}
use Rattle.ring.specs.Ring.{mul_zero}
use Rattle.algebra.specs.Operations.{Operations}
use Rattle.algebra.specs.Field.{Field, operations}
use Rattle.algebra.specs.Coefficients
use Rattle.algebra.specs.Polynomial.{Polynomial, polynomials, zero_list, list_none}
use Rattle.algebra.specs.Sized.{zero_decided, size_positive}
use Rattle.algebra.specs.Size.{size, sized, size_zero}
use Rattle.algebra.specs.Division.{quotient, remainder, list_remainder, division}
use Rattle.algebra.specs.Division.{remainder_zero, quotient_unique, remainder_unique}
use Rattle.algebra.specs.Divides.{Divides, divides_equal, divides_zero, zero_divides}

module _ {A : Type 0} (F : Field A) where
  abbrev o : Operations A
  o = operations F

  open polynomials F use {add as ◌+◌, mul as ◌*◌, zero as 𝟘, add_zero}

  infixl 65 ◌+◌
  infixl 70 ◌*◌
  -- the quotient and the remainder of a multiple of d
  pub quotient_mul : (q d : Polynomial F) → 0 < size F d → quotient F (q * d) d ≡ q
  quotient_mul q d h = quotient_unique F (q * d) d q 𝟘 (sym (add_zero (q * d))) (omega (arith, size_zero F))

  pub remainder_mul : (q d : Polynomial F) → 0 < size F d → remainder F (q * d) d ≡ 𝟘
  remainder_mul q d h = remainder_unique F (q * d) d q 𝟘 (sym (add_zero (q * d))) (omega (arith, size_zero F))

  -- d divides x just where the remainder is zero
  pub remainder_divides : (x d : Polynomial F) → remainder F x d ≡ 𝟘 → Divides (polynomials F) d x
  remainder_divides x d e = go (zero_decided (sized F) d)
    where
      go : Dec (d ≡ 𝟘) → Divides (polynomials F) d x
      go (yes z) = rw z (divides_equal (sym e ∙ ap (remainder F x) z ∙ remainder_zero F x) (divides_zero 𝟘))
      go (no h) = record {
        cofactor = quotient F x d;
        product = division F x d (size_positive (sized F) d h)
            ∙ ap (λ r. quotient F x d * d + r) e ∙ add_zero (quotient F x d * d);
      }

  pub divides_remainder : (x d : Polynomial F) → Divides (polynomials F) d x → remainder F x d ≡ 𝟘
  divides_remainder x d k = go (zero_decided (sized F) d)
    where
      go : Dec (d ≡ 𝟘) → remainder F x d ≡ 𝟘
      go (yes z) = ap (remainder F x) z ∙ remainder_zero F x ∙ zero_divides (rw z at k)
      go (no h) =
          ap (λ y. remainder F y d) k.product ∙ remainder_mul k.cofactor d (size_positive (sized F) d h)

  -- the same on lists
  pub empty_divides : (x d : Polynomial F) → Coefficients.remainder o x.0 d.0 ≡ [] → Divides (polynomials F) d x
  empty_divides x d e = remainder_divides x d (zero_list F (remainder F x d) (list_remainder F x d ∙ e))

  pub divides_empty : (x d : Polynomial F) → Divides (polynomials F) d x → Coefficients.remainder o x.0 d.0 ≡ []
  divides_empty x d k = sym (list_remainder F x d) ∙ list_none F (remainder F x d) (divides_remainder x d k)

  pub divides_decided : (x d : Polynomial F) → Dec (Divides (polynomials F) d x)
  divides_decided x d = go (zero_decided (sized F) (remainder F x d))
    where
      go : Dec (remainder F x d ≡ 𝟘) → Dec (Divides (polynomials F) d x)
      go (yes e) = yes (remainder_divides x d e)
      go (no h) = no (λ k. h (divides_remainder x d k))

  -- and the quotient is then exact
  pub quotient_exact : (x d : Polynomial F) → Divides (polynomials F) d x → x ≡ quotient F x d * d
  quotient_exact x d k = go (zero_decided (sized F) d)
    where
      go : Dec (d ≡ 𝟘) → x ≡ quotient F x d * d
      go (yes z) =
          zero_divides (rw z at k) ∙ sym (ap (λ e. quotient F x d * e) z ∙ mul_zero (polynomials F) (quotient F x d))
      go (no h) = k.product ∙ ap (λ q. q * d)
          (sym (ap (λ y. quotient F y d) k.product ∙ quotient_mul k.cofactor d (size_positive (sized F) d h)))
