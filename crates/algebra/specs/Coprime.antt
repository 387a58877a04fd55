-- Coprime polynomials: the greatest common divisor is one.
use Rattle.std.specs.Prelude.{◌<◌, ◌+◌ as ◌+ₙ◌, ◌≡◌, refl, [], ◌∷◌}
use Rattle.std.proofs.Common.{◌∙◌, ap₂}
use Rattle.ring.specs.Identity.{quotes, identity}
use Rattle.ring.specs.Combination.{given, combination}
use Rattle.algebra.specs.Field.{Field}
use Rattle.algebra.specs.Polynomial.{Polynomial, polynomials}
use Rattle.algebra.specs.Sized.{mul_cancel}
use Rattle.algebra.specs.Size.{size, sized}
use Rattle.algebra.specs.Division.{quotient}
use Rattle.algebra.specs.Divides.{Divides, one_divides}
use Rattle.algebra.specs.Exact.{quotient_exact}
use Rattle.algebra.specs.Monic.{monic_one, monic_nonzero}
use Rattle.algebra.specs.Bezout.{Greatest, bezout_divides}
use Rattle.algebra.specs.Gcd.{gcd, gcd_common, gcd_left, gcd_right, gcd_monic, gcd_unique, gcd_comm}

module _ {A : Type 0} (F : Field A) where
  open polynomials F use {add as ◌+◌, mul as ◌*◌, one as 𝟙, mul_one}

  infixl 65 ◌+◌
  infixl 70 ◌*◌
  abbrev pub Coprime : Polynomial F → Polynomial F → Type 0
  Coprime x y = gcd F x y ≡ 𝟙

  pub coprime_comm : (x y : Polynomial F) → Coprime x y → Coprime y x
  coprime_comm x y h = gcd_comm F y x ∙ h

  -- just where a combination is one
  pub bezout_coprime : (x y s t : Polynomial F) → 𝟙 ≡ s * x + t * y → Coprime x y
  bezout_coprime x y s t e = gcd_unique F x y 𝟙 (monic_one F)
      (record { left = one_divides x; right = one_divides y; s = s; t = t; bezout = e })

  pub coprime_bezout : (x y : Polynomial F) → Coprime x y → Greatest (polynomials F) x y 𝟙
  coprime_bezout x y h = let w = gcd_common F x y in rw h at w

  -- Euclid's lemma
  pub coprime_divides : (c d s : Polynomial F) → Coprime d s → Divides (polynomials F) d (c * s) → Divides (polynomials F) d c
  coprime_divides c d s h k = bezout_divides c (coprime_bezout d s h) k

  pub coprime_mul : (d x y : Polynomial F) → Coprime d x → Coprime d y → Coprime d (x * y)
  coprime_mul d x y h k = bezout_coprime d (x * y) (u.s + u.t * x * v.s) (u.t * v.t)
      (combination (polynomials F) 𝟙 ((u.s + u.t * x * v.s) * d + u.t * v.t * (x * y))
      (given 𝟙 u.bezout ∷ given (u.t * x) v.bezout ∷ [])
      (identity (polynomials F) (d ∷ x ∷ y ∷ u.s ∷ u.t ∷ v.s ∷ v.t ∷ [])
      (λ ρ qd qx qy qs qt qs' qt'. search quotes depth 16) refl))
    where
      u : Greatest (polynomials F) d x 𝟙
      u = coprime_bezout d x h

      v : Greatest (polynomials F) d y 𝟙
      v = coprime_bezout d y k

  -- x / g and y / g, where g is the greatest common divisor of x and y
  pub coprime_quotients : (x y : Polynomial F) → 0 < size F x +ₙ size F y
      → Coprime (quotient F x (gcd F x y)) (quotient F y (gcd F x y))
  coprime_quotients x y h = bezout_coprime a b w.s w.t
      (mul_cancel (sized F) g 𝟙 (w.s * a + w.t * b) (monic_nonzero F g (gcd_monic F x y h))
      (mul_one g ∙ w.bezout
      ∙ ap₂ (λ u v. w.s * u + w.t * v) (quotient_exact F x g (gcd_left F x y)) (quotient_exact F y g (gcd_right F x y))
      ∙ identity (polynomials F) (g ∷ a ∷ b ∷ w.s ∷ w.t ∷ []) (λ ρ qg qa qb qs qt. search quotes depth 16) refl))
    where
      g : Polynomial F
      g = gcd F x y

      a : Polynomial F
      a = quotient F x g

      b : Polynomial F
      b = quotient F y g

      w : Greatest (polynomials F) x y g
      w = gcd_common F x y
