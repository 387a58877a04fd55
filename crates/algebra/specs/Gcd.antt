-- The greatest common divisor that Euclid's algorithm computes: `gcd` of `Coefficients` divides both, is a combination of them,
-- and is monic, so that it is the only one.
use Prim.Native.Nat.{ℕ, zero, suc, ◌<◌, ◌≤◌}
use Rattle.std.specs.Prelude.{◌+◌ as ◌+ₙ◌, ◌≡◌, List, [], ◌∷◌, length}
use Rattle.std.proofs.Math.Path.{refl}
use Rattle.std.proofs.Common.{sym, ◌∙◌, ap, ap₂, arith}
use Rattle.std.proofs.Math.Decide.{dec_lt}
use Rattle.ring.specs.Identity.{quotes, identity}
use Rattle.algebra.specs.Operations.{Operations}
use Rattle.algebra.specs.Field.{Field, operations}
use Rattle.algebra.specs.Coefficients
use Rattle.algebra.specs.Canonical.{Canonical, canonical_euclid, canonical_gcd}
use Rattle.algebra.specs.Polynomial.{Polynomial, polynomials, equal_lists, zero_list}
use Rattle.algebra.specs.Sized.{size_positive, positive_nonzero}
use Rattle.algebra.specs.Size.{size, sized, size_zero, size_none}
use Rattle.algebra.specs.Division.{quotient, remainder, division, size_remainder}
use Rattle.algebra.specs.Divides.{Divides, zero_divides, divides_size}
use Rattle.algebra.specs.Monic.{Monic, monic, monic_zero, monic_nonzero}
use Rattle.algebra.specs.Monic.{monic_monic, monic_divides, divides_monic, monic_associates}
use Rattle.algebra.specs.Bezout.{Greatest, greatest_divides, greatest_zero}
use Rattle.algebra.specs.Bezout.{greatest_step, greatest_associate, greatest_comm}

module _ {A : Type 0} (F : Field A) where
  abbrev o : Operations A
  o = operations F

  open polynomials F use {add as ◌+◌, mul as ◌*◌, zero as 𝟘}

  infixl 65 ◌+◌
  infixl 70 ◌*◌
  unfoldable pub gcd : Polynomial F → Polynomial F → Polynomial F
  gcd x y = (Coefficients.gcd o x.0 y.0, canonical_gcd F x.0 y.0)

  pub list_gcd : (x y : Polynomial F) → (gcd x y).0 ≡ Coefficients.gcd o x.0 y.0
  unfolding gcd
  list_gcd x y = refl

  -- Euclid's algorithm on polynomials
  euclid : ℕ → Polynomial F → Polynomial F → Polynomial F
  euclid k x y = (Coefficients.euclid o k x.0 y.0, canonical_euclid F k x.0 y.0 x.1 y.1)

  gcd_euclid : (x y : Polynomial F) → gcd x y ≡ monic F (euclid (size F y) x y)
  unfolding gcd euclid monic Coefficients.gcd
  gcd_euclid x y = equal_lists F (gcd x y) (monic F (euclid (size F y) x y)) refl

  euclid_none : (k : ℕ) (x : Polynomial F) (h : Canonical F []) → euclid k x ([], h) ≡ x
  unfolding euclid Coefficients.euclid
  euclid_none zero x h = equal_lists F (euclid 0 x ([], h)) x refl
  euclid_none (suc k) x h = equal_lists F (euclid (suc k) x ([], h)) x refl

  euclid_base : (k : ℕ) (x : Polynomial F) (h : Canonical F []) → Greatest (polynomials F) x ([], h) (euclid k x ([], h))
  euclid_base k x h = rw (euclid_none k x h, zero_list F ([], h) refl) (greatest_zero x)

  -- one division
  module _ (k : ℕ) (x : Polynomial F) (b : A) (g : List A) (h : Canonical F (b ∷ g)) where
    abbrev y : Polynomial F
    y = (b ∷ g, h)

    euclid_step : euclid (suc k) x y ≡ euclid k y (remainder F x y)
    unfolding euclid remainder Coefficients.euclid
    euclid_step = equal_lists F (euclid (suc k) x y) (euclid k y (remainder F x y)) refl

    euclid_turn : Greatest (polynomials F) y (remainder F x y) (euclid k y (remainder F x y))
        → Greatest (polynomials F) x y (euclid (suc k) x y)
    euclid_turn w = rw euclid_step (greatest_step (quotient F x y) (division F x y (omega arith)) w)

    euclid_less : length (b ∷ g) ≤ suc k → length (remainder F x y).0 ≤ k
    euclid_less l = omega (arith, size_remainder F x y (omega arith))

  euclid_greatest : (k : ℕ) (x : Polynomial F) (g : List A) (h : Canonical F g) → length g ≤ k
      → Greatest (polynomials F) x (g, h) (euclid k x (g, h))
  euclid_greatest zero x [] h l = euclid_base 0 x h
  euclid_greatest zero x (b ∷ g) h l = absurd (omega arith)
  euclid_greatest (suc k) x [] h l = euclid_base (suc k) x h
  euclid_greatest (suc k) x (b ∷ g) h l = euclid_turn k x b g h
      (euclid_greatest k (b ∷ g, h) (remainder F x (b ∷ g, h)).0 (remainder F x (b ∷ g, h)).1 (euclid_less k x b g h l))

  pub gcd_common : (x y : Polynomial F) → Greatest (polynomials F) x y (gcd x y)
  gcd_common x y = rw (gcd_euclid x y)
      (greatest_associate (divides_monic F e) (monic_divides F e) (euclid_greatest (size F y) x y.0 y.1 (omega arith)))
    where
      e : Polynomial F
      e = euclid (size F y) x y

  pub gcd_left : (x y : Polynomial F) → Divides (polynomials F) (gcd x y) x
  gcd_left x y = (gcd_common x y).left

  pub gcd_right : (x y : Polynomial F) → Divides (polynomials F) (gcd x y) y
  gcd_right x y = (gcd_common x y).right

  pub gcd_greatest : (x y d : Polynomial F) → Divides (polynomials F) d x → Divides (polynomials F) d y
      → Divides (polynomials F) d (gcd x y)
  gcd_greatest x y d h k = greatest_divides (gcd_common x y) h k

  pub gcd_zero_right : (x : Polynomial F) → gcd x 𝟘 ≡ monic F x
  unfolding gcd monic polynomials Coefficients.gcd
  gcd_zero_right x = equal_lists F (gcd x 𝟘) (monic F x) refl

  pub gcd_zero : gcd 𝟘 𝟘 ≡ 𝟘
  gcd_zero = gcd_zero_right 𝟘 ∙ monic_zero F

  -- monic, unless both are zero
  pub gcd_monic : (x y : Polynomial F) → 0 < size F x +ₙ size F y → Monic F (gcd x y)
  gcd_monic x y h = rw (gcd_euclid x y) (monic_monic F e (size_positive (sized F) e nonzero))
    where
      e : Polynomial F
      e = euclid (size F y) x y

      w : Greatest (polynomials F) x y e
      w = euclid_greatest (size F y) x y.0 y.1 (omega arith)

      nonzero : ¬ (e ≡ 𝟘)
      nonzero z = omega (arith, none x (rw z at w).left, none y (rw z at w).right)
        where
          none : (u : Polynomial F) → Divides (polynomials F) 𝟘 u → size F u ≡ 0
          none u k = ap (size F) (zero_divides k) ∙ size_zero F

  -- so there is no other
  pub gcd_unique : (x y g : Polynomial F) → Monic F g → Greatest (polynomials F) x y g → gcd x y ≡ g
  gcd_unique x y g h w = monic_associates F (gcd x y) g (gcd_monic x y some) h
      (greatest_divides w (gcd_left x y) (gcd_right x y)) (gcd_greatest x y g w.left w.right)
    where
      vanishing : x ≡ 𝟘 → y ≡ 𝟘 → g ≡ 𝟘
      vanishing ex ey =
          w.bezout
          ∙ ap₂ (λ a b. w.s * a + w.t * b) ex ey
          ∙ identity (polynomials F) (w.s ∷ w.t ∷ []) (λ ρ qs qt. search quotes depth 16) refl

      some : 0 < size F x +ₙ size F y
      some = go (dec_lt 0 (size F x +ₙ size F y))
        where
          go : Dec (0 < size F x +ₙ size F y) → 0 < size F x +ₙ size F y
          go (yes l) = l
          go (no l) = absurd (monic_nonzero F g h (vanishing (size_none F x (omega arith)) (size_none F y (omega arith))))

  pub gcd_comm : (x y : Polynomial F) → gcd x y ≡ gcd y x
  gcd_comm x y = go (dec_lt 0 (size F y +ₙ size F x))
    where
      go : Dec (0 < size F y +ₙ size F x) → gcd x y ≡ gcd y x
      go (yes l) = gcd_unique x y (gcd y x) (gcd_monic y x l) (greatest_comm (gcd_common y x))
      go (no l) = ap₂ gcd same (sym same)
        where
          same : x ≡ y
          same = size_none F x (omega arith) ∙ sym (size_none F y (omega arith))

  -- it is no longer than x
  pub size_gcd : (x y : Polynomial F) → 0 < size F x → size F (gcd x y) ≤ size F x
  size_gcd x y h = divides_size (sized F) (gcd_left x y) (positive_nonzero (sized F) x h)
