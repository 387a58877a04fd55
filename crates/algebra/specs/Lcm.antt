-- Least common multiples: in a ring with a size they come from greatest common divisors, by Bézout's multipliers; of polynomials
-- there is one that is monic. And of a family, one after another, as a loop takes them.
use Prim.Native.Nat.{ℕ, zero, suc, ◌<◌, ◌≤◌}
use Rattle.std.specs.Prelude.{◌+◌ as ◌+ₙ◌, ◌≡◌, refl, [], ◌∷◌}
use Rattle.std.proofs.Common.{sym, ◌∙◌, ap, arith}
use Rattle.std.proofs.Math.Decide.{ℕ_discrete}
use Rattle.ring.specs.Ring.{Ring, mul_zero}
use Rattle.ring.specs.Identity.{quotes, identity}
use Rattle.ring.specs.Combination.{given, combination}
use Rattle.algebra.specs.Operations.{Operations}
use Rattle.algebra.specs.Field.{Field, operations}
use Rattle.algebra.specs.Coefficients
use Rattle.algebra.specs.Polynomial.{Polynomial, polynomials, list_mul}
use Rattle.algebra.specs.Sized.{Sized, zero_decided, mul_cancel}
use Rattle.algebra.specs.Size.{size, leading, sized, size_mul}
use Rattle.algebra.specs.Division.{quotient, list_quotient}
use Rattle.algebra.specs.Divides.{Divides, divides_refl, divides_equal, divides_trans, divides_product, one_divides}
use Rattle.algebra.specs.Divides.{zero_divides, divides_size}
use Rattle.algebra.specs.Exact.{quotient_exact}
use Rattle.algebra.specs.Monic.{Monic, monic_one, monic_positive, monic_mul, monic_cofactor, monic_associates}
use Rattle.algebra.specs.Bezout.{Greatest}
use Rattle.algebra.specs.Gcd.{gcd, list_gcd, gcd_common, gcd_left, gcd_right, gcd_monic}

-- x and y divide l, which divides whatever both divide
pub record LeastMultiple {A : Type 0} (R : Ring A) (x y l : A) : Type 0 where
  pub left : Divides R x l
  pub right : Divides R y l
  pub least : (c : A) → Divides R x c → Divides R y c → Divides R l c

module _ {A : Type 0} {R : Ring A} (S : Sized R) where
  open R use {add as ◌+◌, mul as ◌*◌, neg as -◌, zero as 𝟘}

  infixl 65 ◌+◌
  infixl 70 ◌*◌
  infix 75 -◌
  -- (x / g)·y, where g is a greatest common divisor: for c = u·x = v·y, g·c = s·x·c + t·y·c = x·y·(s·v + t·u)
  pub greatest_least : {x y g : A} → Greatest R x y g → ¬ (g ≡ 𝟘) → (a : A) → x ≡ a * g → LeastMultiple R x y (a * y)
  greatest_least {x} {y} {g} w nonzero a e = record {
    left = record {
      cofactor = b;
      product = combination R (a * y) (b * x) (given a w.right.product ∷ given (- b) e ∷ [])
          (identity R (a ∷ b ∷ x ∷ y ∷ g ∷ []) (λ ρ qa qb qx qy qg. search quotes depth 16) refl);
    };
    right = divides_product a y;
    least = λ c h k.
        let u = h.cofactor in
        let v = k.cofactor in
        record {
          cofactor = w.s * v + w.t * u;
          product = mul_cancel S g c ((w.s * v + w.t * u) * (a * y)) nonzero
              (combination R (g * c) (g * ((w.s * v + w.t * u) * (a * y)))
              (given c w.bezout ∷ given (w.s * x) k.product ∷ given (w.t * y) h.product
              ∷ given (y * (w.s * v + w.t * u)) e ∷ [])
              (identity R (a ∷ c ∷ u ∷ v ∷ x ∷ y ∷ g ∷ w.s ∷ w.t ∷ []) (λ ρ qa qc qu qv qx qy qg qs qt. search quotes depth 20)
              refl));
        };
  }
    where
      b : A
      b = w.right.cofactor

module _ {A : Type 0} (F : Field A) where
  abbrev o : Operations A
  o = operations F

  open polynomials F use {mul as ◌*◌, zero as 𝟘, one as 𝟙}

  infixl 70 ◌*◌
  abbrev pub lcm : Polynomial F → Polynomial F → Polynomial F
  lcm x y = quotient F x (gcd F x y) * y

  pub list_lcm : (x y : Polynomial F) → (lcm x y).0 ≡ Coefficients.lcm o x.0 y.0
  list_lcm x y =
      list_mul F (quotient F x (gcd F x y)) y
      ∙ ap (λ q. Coefficients.mul o q y.0) (list_quotient F x (gcd F x y) ∙ ap (Coefficients.quotient o x.0) (list_gcd F x y))

  -- of 0 and 0 it is 0
  pub lcm_common : (x y : Polynomial F) → LeastMultiple (polynomials F) x y (lcm x y)
  lcm_common x y = go (zero_decided (sized F) (gcd F x y))
    where
      q : Polynomial F
      q = quotient F x (gcd F x y)

      go : Dec (gcd F x y ≡ 𝟘) → LeastMultiple (polynomials F) x y (q * y)
      go (no h) = greatest_least (sized F) (gcd_common F x y) h q (quotient_exact F x (gcd F x y) (gcd_left F x y))
      go (yes z) = record {
        left = divides_equal (none x (gcd_left F x y) ∙ sym zeros) (divides_refl x);
        right = divides_product q y;
        least = λ c h k. divides_equal (zeros ∙ sym (none c (divides_trans (gcd_right F x y) k))) (divides_refl (q * y));
      }
        where
          none : (u : Polynomial F) → Divides (polynomials F) (gcd F x y) u → u ≡ 𝟘
          none u h = zero_divides (rw z at h)

          zeros : q * y ≡ 𝟘
          zeros = ap (λ u. q * u) (none y (gcd_right F x y)) ∙ mul_zero (polynomials F) q

  pub lcm_left : (x y : Polynomial F) → Divides (polynomials F) x (lcm x y)
  lcm_left x y = (lcm_common x y).left

  pub lcm_right : (x y : Polynomial F) → Divides (polynomials F) y (lcm x y)
  lcm_right x y = (lcm_common x y).right

  pub lcm_least : (x y c : Polynomial F) → Divides (polynomials F) x c → Divides (polynomials F) y c
      → Divides (polynomials F) (lcm x y) c
  lcm_least x y = (lcm_common x y).least

  pub lcm_gcd : (x y : Polynomial F) → lcm x y * gcd F x y ≡ x * y
  lcm_gcd x y =
      identity (polynomials F) (quotient F x (gcd F x y) ∷ y ∷ gcd F x y ∷ []) (λ ρ qq qy qg. search quotes depth 16) refl
      ∙ ap (λ u. u * y) (sym (quotient_exact F x (gcd F x y) (gcd_left F x y)))

  pub lcm_monic : (x y : Polynomial F) → Monic F x → Monic F y → Monic F (lcm x y)
  lcm_monic x y hx hy = monic_cofactor F g (lcm x y) (gcd_monic F x y (omega (arith, monic_positive F x hx)))
      (ap (leading F) ((polynomials F).mul_comm g (lcm x y) ∙ lcm_gcd x y) ∙ monic_mul F x y hx hy)
    where
      g : Polynomial F
      g = gcd F x y

  -- so there is no other
  pub lcm_unique : (x y l : Polynomial F) → Monic F x → Monic F y → Monic F l → LeastMultiple (polynomials F) x y l → lcm x y ≡ l
  lcm_unique x y l hx hy hl w = monic_associates F (lcm x y) l (lcm_monic x y hx hy) hl
      (lcm_least x y l w.left w.right) (w.least (lcm x y) (lcm_left x y) (lcm_right x y))

  pub size_lcm : (x y : Polynomial F) → Monic F x → Monic F y → size F (lcm x y) +ₙ size F (gcd F x y) ≡ size F x +ₙ size F y
  size_lcm x y hx hy = omega (
    arith,
    size_mul F (lcm x y) (gcd F x y) (monic_positive F (lcm x y) (lcm_monic x y hx hy))
        (monic_positive F (gcd F x y) (gcd_monic F x y (omega (arith, monic_positive F x hx)))),
    size_mul F x y (monic_positive F x hx) (monic_positive F y hy),
    ap (size F) (lcm_gcd x y),
  )

  -- no longer than any common multiple that is not zero
  pub size_lcm_le : (x y c : Polynomial F) → Divides (polynomials F) x c → Divides (polynomials F) y c → ¬ (c ≡ 𝟘)
      → size F (lcm x y) ≤ size F c
  size_lcm_le x y c h k = divides_size (sized F) (lcm_least x y c h k)

  -- of d 0 .. d (k - 1), as a loop takes them
  unfoldable pub lcms : ℕ → (ℕ → Polynomial F) → Polynomial F
  lcms zero d = 𝟙
  lcms (suc k) d = lcm (lcms k d) (d k)

  pub lcms_divides : (k : ℕ) (d : ℕ → Polynomial F) (i : ℕ) → i < k → Divides (polynomials F) (d i) (lcms k d)
  unfolding lcms
  lcms_divides zero d i h = absurd (omega arith)
  lcms_divides (suc k) d i h = go (lcms_divides k d i) (ℕ_discrete i k)
    where
      go : (i < k → Divides (polynomials F) (d i) (lcms k d)) → Dec (i ≡ k) → Divides (polynomials F) (d i) (lcm (lcms k d) (d k))
      go rec (yes e) = rw e (lcm_right (lcms k d) (d k))
      go rec (no e) = divides_trans (rec (omega arith)) (lcm_left (lcms k d) (d k))

  pub lcms_least : (k : ℕ) (d : ℕ → Polynomial F) (c : Polynomial F) → ((i : ℕ) → i < k → Divides (polynomials F) (d i) c)
      → Divides (polynomials F) (lcms k d) c
  unfolding lcms
  lcms_least zero d c h = one_divides c
  lcms_least (suc k) d c h = lcm_least (lcms k d) (d k) c (lcms_least k d c (λ i l. h i (omega arith))) (h k (omega arith))

  pub lcms_monic : (k : ℕ) (d : ℕ → Polynomial F) → ((i : ℕ) → i < k → Monic F (d i)) → Monic F (lcms k d)
  unfolding lcms
  lcms_monic zero d h = monic_one F
  lcms_monic (suc k) d h = lcm_monic (lcms k d) (d k) (lcms_monic k d (λ i l. h i (omega arith))) (h k (omega arith))

  -- each on the way too: no longer than a common multiple of all that is not zero
  pub size_lcms_le : (k : ℕ) (d : ℕ → Polynomial F) (c : Polynomial F) → ((i : ℕ) → i < k → Divides (polynomials F) (d i) c)
      → ¬ (c ≡ 𝟘) → (i : ℕ) → i ≤ k → size F (lcms i d) ≤ size F c
  size_lcms_le k d c h nonzero i l = divides_size (sized F) (lcms_least i d c (λ j g. h j (omega arith))) nonzero
