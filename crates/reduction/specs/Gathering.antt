-- Lower bounds over K[x], as a program gathers them: each w is monic, and each row is kept shorter than it by division.
use Rattle.std.specs.Prelude.{ℕ, ◌<◌, ◌≡◌, refl}
use Rattle.std.proofs.Common.{sym, ◌∙◌, ap, arith}
use Rattle.ring.specs.Ring.{Ring}
use Rattle.ring.specs.Sum.{sum}
use Rattle.algebra.specs.Field.{Field}
use Rattle.algebra.specs.Polynomial.{Polynomial, polynomials}
use Rattle.algebra.specs.Size.{size, leading, sized, size_zero, size_one}
use Rattle.algebra.specs.Division.{quotient, remainder, division, size_remainder}
use Rattle.algebra.specs.Divides.{Divides}
use Rattle.algebra.specs.Exact.{quotient_exact}
use Rattle.algebra.specs.Monic.{Monic, monic_one, monic_nonzero, monic_positive, monic_cofactor}
use Rattle.algebra.specs.Gcd.{gcd, gcd_left, gcd_monic}
use Rattle.algebra.specs.Lcm.{lcm, lcm_left, lcm_right, lcm_gcd, lcm_monic}
use Rattle.reduction.specs.System.{LinearSystem}
use Rattle.reduction.specs.Certificate.{RightSolutionIn}
use Rattle.reduction.specs.LowerBounds.{LowerBound, bound_start, bound_row, bound_join, bound_right, join_shorter}
use Rattle.reduction.specs.Polynomials.{euclidean}

module _ {K : Type 0} (F : Field K) (n m : ℕ) (B : ℕ → ℕ → Polynomial F) (c : ℕ → Polynomial F) where
  abbrev P : Type 0
  P = Polynomial F

  abbrev R : Ring (Polynomial F)
  R = polynomials F

  open polynomials F use {add as ◌+◌, mul as ◌*◌, zero as 𝟘, one as 𝟙}

  infixl 65 ◌+◌
  infixl 70 ◌*◌
  pub record Gathered (w : P) (Z : ℕ → P) (L : P) : Type 0 where
    pub monic : Monic F L
    pub certifying_monic_lem : Monic F w
    pub short : (i : ℕ) → i < n → size F (Z i) < size F w
    pub bound : LowerBound (polynomials F) n m B c w Z L

  pub gathered_start : Gathered 𝟙 (λ i. 𝟘) 𝟙
  gathered_start = record {
    monic = monic_one F;
    certifying_monic_lem = monic_one F;
    short = λ i l. omega (arith, size_zero F, size_one F);
    bound = bound_start R n m B c;
  }

  -- a row U with h dividing U·B: r is U·c modulo h, and τ·U modulo h leaves the greatest common divisor of h and r
  module _ (h : P) (U : ℕ → P) (σ τ : P) where
    abbrev r : P
    r = remainder F (sum (polynomials F) n (λ i. U i * c i)) h

    pub gathered_row : Monic F h → ((j : ℕ) → j < m → Divides R h (sum R n (λ i. U i * B i j))) → gcd F h r ≡ σ * h + τ * r
        → Gathered h (λ i. remainder F (τ * U i) h) (quotient F h (gcd F h r))
    gathered_row monic divides e = record {
      monic = monic_cofactor F k (quotient F h k) (gcd_monic F h r (omega (arith, positive)))
          (ap (leading F) (R.mul_comm k (quotient F h k) ∙ sym exact) ∙ monic);
      certifying_monic_lem = monic;
      short = λ i l. size_remainder F (τ * U i) h positive;
      bound = bound_row R n m B c (quotient F (sum R n (λ i. U i * c i)) h) r k σ τ
          (λ i. quotient F (τ * U i) h) (λ i. remainder F (τ * U i) h) divides
          (division F (sum R n (λ i. U i * c i)) h positive) e exact (λ i l. division F (τ * U i) h positive);
    }
      where
        k : P
        k = gcd F h r

        positive : 0 < size F h
        positive = monic_positive F h monic

        exact : h ≡ quotient F h k * k
        exact = quotient_exact F h k (gcd_left F h r)

  -- two of them
  module _ (w₁ w₂ : P) (Z₁ Z₂ : ℕ → P) (L₁ L₂ σ τ : P) where
    abbrev W : P
    W = lcm F w₁ w₂

    abbrev joined : ℕ → P
    joined i = quotient F W w₁ * remainder F (τ * Z₁ i) w₁ + quotient F W w₂ * remainder F (σ * Z₂ i) w₂

    pub gathered_join : Gathered w₁ Z₁ L₁ → Gathered w₂ Z₂ L₂ → gcd F L₁ L₂ ≡ σ * L₁ + τ * L₂
        → Gathered (lcm F w₁ w₂) joined (lcm F L₁ L₂)
    gathered_join G₁ G₂ e = record {
      monic = lcm_monic F L₁ L₂ G₁.monic G₂.monic;
      certifying_monic_lem = monic;
      short = λ i l. join_shorter (sized F) W (quotient F W w₁) (quotient F W w₂) w₁ w₂ (remainder F (τ * Z₁ i) w₁)
          (remainder F (σ * Z₂ i) w₂) (monic_nonzero F W monic) exact₁ exact₂
          (size_remainder F (τ * Z₁ i) w₁ positive₁) (size_remainder F (σ * Z₂ i) w₂ positive₂);
      bound = bound_join R n m B c (sized F) G₁.bound G₂.bound (gcd F L₁ L₂) σ τ (lcm F L₁ L₂)
          (monic_nonzero F (gcd F L₁ L₂) (gcd_monic F L₁ L₂ (omega (arith, monic_positive F L₁ G₁.monic)))) e (lcm_gcd F L₁ L₂)
          W (quotient F W w₁) (quotient F W w₂) exact₁ exact₂
          (λ i. quotient F (τ * Z₁ i) w₁) (λ i. quotient F (σ * Z₂ i) w₂)
          (λ i. remainder F (τ * Z₁ i) w₁) (λ i. remainder F (σ * Z₂ i) w₂) joined
          (λ i l. division F (τ * Z₁ i) w₁ positive₁) (λ i l. division F (σ * Z₂ i) w₂ positive₂) (λ i l. refl);
    }
      where
        monic : Monic F W
        monic = lcm_monic F w₁ w₂ G₁.certifying_monic_lem G₂.certifying_monic_lem

        positive₁ : 0 < size F w₁
        positive₁ = monic_positive F w₁ G₁.certifying_monic_lem

        positive₂ : 0 < size F w₂
        positive₂ = monic_positive F w₂ G₂.certifying_monic_lem

        exact₁ : W ≡ quotient F W w₁ * w₁
        exact₁ = quotient_exact F W w₁ (lcm_left F w₁ w₂)

        exact₂ : W ≡ quotient F W w₂ * w₂
        exact₂ = quotient_exact F W w₂ (lcm_right F w₁ w₂)

-- closed: a solution whose denominator has been reached from below
pub gathered_right : {K : Type 0} (F : Field K) (T : LinearSystem (sized F)) {d w : Polynomial F} {N Z : ℕ → Polynomial F}
    → Gathered F T.rows T.columns T.matrix T.side w Z d
    → ((i : ℕ) → i < T.rows
    → sum (polynomials F) T.columns (λ j. (polynomials F).mul (T.matrix i j) (N j)) ≡ (polynomials F).mul d (T.side i))
    → RightSolutionIn (euclidean F) T d N w Z
gathered_right F T {d} G solves = bound_right (euclidean F) T G.bound G.monic G.certifying_monic_lem
    (monic_cofactor F d G.bound.k G.monic (ap (leading F) (sym G.bound.product) ∙ G.certifying_monic_lem)) solves
