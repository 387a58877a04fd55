-- Columns that depend on the columns of A have one denominator in common, no longer than that of one of them alone may be: the
-- product of the kernels that they leave when they go, one after another, into the last level. Each kernel is paid for by the sum
-- of degrees.
use Rattle.std.specs.Prelude.{ℕ, zero, suc, ◌<◌, ◌≤◌, min, ◌+◌ as ◌+ₙ◌, ◌*◌ as ◌*ₙ◌, ◌≡◌, refl}
use Rattle.std.proofs.Common.{sym, subst, arith, mul-le-mul_right}
use Rattle.ring.specs.Ring.{Ring}
use Rattle.ring.specs.Sum.{sum}
use Rattle.algebra.specs.Sized.{Sized, positive_nonzero, size_mul_le}
use Rattle.reduction.specs.Total.{degrees, rank_le}
use Rattle.reduction.specs.Total
use Rattle.reduction.specs.Slots.{Slots}
use Rattle.reduction.specs.Span.{InSpan, span_ext, span_scale}
use Rattle.reduction.specs.Euclidean.{Euclidean}
use Rattle.reduction.specs.System.{LinearSystem}
use Rattle.reduction.specs.Link.{Link, Kernel}
use Rattle.reduction.specs.Dependence.{Dependent, dependent_kernel, link_times, links_up}
use Rattle.reduction.specs.Levels.{Columns, LevelKnown, level_of, level_spans}
use Rattle.reduction.specs.RunLevels.{level, kernel, levels, slots_after, kernel_after, after_none, after_link}
use Rattle.reduction.specs.RunDescent.{Numerators, numerators}

-- along a chain of links whose columns all depend on the slots at its start
module _ {A : Type 0} {R : Ring A} {S : Sized R} {n δ : ℕ} (c : ℕ) (U : ℕ → Slots A) (a : ℕ → ℕ → A) (κ : ℕ → A)
    (links : (k : ℕ) → k < c → Link S n δ (a k) (U k) (U (suc k)) (κ k)) where
  open R use {mul as ◌*◌, one as 𝟙}
  open S use {size, size_one, size_mul}

  infixl 70 ◌*◌
  -- e takes the span of slots k back to the start, and is no longer than what the degrees fell by
  pub record Returning (k : ℕ) : Type 0 where
    pub e : A
    pub positive : 0 < size e
    pub small : size e +ₙ degrees n (U k).size ≤ suc (degrees n (U 0).size)
    pub back : (x : ℕ → A) → InSpan R n n (U k) x → InSpan R n n (U 0) (λ i. e * x i)

  pub returning : ((k : ℕ) → k < c → Dependent R n (U 0) (a k)) → (k : ℕ) → k ≤ c → Returning k
  returning dependent zero l = record {
    e = 𝟙;
    positive = omega (arith, size_one);
    small = omega (arith, size_one);
    back = λ x s. span_scale R 𝟙 s (λ i. 𝟙 * x i) (λ i h. refl);
  }
  returning dependent (suc k) l = go (returning dependent k (omega arith))
    where
      D : Dependent R n (U 0) (a k)
      D = dependent k l

      K : Kernel S n (U k) (U (suc k)) (κ k)
      K = dependent_kernel (links k l) (record {
        multiple = D.multiple;
        nonzero = D.nonzero;
        span = links_up c U a κ links k (omega arith) 0 (omega arith) (λ i. D.multiple * a k i) D.span;
      })

      go : Returning k → Returning (suc k)
      go P = record {
        e = P.e * κ k;
        positive = omega (arith, size_mul P.e (κ k) P.positive K.positive, K.positive);
        small = omega (arith, size_mul P.e (κ k) P.positive K.positive, P.small, K.degrees_le);
        back = λ x s. span_ext R (P.back (λ i. κ k * x i) (link_times (links k l) x s)) (λ i. P.e * κ k * x i)
            (λ i h. R.mul_assoc P.e (κ k) (x i));
      }

module _ {A : Type 0} {R : Ring A} {S : Sized R} (T : LinearSystem S) (a : ℕ → ℕ → A) where
  open T use {rows as n, columns as m, degree as δ, matrix as M}
  open R use {mul as ◌*◌, zero as 𝟘}
  open S use {size}

  infixl 70 ◌*◌
  -- some e·(a k) is a combination of A's columns
  pub record Solvable (k : ℕ) : Type 0 where
    pub e : A
    pub nonzero : ¬ (e ≡ 𝟘)
    pub columns : Columns T m (λ i. e * a k i)

  -- A·N = e·(a k), of sizes at most B
  pub record SolvedBy (B : ℕ) (e : A) (k : ℕ) : Type 0 where
    pub N : ℕ → A
    pub solves : (i : ℕ) → i < n → sum R m (λ j. M i j * N j) ≡ e * a k i
    pub small : (j : ℕ) → j < m → size (N j) ≤ B

  -- one e for a 0 .. a (c - 1)
  pub record Joint (c B : ℕ) : Type 0 where
    pub e : A
    pub nonzero : ¬ (e ≡ 𝟘)
    pub small : size e ≤ B
    pub solved : (k : ℕ) → k < c → SolvedBy B e k

  pub record JointlySolved (c : ℕ) : Type 0 where
    pub rank : ℕ
    pub rank_rows : rank ≤ n
    pub rank_columns : rank ≤ m
    pub joint : Joint c (suc (rank *ₙ δ))

  module _ (E : Euclidean S) (c : ℕ) (short : (k i : ℕ) → k < c → i < n → size (a k i) ≤ suc δ)
      (solvable : (k : ℕ) → k < c → Solvable k) where
    U : Slots A
    U = level E T m

    L : LevelKnown T m U
    unfolding U
    L = level_of T (levels E T) m (omega arith)

    abbrev W : ℕ → Slots A
    W = slots_after E n U L.filled a

    abbrev κ : ℕ → A
    κ = kernel_after E n U L.filled a

    start : W 0 ≡ U
    start = after_none E n U L.filled a

    links : (k : ℕ) → k < c → Link S n δ (a k) (W k) (W (suc k)) (κ k)
    links k l = after_link E n U L.filled a δ k (λ i g. short k i l g)

    P : Returning c W a κ links c
    P = returning c W a κ links
        (λ k l. record {
          multiple = (solvable k l).e;
          nonzero = (solvable k l).nonzero;
          span = subst (λ x. InSpan R n n x (λ i. (solvable k l).e * a k i)) (sym start) (level_spans T L (solvable k l).columns);
        }) c (omega arith)

    spanned : (k : ℕ) → k < c → InSpan R n n U (λ i. P.e * a k i)
    spanned k l = subst (λ x. InSpan R n n x (λ i. P.e * a k i)) start
        (P.back (a k) (links_up c W a κ links c (omega arith) (suc k) l (a k) (links k l).new))

    small : size P.e ≤ suc (degrees n U.size)
    small = omega (arith, P.small, subst (λ x. degrees n x.size ≡ degrees n U.size) (sym start) refl)

    coordinates : (k : ℕ) → k < c → Numerators E T (level E T) (kernel E T) (levels E T) (λ i. P.e * a k i)
    unfolding U
    coordinates k l = numerators E T (level E T) (kernel E T) (levels E T) (λ i. P.e * a k i) (spanned k l)
        (λ i g. omega (arith, size_mul_le S P.e (a k i) (suc (degrees n U.size)) (suc δ) small (short k i l g)))

    pub joint : JointlySolved c
    joint = record {
      rank = Total.rank n U.size;
      rank_rows = rank_le n U.size;
      rank_columns = L.rank_le;
      joint = record {
        e = P.e;
        nonzero = positive_nonzero S P.e P.positive;
        small = omega (arith, small, L.degrees_le);
        solved = λ k l. let C = coordinates k l in record { N = C.N; solves = C.solves; small = unfold U in C.small };
      };
    }

    -- within any bound that the smaller of rows and columns keeps
    pub joint_within : (B : ℕ) → min n m *ₙ δ ≤ B → Joint c (suc B)
    joint_within B h = record {
      e = J.e;
      nonzero = J.nonzero;
      small = omega (arith, bound, J.small);
      solved = λ k l. let C = J.solved k l in record {
        N = C.N;
        solves = C.solves;
        small = λ j g. omega
            (arith, bound, C.small j g);
      };
    }
      where
        J : Joint c (suc (joint.rank *ₙ δ))
        J = joint.joint

        bound : joint.rank *ₙ δ ≤ B
        bound = let k : joint.rank ≤ min n m = omega (arith, joint.rank_rows, joint.rank_columns) in omega
            (arith, mul-le-mul_right δ k)
