-- Several right sides over one matrix: line k is the system with the right side a k. The least common multiple of the lines'
-- denominators is the least denominator for all of them at once, and no longer than that of one line may be.
use Rattle.std.specs.Prelude.{ℕ, suc, ◌<◌, ◌≤◌, min, ◌*◌ as ◌*ₙ◌}
use Rattle.std.proofs.Common.{sym, ◌∙◌, ap, arith}
use Rattle.ring.specs.Ring.{Ring, mul_left_comm}
use Rattle.ring.specs.Sum.{sum_ext, sum_mul}
use Rattle.algebra.specs.Field.{Field}
use Rattle.algebra.specs.Sized.{Sized}
use Rattle.algebra.specs.Polynomial.{Polynomial, polynomials}
use Rattle.algebra.specs.Size.{size, sized}
use Rattle.algebra.specs.Divides.{Divides}
use Rattle.algebra.specs.Lcm.{lcms, lcms_divides, lcms_least, size_lcms_le}
use Rattle.reduction.specs.Euclidean.{Euclidean}
use Rattle.reduction.specs.System.{LinearSystem}
use Rattle.reduction.specs.Levels.{Columns}
use Rattle.reduction.specs.Certificate.{RightSolutionIn}
use Rattle.reduction.specs.Clearing.{right_nonzero, right_divides}
use Rattle.reduction.specs.Joint.{Solvable, Joint, joint_within}
use Rattle.reduction.specs.Polynomials.{euclidean}

-- T with the right side b
abbrev pub with_side : {A : Type 0} {R : Ring A} {S : Sized R} (T : LinearSystem S) (b : ℕ → A)
    → ((i : ℕ) → i < T.rows → S.size (b i) ≤ suc T.degree) → LinearSystem S
with_side T b short = record {
  rows = T.rows;
  columns = T.columns;
  degree = T.degree;
  matrix = T.matrix;
  side = b;
  matrix_small = T.matrix_small;
  side_small = short;
}

module _ {A : Type 0} {R : Ring A} {S : Sized R} (E : Euclidean S) (T : LinearSystem S) (a : ℕ → ℕ → A) (c : ℕ)
    (short : (k i : ℕ) → k < c → i < T.rows → S.size (a k i) ≤ suc T.degree) where
  open T use {columns as m, matrix as M}
  open R use {mul as ◌*◌}

  infixl 70 ◌*◌
  -- line k has a right certificate with the denominator d
  pub record LineSolved (k : ℕ) (l : k < c) (d : A) : Type 0 where
    pub N : ℕ → A
    pub w : A
    pub Z : ℕ → A
    pub right : RightSolutionIn E (with_side T (a k) (λ i g. short k i l g)) d N w Z

  pub line_solvable : (k : ℕ) (l : k < c) (d : A) → LineSolved k l d → Solvable T a k
  line_solvable k l d X = record {
    e = d;
    nonzero = right_nonzero E (with_side T (a k) (λ i g. short k i l g)) X.right;
    columns = record { parts = X.N; equal = λ i g. sym (X.right.solves i g) };
  }

  -- A·Q = f·(a k) for some Q just where d divides f
  pub line_least : (k : ℕ) (l : k < c) (d : A) → LineSolved k l d → (f : A) → Columns T m (λ i. f * a k i) → Divides R d f
  line_least k l d X f C =
      right_divides E (with_side T (a k) (λ i g. short k i l g)) X.right f C.parts (λ i g. sym (C.equal i g))

  pub line_multiple : (k : ℕ) (l : k < c) (d : A) → LineSolved k l d → (f : A) → Divides R d f → Columns T m (λ i. f * a k i)
  line_multiple k l d X f h = record {
    parts = λ j. t * X.N j;
    equal = λ i g.
        ap (λ y. y * a k i) h.product ∙ R.mul_assoc t d (a k i) ∙ ap (λ y. t * y) (sym (X.right.solves i g))
        ∙ sym (sum_mul R m t (λ j. M i j * X.N j))
        ∙ sum_ext R m (λ j. t * (M i j * X.N j)) (λ j. M i j * (t * X.N j)) (λ j _. mul_left_comm R t (M i j) (X.N j));
  }
    where
      t : A
      t = h.cofactor

-- over K[x]: the least common multiple of the denominators is the least for all lines at once, and each on the way keeps the bound
module _ {K : Type 0} (F : Field K) (T : LinearSystem (sized F)) (a : ℕ → ℕ → Polynomial F) (c : ℕ)
    (short : (k i : ℕ) → k < c → i < T.rows → size F (a k i) ≤ suc T.degree) (d : ℕ → Polynomial F)
    (X : (k : ℕ) (l : k < c) → LineSolved (euclidean F) T a c short k l (d k)) where
  abbrev R : Ring (Polynomial F)
  R = polynomials F

  pub lcms_reached : (k : ℕ) → k < c → Columns T T.columns (λ i. R.mul (lcms F c d) (a k i))
  lcms_reached k l = line_multiple (euclidean F) T a c short k l (d k) (X k l) (lcms F c d) (lcms_divides F c d k l)

  pub lcms_lines : (f : Polynomial F) → ((k : ℕ) → k < c → Columns T T.columns (λ i. R.mul f (a k i)))
      → Divides (polynomials F) (lcms F c d) f
  lcms_lines f C = lcms_least F c d f (λ k l. line_least (euclidean F) T a c short k l (d k) (X k l) f (C k l))

  pub lcms_small : (B : ℕ) → min T.rows T.columns *ₙ T.degree ≤ B → (i : ℕ) → i ≤ c → size F (lcms F i d) ≤ suc B
  lcms_small B h i l = omega (arith, J.small, size_lcms_le F c d J.e divides J.nonzero i l)
    where
      J : Joint T a c (suc B)
      J = joint_within T a (euclidean F) c short (λ k g. line_solvable (euclidean F) T a c short k g (d k) (X k g)) B h

      divides : (k : ℕ) → k < c → Divides (polynomials F) (d k) J.e
      divides k g = line_least (euclidean F) T a c short k g (d k) (X k g) J.e
          (record { parts = (J.solved k g).N; equal = λ j f. sym ((J.solved k g).solves j f) })
