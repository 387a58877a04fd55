-- Right certificates (document 01's right card and absence card) over a ring with a size, and what bounds their sizes. Of systems
-- and certificates as values, what right means is said by `truth`.
use Rattle.std.specs.Prelude.{ℕ, ◌<◌, ◌≤◌, ◌≡◌}
use Rattle.std.proofs.Common.{arith}
use Rattle.ring.specs.Ring.{Ring}
use Rattle.ring.specs.Sum.{sum}
use Rattle.algebra.specs.Sized.{Sized}
use Rattle.algebra.specs.Divides.{Divides}
use Rattle.algebra.specs.Bezout.{Greatest}
use Rattle.reduction.specs.Euclidean.{Euclidean}
use Rattle.reduction.specs.System.{LinearSystem}

module _ {A : Type 0} {R : Ring A} {S : Sized R} (E : Euclidean S) (T : LinearSystem S) where
  open T use {rows as n, columns as m, matrix as M, side as b}
  open R use {mul as ◌*◌, zero as 𝟘}

  infixl 70 ◌*◌
  -- "d and w are monic; A·N = d·b in every row; every entry of Z·A is divisible by w; w divided by the greatest common divisor of
  -- w and Z·b, made monic, is d"
  pub record RightSolutionIn (d : A) (N : ℕ → A) (w : A) (Z : ℕ → A) : Type 0 where
    pub monic : E.Monic d
    pub certifying_monic_lem : E.Monic w
    pub solves : (i : ℕ) → i < n → sum R m (λ j. M i j * N j) ≡ d * b i
    pub divides : (j : ℕ) → j < m → Divides R w (sum R n (λ i. Z i * M i j))
    pub divisor : A
    pub divisor_monic : E.Monic divisor
    pub divisor_greatest : Greatest R w (sum R n (λ i. Z i * b i)) divisor
    pub quotient : w ≡ d * divisor

  -- "q·A zero in every column and q·b not zero"
  pub record RightAbsenceIn (q : ℕ → A) : Type 0 where
    pub kills : (j : ℕ) → j < m → sum R n (λ i. q i * M i j) ≡ 𝟘
    pub nonzero : ¬ (sum R n (λ i. q i * b i) ≡ 𝟘)

  pub record SmallSolution (B : ℕ) (d : A) (N : ℕ → A) (w : A) (Z : ℕ → A) : Type 0 where
    pub denominator : S.size d ≤ B
    pub numerators : (j : ℕ) → j < m → S.size (N j) ≤ B
    pub certifying_denominator_lem : S.size w ≤ B
    pub certifying_numerators_lem : (i : ℕ) → i < n → S.size (Z i) ≤ B

  abbrev pub SmallAbsence : ℕ → (ℕ → A) → Type 0
  SmallAbsence B q = (i : ℕ) → i < n → S.size (q i) ≤ B

  -- a larger bound
  module _ {B B' : ℕ} (le : B ≤ B') where
    pub small_solution_le : {d w : A} {N Z : ℕ → A} → SmallSolution B d N w Z → SmallSolution B' d N w Z
    small_solution_le s = record {
      denominator = omega arith;
      numerators = λ j h. omega (arith, s.numerators j h);
      certifying_denominator_lem = omega arith;
      certifying_numerators_lem = λ i h. omega (arith, s.certifying_numerators_lem i h);
    }

    pub small_absence_le : {q : ℕ → A} → SmallAbsence B q → SmallAbsence B' q
    small_absence_le s i h = omega (arith, s i h)
