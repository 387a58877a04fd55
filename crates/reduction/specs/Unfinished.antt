-- A solution certificate but for its numerators: what is known when the right side was inserted into the last level U, with block
-- zero at the end, and the second system was solved. The way down from d·b gives the numerators.
use Rattle.std.specs.Prelude.{ℕ, suc, ◌<◌, ◌≤◌, min, ◌+◌ as ◌+ₙ◌, ◌*◌ as ◌*ₙ◌, ◌≡◌, refl}
use Rattle.std.proofs.Common.{sym, ◌∙◌, ap, subst, arith}
use Rattle.std.proofs.Math.Decide.{ℕ_discrete}
use Rattle.ring.specs.Ring.{Ring}
use Rattle.ring.specs.Sum.{sum}
use Rattle.algebra.specs.Sized.{Sized, size_positive}
use Rattle.reduction.specs.Total.{rank, degrees, rank_ext, degrees_ext}
use Rattle.reduction.specs.Pivot.{Vanishes}
use Rattle.reduction.specs.Slots.{Slots, SameBlocks, unweighted}
use Rattle.reduction.specs.Span.{InSpan, InSpanWith, span_blocks}
use Rattle.reduction.specs.Euclidean.{Euclidean, Associate}
use Rattle.reduction.specs.Inserting.{Inserting}
use Rattle.reduction.specs.System.{LinearSystem}
use Rattle.reduction.specs.Levels.{LevelKnown}
use Rattle.reduction.specs.Dual.{Dual}
use Rattle.reduction.specs.Popov.{Reworked}
use Rattle.reduction.specs.Certificate.{RightSolutionIn, SmallSolution}
use Rattle.reduction.specs.Certifying.{Short, Certifying}
use Rattle.reduction.specs.Solution.{solution_span, solution_small, solution_right, solution_sizes}
use Rattle.reduction.specs.Solution.{solution_short, solution_certifying}

module _ {A : Type 0} {R : Ring A} {S : Sized R} (E : Euclidean S) (T : LinearSystem S) where
  open T use {rows as n, columns as m, degree as δ, matrix as M, side as b}
  open R use {mul as ◌*◌}
  open S use {size}

  infixl 70 ◌*◌
  pub record Unfinished (U : Slots A) (d w : A) (Z : ℕ → A) : Type 0 where
    -- where the way down starts
    pub span : InSpan R n n U (λ k. d * b k)
    pub vector_small : (i : ℕ) → i < n → size (d * b i) ≤ suc (δ +ₙ degrees n U.size)
    -- with numerators that solve the system, the certificate is right; with small ones, it is small
    pub right : (N : ℕ → A) → ((i : ℕ) → i < n → sum R m (λ j. M i j * N j) ≡ d * b i) → RightSolutionIn E T d N w Z
    pub small : (N : ℕ → A) → ((j : ℕ) → j < m → size (N j) ≤ suc (rank n U.size *ₙ δ))
        → SmallSolution E T (suc (rank n U.size *ₙ δ)) d N w Z
    -- w and Z are the ones that are chosen
    pub certifying : Certifying S n m M b d w Z

  -- L7 and L8, of slots G that came from those after the insertion, where the rows are short
  module _ {U : Slots A} (L : LevelKnown T m U) (X : Inserting S n unweighted U b) (z : Vanishes R n X.now.hand)
      (μ : Associate S E.Monic (X.now.hand n)) {G : Slots A}
      (rework : Reworked S n (μ.unit * X.now.hand n) X.now.slots G)
      (w' : A) (Y : ℕ → A) (monic : E.Monic w') (K : Dual S n (degrees n U.size) G w' Y)
      (short : (i : ℕ) → i < n → 0 < size (Y i) → size (Y i) +ₙ X.now.slots.size i ≤ size (μ.unit * X.now.hand n * w')) where
    into : (u : ℕ → A) → InSpanWith R n (suc n) X.now.slots X.now.hand u → InSpanWith R n (suc n) G X.now.hand u
    into = rework.into X.now.hand z μ.unit refl

    row_short : (i : ℕ) → i < n → ¬ (Y i ≡ R.zero) → Short S n m M b (μ.unit * X.now.hand n * w') Y i
    row_short i h some = go (ℕ_discrete (X.now.slots.size i) 0)
      where
        go : Dec (X.now.slots.size i ≡ 0) → Short S n m M b (μ.unit * X.now.hand n * w') Y i
        go (yes e) = absurd (some (K.empty i h (sym (rework.sizes i h) ∙ e)))
        go (no e) = solution_short E T L X z μ rework.sizes into w' Y monic K i h (omega arith)
            (short i h (size_positive S (Y i) some))

    pub unfinished : Unfinished U (μ.unit * X.now.hand n) (μ.unit * X.now.hand n * w') Y
    unfinished = record {
      span = solution_span E T L X z μ;
      vector_small = solution_small E T L X z μ;
      right = λ N solves. solution_right E T L X z μ rework.sizes into w' Y monic K N solves;
      small = λ N small. solution_sizes E T L X z μ rework.sizes into w' Y monic K N small;
      certifying = solution_certifying E T L X z μ rework.sizes into w' Y monic K row_short;
    }

  -- tails of U play no part
  pub unfinished_blocks : {U U' : Slots A} {d w : A} {Z : ℕ → A} → SameBlocks n U U' → Unfinished U d w Z → Unfinished U' d w Z
  unfinished_blocks {U} {U'} {d} {w} {Z} e X = record {
    span = span_blocks R e X.span;
    vector_small = λ i h. omega (arith, X.vector_small i h, degrees_ext n U.size U'.size e.sizes);
    right = X.right;
    small = subst (λ r. (N : ℕ → A) → ((j : ℕ) → j < m → size (N j) ≤ suc (r *ₙ δ)) → SmallSolution E T (suc (r *ₙ δ)) d N w Z)
        (rank_ext n U.size U'.size (λ q h. ap (min 1) (e.sizes q h))) X.small;
    certifying = X.certifying;
  }
