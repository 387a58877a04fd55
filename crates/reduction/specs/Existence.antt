-- certificate-exists: every system has a right certificate, the chosen one, of degrees at most r·δ for its rank r. The algorithm is
-- that of mathematics.md, section 2.
use Rattle.std.specs.Prelude.{ℕ, suc, ◌<◌, ◌≤◌, min, ◌*◌ as ◌*ₙ◌, ◌⊎◌}
use Rattle.std.proofs.Common.{sym, subst, inl, inr, ⊎_elim, arith, mul-le-mul_right}
use Rattle.ring.specs.Ring.{Ring}
use Rattle.algebra.specs.Sized.{Sized, positive_nonzero}
use Rattle.ring.specs.Total.{total}
use Rattle.reduction.specs.Total.{total_term, rank_le, degrees}
use Rattle.reduction.specs.Total
use Rattle.reduction.specs.Pivot.{Vanishes}
use Rattle.reduction.specs.Slots.{Slots, unweighted, tailed}
use Rattle.reduction.specs.Euclidean.{Euclidean, Associate, associate_size}
use Rattle.reduction.specs.Insert.{Stop, Stuck}
use Rattle.reduction.specs.Inserting.{kept}
use Rattle.reduction.specs.System.{LinearSystem}
use Rattle.reduction.specs.Levels.{LevelKnown, level_of}
use Rattle.reduction.specs.Transpose.{Tops}
use Rattle.reduction.specs.Certificate.{RightSolutionIn, RightAbsenceIn}
use Rattle.reduction.specs.Certificate.{SmallSolution, small_solution_le, SmallAbsence, small_absence_le}
use Rattle.reduction.specs.Numerators.{ReducedNumerators}
use Rattle.reduction.specs.Certifying.{Certifying}
use Rattle.reduction.specs.Killing.{Killing}
use Rattle.reduction.specs.Popov.{popov_tops, popov_short}
use Rattle.reduction.specs.Solution.{solution_positive, solution_room, solution_tops, solution_span, solution_small}
use Rattle.reduction.specs.Unfinished.{Unfinished, unfinished}
use Rattle.reduction.specs.Absence.{absence, absence_tops, absence_right, absence_sizes, absence_killing, absence_at}
use Rattle.reduction.specs.Run.{Run, run}
use Rattle.reduction.specs.RunSecond.{SecondSolution, second}
use Rattle.reduction.specs.RunLevels.{level, kernel, levels}
use Rattle.reduction.specs.RunDescent.{Numerators, numerators}
use Rattle.reduction.specs.RunPopov.{PopovForm, popov_form}

module _ {A : Type 0} {R : Ring A} {S : Sized R} (E : Euclidean S) (T : LinearSystem S) where
  open T use {rows as n, columns as m, degree as δ, matrix as M, side as b}
  open S use {size}

  -- the chosen solution certificate, its sizes at most B
  pub record Solved (B : ℕ) : Type 0 where
    pub d : A
    pub N : ℕ → A
    pub w : A
    pub Z : ℕ → A
    pub right : RightSolutionIn E T d N w Z
    pub small : SmallSolution E T B d N w Z
    pub reduced : ReducedNumerators S n m M N
    pub certifying : Certifying S n m M b d w Z

  -- the chosen absence certificate, its sizes at most B
  pub record Unsolvable (B : ℕ) : Type 0 where
    pub q : ℕ → A
    pub right : RightAbsenceIn E T q
    pub small : SmallAbsence E T B q
    pub killing : Killing S n m M b q
    pub monic : E.Monic (q killing.at)

  pub record RankCertified : Type 0 where
    pub rank : ℕ
    pub rank_rows : rank ≤ n
    pub rank_columns : rank ≤ m
    pub certificate : Solved (suc (rank *ₙ δ)) ⊎ Unsolvable (suc (rank *ₙ δ))

  -- the last level, and b inserted into it
  U : Slots A
  U = level E T m

  L : LevelKnown T m U
  unfolding U
  L = level_of T (levels E T) m (omega arith)

  abbrev r : ℕ
  r = Total.rank n U.size

  X : Run S n unweighted U b
  X = run E n unweighted U L.filled b

  -- block zero
  module _ (z : Vanishes R n X.inserting.now.hand) where
    μ : Associate S E.Monic (X.inserting.now.hand n)
    μ = E.associate (X.inserting.now.hand n) (solution_positive E T L X.inserting z)

    abbrev d : A
    d = R.mul μ.unit (X.inserting.now.hand n)

    coordinates : Numerators E T (level E T) (kernel E T) (levels E T) (λ k. R.mul d (b k))
    unfolding U
    coordinates = numerators E T (level E T) (kernel E T) (levels E T) (λ k. R.mul d (b k))
        (solution_span E T L X.inserting z μ) (solution_small E T L X.inserting z μ)

    some : 0 < size d
    some = omega (arith, associate_size S μ (solution_positive E T L X.inserting z), solution_positive E T L X.inserting z)

    -- the slots after the insertion in Popov form, and their second system
    form : PopovForm E n d some X.inserting.now.slots n
    form = popov_form E n d some X.inserting.now.slots (kept L.filled X.inserting).filled

    abbrev G : Slots A
    G = form.slots

    tops : Tops S n (degrees n U.size) (total n G.size) G
    tops = popov_tops S n d
        (solution_tops E T L X.inserting z (total n G.size)
        (λ q h. omega (arith, total_term n G.size q h, form.rework.sizes q h)))
        (solution_room E T L X.inserting z μ) form.rework
        (λ q h f. inr (form.popov q h (omega (arith, form.rework.sizes q h))).tail)

    rows : SecondSolution E n (degrees n U.size) G
    rows = second E n (degrees n U.size) G tops

    done : Unfinished E T U d (R.mul d rows.w) rows.Y
    done = unfinished E T L X.inserting z μ form.rework rows.w rows.Y rows.monic rows.dual
        (λ i h p. omega (
          arith,
          popov_short S n d tops.filled form.popov (positive_nonzero S d some) rows.dual i h p,
          form.rework.sizes i h,
        ))

    solved : Solved (suc (r *ₙ δ))
    unfolding U
    solved = record {
      d = d;
      N = coordinates.N;
      w = R.mul d rows.w;
      Z = rows.Y;
      right = done.right coordinates.N coordinates.solves;
      small = done.small coordinates.N coordinates.small;
      reduced = coordinates.reduced;
      certifying = done.certifying;
    }

  -- stuck
  module _ (K : Stuck S n unweighted X.inserting.now) where
    abbrev C : Slots A
    C = tailed n U (λ q. U.at q K.at)

    killed : SecondSolution E n (degrees n U.size) C
    killed = second E n (degrees n U.size) C
        (absence_tops E T L X.inserting K (total n U.size) (total_term n U.size))

    unsolvable : Unsolvable (suc (r *ₙ δ))
    unsolvable = record {
      q = absence R K.at killed.w killed.Y;
      right = absence_right E T L X.inserting K killed.w killed.Y killed.dual;
      small = absence_sizes E T L X.inserting K killed.w killed.Y killed.dual;
      killing = absence_killing E T L X.inserting K killed.w killed.Y killed.dual;
      monic = subst E.Monic (sym (absence_at E T L X.inserting K killed.w killed.Y killed.dual)) killed.monic;
    }

  pub certificate_exists : RankCertified
  certificate_exists = record {
    rank = r;
    rank_rows = rank_le n U.size;
    rank_columns = L.rank_le;
    certificate = go X.stop;
  }
    where
      go : Stop S n unweighted X.inserting.now → Solved (suc (r *ₙ δ)) ⊎ Unsolvable (suc (r *ₙ δ))
      go (inl z) = inl (solved z)
      go (inr K) = inr (unsolvable K)

  -- within any bound that the smaller of rows and columns keeps
  pub certificate_within : (B : ℕ) → min n m *ₙ δ ≤ B → Solved (suc B) ⊎ Unsolvable (suc B)
  certificate_within B h = go certificate_exists
    where
      bound : (C : RankCertified) → suc (C.rank *ₙ δ) ≤ suc B
      bound C = let k : C.rank ≤ min n m = omega arith in omega (arith, mul-le-mul_right δ k)

      solution : (C : RankCertified) → Solved (suc (C.rank *ₙ δ)) → Solved (suc B)
      solution C s = record {
        d = s.d;
        N = s.N;
        w = s.w;
        Z = s.Z;
        right = s.right;
        small = small_solution_le E T (bound C) s.small;
        reduced = s.reduced;
        certifying = s.certifying;
      }

      none : (C : RankCertified) → Unsolvable (suc (C.rank *ₙ δ)) → Unsolvable (suc B)
      none C s = record {
        q = s.q;
        right = s.right;
        small = small_absence_le E T (bound C) s.small;
        killing = s.killing;
        monic = s.monic;
      }

      go : RankCertified → Solved (suc B) ⊎ Unsolvable (suc B)
      go C = ⊎_elim (λ s. inl (solution C s)) (λ s. inr (none C s)) C.certificate
