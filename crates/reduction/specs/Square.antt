-- Independent columns leave no kernel, so that there are no more of them than rows; where there are as many, every slot of the last
-- level is filled, the rows are independent too, and there is a solution for every right side.
use Rattle.std.specs.Prelude.{ℕ, zero, suc, ◌<◌, ◌≤◌, min, ◌*◌ as ◌*ₙ◌, ◌≡◌, refl, ◌⊎◌, [], ◌∷◌}
use Rattle.std.proofs.Common.{sym, ◌∙◌, ap, ap₂, inl, inr, mul-le-mul_right}
use native.Mathlib.Omega.{arith}
use Rattle.ring.specs.Ring.{Ring, mul_zero, zero_mul}
use Rattle.ring.specs.Sum.{sum, sum_ext, sum_none, sum_beyond, sum_assoc}
use Rattle.ring.specs.Identity.{quotes, identity}
use Rattle.ring.specs.Combination.{given, combination}
use Rattle.algebra.specs.Sized.{Sized, positive_nonzero}
use Rattle.reduction.specs.Total.{rank, rank_le, rank_full}
use Rattle.reduction.specs.Replace.{replace, replace_here, replace_other, extend, extend_below, extend_from}
use Rattle.reduction.specs.Pivot.{Vanishes}
use Rattle.reduction.specs.Slots.{Slots}
use Rattle.reduction.specs.Span.{span_slot}
use Rattle.reduction.specs.Row.{row_zero}
use Rattle.reduction.specs.Euclidean.{Euclidean}
use Rattle.reduction.specs.System.{LinearSystem}
use Rattle.reduction.specs.Link.{Grows, Kernel}
use Rattle.reduction.specs.Levels.{Columns, LevelKnown, Levels, level_of}
use Rattle.reduction.specs.Dependence.{link_multiple}
use Rattle.reduction.specs.RunLevels.{level, kernel, levels}
use Rattle.reduction.specs.Existence.{Solved, Unsolvable, certificate_within}

-- no combination of the columns is zero, but that with all parts zero
abbrev pub IndependentColumns : {A : Type 0} → Ring A → (n m : ℕ) → (ℕ → ℕ → A) → Type 0
IndependentColumns {A} R n m M =
    (v : ℕ → A) → ((i : ℕ) → i < n → sum R m (λ j. R.mul (M i j) (v j)) ≡ R.zero) → Vanishes R m v

abbrev pub IndependentRows : {A : Type 0} → Ring A → (n m : ℕ) → (ℕ → ℕ → A) → Type 0
IndependentRows {A} R n m M =
    (q : ℕ → A) → ((j : ℕ) → j < m → sum R n (λ i. R.mul (q i) (M i j)) ≡ R.zero) → Vanishes R n q

module _ {A : Type 0} {R : Ring A} {S : Sized R} (T : LinearSystem S) (level : ℕ → Slots A) (kernel : ℕ → A)
    (C : Levels T level kernel T.columns) (independent : IndependentColumns R T.rows T.columns T.matrix) where
  open T use {rows as n, columns as m, matrix as M}
  open R use {add as ◌+◌, mul as ◌*◌, neg as -◌, zero as 𝟘, one as 𝟙}

  infixl 65 ◌+◌
  infixl 70 ◌*◌
  infix 75 -◌
  -- the kernel of column j and the parts of the columns before it would be such a combination
  no_kernel : (j : ℕ) → j < m → ¬ Kernel S n (level j) (level (suc j)) (kernel j)
  unfolding sum
  no_kernel j h K = positive_nonzero S κ K.positive (combination R κ 𝟘
      (given (- 𝟙) (sym here ∙ independent v combined j h) ∷ [])
      (identity R (κ ∷ []) (λ ρ qκ. search quotes depth 16) refl))
    where
      κ : A
      κ = kernel j

      P : Columns T j (λ i. κ * M i j)
      P = (level_of T C j (omega arith)).within (λ i. κ * M i j) (link_multiple (C.link j h))

      v : ℕ → A
      v = replace (extend j P.parts 𝟘) j (- κ)

      here : v j ≡ - κ
      here = replace_here (extend j P.parts 𝟘) j (- κ)

      before : (k : ℕ) → k < j → v k ≡ P.parts k
      before k l = replace_other (extend j P.parts 𝟘) j (- κ) k (λ e. omega arith) ∙ extend_below j P.parts 𝟘 k l

      after : (k : ℕ) → j < k → v k ≡ 𝟘
      after k l = replace_other (extend j P.parts 𝟘) j (- κ) k (λ e. omega arith) ∙ extend_from j P.parts 𝟘 k (omega arith)

      combined : (i : ℕ) → i < n → sum R m (λ k. M i k * v k) ≡ 𝟘
      combined i l =
          sum_beyond R m (suc j) (λ k. M i k * v k) h (λ k g f. ap (λ x. M i k * x) (after k g) ∙ mul_zero R (M i k))
          ∙ ap₂ ◌+◌ (sum_ext R j (λ k. M i k * v k) (λ k. M i k * P.parts k) (λ k g. ap (λ x. M i k * x) (before k g))
          ∙ sym (P.equal i l)) (ap (λ x. M i j * x) here)
          ∙ identity R (κ ∷ M i j ∷ []) (λ ρ qκ qm. search quotes depth 16) refl

  -- so each column takes a slot of its own
  pub independent_rank : (j : ℕ) → j ≤ m → rank n (level j).size ≡ j
  independent_rank zero h = omega (arith, (level_of T C 0 h).rank_le)
  independent_rank (suc j) h = go (independent_rank j (omega arith)) (C.link j h).kind
    where
      go : rank n (level j).size ≡ j
          → Grows S n T.degree (level j) (level (suc j)) (kernel j) ⊎ Kernel S n (level j) (level (suc j)) (kernel j)
          → rank n (level (suc j)).size ≡ suc j
      go e (inl g) = omega (arith, g.one_more)
      go e (inr k) = absurd (no_kernel j h k)

  pub independent_fit : m ≤ n
  independent_fit = omega (arith, independent_rank m (omega arith), rank_le n (level m).size)

  -- as many as rows: a row that kills the columns kills the slots, and so is zero
  pub square_rows : m ≡ n → IndependentRows R n m M
  square_rows square q kills = row_zero S n U q (λ p l _. L.filled p l (full p l)) (λ p l _. killed p l)
    where
      U : Slots A
      U = level m

      L : LevelKnown T m U
      L = level_of T C m (omega arith)

      full : (p : ℕ) → p < n → 0 < U.size p
      full = rank_full n U.size (independent_rank m (omega arith) ∙ square)

      killed : (p : ℕ) → p < n → sum R n (λ i. q i * U.at p i) ≡ 𝟘
      killed p l =
          sum_ext R n (λ i. q i * U.at p i) (λ i. q i * sum R m (λ j. M i j * X.parts j))
          (λ i g. ap (λ y. q i * y) (X.equal i g))
          ∙ sum_assoc R n m q M X.parts
          ∙ sum_none R m (λ j. sum R n (λ i. q i * M i j) * X.parts j)
          (λ j g. ap (λ y. y * X.parts j) (kills j g) ∙ zero_mul R (X.parts j))
        where
          X : Columns T m (U.at p)
          X = L.within (U.at p) (span_slot R U p l (full p l))

module _ {A : Type 0} {R : Ring A} {S : Sized R} (E : Euclidean S) (T : LinearSystem S) where
  open T use {rows as n, columns as m, degree as δ, matrix as M, side as b}
  open R use {mul as ◌*◌, zero as 𝟘}

  infixl 70 ◌*◌
  -- the columns are the rows, and the right side is zero
  transposed : LinearSystem S
  transposed = record {
    rows = m;
    columns = n;
    degree = δ;
    matrix = λ j i. M i j;
    side = λ j. 𝟘;
    matrix_small = λ j i l h. T.matrix_small i j h l;
    side_small = λ j l. omega (arith, S.size_zero);
  }

  -- rows and columns independent: there are as many of both
  pub independent_square : IndependentColumns R n m M → IndependentRows R n m M → m ≡ n
  unfolding transposed
  independent_square columns rows = omega (
    arith,
    independent_fit T (level E T) (kernel E T) (levels E T) columns,
    independent_fit transposed (level E transposed) (kernel E transposed) (levels E transposed) (λ q kills. rows q (λ j l.
        sum_ext R n (λ i. q i * M i j) (λ i. M i j * q i) (λ i g. R.mul_comm (q i) (M i j)) ∙ kills j l)),
  )

  -- a square system whose columns are independent has a solution, whatever its right side
  pub square_solved : m ≡ n → IndependentColumns R n m M → (B : ℕ) → n *ₙ δ ≤ B → Solved E T (suc B)
  square_solved square independent B h = go (certificate_within E T B (omega (arith, mul-le-mul_right δ least)))
    where
      least : min n m ≤ n
      least = omega arith

      go : Solved E T (suc B) ⊎ Unsolvable E T (suc B) → Solved E T (suc B)
      go (inl s) = s
      go (inr u) = absurd (u.right.nonzero (sum_none R n (λ i. u.q i * b i)
          (λ i l. ap (λ y. y * b i) (square_rows T (level E T) (kernel E T) (levels E T) independent square u.q
          u.right.kills i l)
          ∙ zero_mul R (b i))))
