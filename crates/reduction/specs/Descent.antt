-- L6, the way down: from a vector f of the span of the last level, one column after another, to its coordinates N with A·N = f.
use Rattle.std.specs.Prelude.{ℕ, suc, ◌<◌, ◌≤◌, ◌+◌ as ◌+ₙ◌, ◌*◌ as ◌*ₙ◌, ◌≡◌, refl, [], ◌∷◌}
use Rattle.std.proofs.Common.{sym, ◌∙◌, ap, subst, arith}
use Rattle.std.proofs.Math.Logic.{ite, if_pos, if_neg}
use Rattle.std.proofs.Math.Decide.{ℕ_discrete, dec_lt}
use Rattle.ring.specs.Ring.{Ring, mul_zero, zero_mul}
use Rattle.ring.specs.Sum.{sum, sum_ext, sum_none, sum_change}
use Rattle.ring.specs.Identity.{quotes, identity}
use Rattle.ring.specs.Combination.{given, combination}
use Rattle.algebra.specs.Sized.{Sized, size_of_zero}
use Rattle.reduction.specs.Total.{rank, degrees}
use Rattle.reduction.specs.Replace.{extend, extend_below, extend_at, below_suc}
use Rattle.reduction.specs.Slots.{Slots}
use Rattle.reduction.specs.Span.{combined, InSpan}
use Rattle.reduction.specs.System.{LinearSystem}
use Rattle.reduction.specs.Levels.{LevelKnown, Levels, level_of}
use Rattle.reduction.specs.Lowering.{Bounded, Lowered, lowered}

-- N from j on, z before
unfoldable pub onward : {A : Type 0} → ℕ → A → (ℕ → A) → ℕ → A
onward j z N k = ite (dec_lt k j) z (N k)

onward_from : {A : Type 0} (j : ℕ) (z : A) (N : ℕ → A) (k : ℕ) → j ≤ k → onward j z N k ≡ N k
unfolding onward
onward_from j z N k h = if_neg (dec_lt k j) (omega arith) z (N k)

onward_before : {A : Type 0} (j : ℕ) (z : A) (N : ℕ → A) (k : ℕ) → k < j → onward j z N k ≡ z
unfolding onward
onward_before j z N k h = if_pos (dec_lt k j) h z (N k)

module _ {A : Type 0} {R : Ring A} {S : Sized R} (T : LinearSystem S) (level : ℕ → Slots A) (kernel : ℕ → A) where
  open T use {rows as n, columns as m, degree as δ, matrix as M, matrix_small}
  open R use {add as ◌+◌, mul as ◌*◌, neg as -◌, zero as 𝟘, one as 𝟙, add_zero}
  open S use {size}

  infixl 65 ◌+◌
  infixl 65 ◌-◌
  infixl 70 ◌*◌
  infix 75 -◌
  abbrev ◌-◌ : A → A → A
  a - b = a + (- b)

  -- the columns from j on are done: t is left of f
  pub record Descent (f : ℕ → A) (j : ℕ) (t N : ℕ → A) : Type 0 where
    pub span : InSpan R n n (level j) t
    pub equal : (i : ℕ) → i < n → f i ≡ t i + sum R m (λ k. M i k * onward j 𝟘 N k)
    pub surplus : ℕ
    pub surplus_equal : surplus +ₙ rank n (level j).size *ₙ δ ≡ rank n (level m).size *ₙ δ
    pub rest_small : Bounded S n δ (level j) surplus t
    pub small : (k : ℕ) → j ≤ k → k < m → size (N k) ≤ suc (rank n (level m).size *ₙ δ)
    pub reduced : (k : ℕ) → j ≤ k → k < m → 0 < size (kernel k) → size (N k) < size (kernel k)

  pub descent_start : (f N : ℕ → A) → InSpan R n n (level m) f
      → ((i : ℕ) → i < n → size (f i) ≤ suc (δ +ₙ degrees n (level m).size)) → Descent f m f N
  descent_start f N s b = record {
    span = s;
    equal = λ i h. sym (ap (λ x. f i + x) (none i) ∙ add_zero (f i));
    surplus = 0;
    surplus_equal = omega arith;
    rest_small = λ i h. omega (arith, b i h);
    small = λ k h l. absurd (omega arith);
    reduced = λ k h l p. absurd (omega arith);
  }
    where
      none : (i : ℕ) → sum R m (λ k. M i k * onward m 𝟘 N k) ≡ 𝟘
      none i = sum_none R m (λ k. M i k * onward m 𝟘 N k)
          (λ k l. ap (λ x. M i k * x) (onward_before m 𝟘 N k l) ∙ mul_zero R (M i k))

  -- a turn: column j gets its coordinate N' j, the combination of tails, modulo the kernel if there is one
  pub record Turn (j : ℕ) (t N t' N' : ℕ → A) : Type 0 where
    pub tails : A
    pub span : InSpan R n (suc n) (level (suc j)) (extend n t tails)
    pub multiple : A
    pub coordinate : N' j ≡ tails - multiple * kernel j
    pub reduced : 0 < size (kernel j) → size (N' j) < size (kernel j)
    pub others : (k : ℕ) → j < k → k < m → N' k ≡ N k
    pub rest : (i : ℕ) → i < n → t' i ≡ t i - N' j * M i j

  module _ (C : Levels T level kernel m) (f : ℕ → A) (j : ℕ) (h : j < m) {t N t' N' : ℕ → A} (X : Turn j t N t' N')
      (D : Descent f (suc j) t N) where
    Q : Lowered S n δ D.surplus (level j) (level (suc j)) t' (N' j)
    Q = lowered S n δ (C.link j h) (λ i l. matrix_small i j l h) D.surplus t D.rest_small X.tails X.span
        X.multiple (N' j) X.coordinate X.reduced t' X.rest

    L : LevelKnown T j (level j)
    L = level_of T C j (omega arith)

    coordinate_small : (k : ℕ) → j ≤ k → k < m → Dec (k ≡ j) → size (N' k) ≤ suc (rank n (level m).size *ₙ δ)
    coordinate_small k g l (yes r) =
        omega (arith, ap (λ x. size (N' x)) r, Q.small, Q.surplus_equal, D.surplus_equal, L.degrees_le)
    coordinate_small k g l (no r) = omega (arith, ap size (X.others k (omega arith) l), D.small k (omega arith) l)

    coordinate_reduced : (k : ℕ) → j ≤ k → k < m → 0 < size (kernel k) → Dec (k ≡ j) → size (N' k) < size (kernel k)
    coordinate_reduced k g l p (yes r) = subst (λ x. 0 < size (kernel x) → size (N' x) < size (kernel x)) (sym r) X.reduced p
    coordinate_reduced k g l p (no r) = omega (arith, ap size (X.others k (omega arith) l), D.reduced k (omega arith) l p)

    -- the sum changes in its term at j, from zero to M i j * N' j
    other : (k : ℕ) → k < m → ¬ (k ≡ j) → Dec (k < j) → onward j 𝟘 N' k ≡ onward (suc j) 𝟘 N k
    other k l r (yes g) = onward_before j 𝟘 N' k g ∙ sym (onward_before (suc j) 𝟘 N k (omega arith))
    other k l r (no g) =
        onward_from j 𝟘 N' k (omega arith) ∙ X.others k (omega arith) l ∙ sym (onward_from (suc j) 𝟘 N k (omega arith))

    abbrev old : ℕ → A
    old i = sum R m (λ k. M i k * onward (suc j) 𝟘 N k)

    abbrev new : ℕ → A
    new i = sum R m (λ k. M i k * onward j 𝟘 N' k)

    changed : (i : ℕ) → new i + M i j * 𝟘 ≡ old i + M i j * N' j
    changed i =
        ap (λ x. new i + M i j * x) (sym (onward_before (suc j) 𝟘 N j (omega arith)))
        ∙ sum_change R m j (λ k. M i k * onward j 𝟘 N' k) (λ k. M i k * onward (suc j) 𝟘 N k) h
        (λ k l r. ap (λ x. M i k * x) (other k l r (dec_lt k j)))
        ∙ ap (λ x. old i + M i j * x) (onward_from j 𝟘 N' j (omega arith))

    -- L6, all columns: one turn of the loop
    pub descent_turn : Descent f j t' N'
    descent_turn = record {
      span = Q.span;
      equal = λ i l. combination R (f i) (t' i + new i)
          (given 𝟙 (D.equal i l) ∷ given (- 𝟙) (X.rest i l) ∷ given (- 𝟙) (changed i) ∷ [])
          (identity R (f i ∷ t i ∷ t' i ∷ old i ∷ new i ∷ M i j ∷ N' j ∷ [])
          (λ ρ qf qt qt' qs qs' qm qn. search quotes depth 20) refl);
      surplus = Q.surplus;
      surplus_equal = omega (arith, Q.surplus_equal, D.surplus_equal);
      rest_small = Q.rest_small;
      small = λ k g l. coordinate_small k g l (ℕ_discrete k j);
      reduced = λ k g l p. coordinate_reduced k g l p (ℕ_discrete k j);
    }

  -- room: what is left of f never has more than δ + r·δ + 1 coefficients
  pub descent_room : Levels T level kernel m → {f t N : ℕ → A} {j : ℕ} → j ≤ m → Descent f j t N
      → (i : ℕ) → i < n → size (t i) ≤ suc (δ +ₙ rank n (level m).size *ₙ δ)
  descent_room C {j = j} h D i l = omega (arith, D.rest_small i l, D.surplus_equal, (level_of T C j h).degrees_le)

  -- at the end nothing is left
  pub descent_end : Levels T level kernel m → (f t N : ℕ → A) → Descent f 0 t N
      → (i : ℕ) → i < n → sum R m (λ k. M i k * N k) ≡ f i
  descent_end C f t N D i h = combination R (sum R m (λ k. M i k * N k)) (f i)
      (given (- 𝟙) (D.equal i h) ∷ given (- 𝟙) (D.span.equal i h ∙ none) ∷ given 𝟙 all ∷ [])
      (identity R (f i ∷ t i ∷ sum R m (λ k. M i k * N k) ∷ sum R m (λ k. M i k * onward 0 𝟘 N k) ∷ [])
      (λ ρ qf qt qs qs'. search quotes depth 16) refl)
    where
      none : combined R n D.span.coefficient (level 0) i ≡ 𝟘
      none = sum_none R n (λ q. D.span.coefficient q * (level 0).at q i)
          (λ q l. ap (λ x. x * (level 0).at q i) (D.span.empty q l (C.empty q l)) ∙ zero_mul R ((level 0).at q i))

      all : sum R m (λ k. M i k * N k) ≡ sum R m (λ k. M i k * onward 0 𝟘 N k)
      all = sum_ext R m (λ k. M i k * N k) (λ k. M i k * onward 0 𝟘 N k)
          (λ k l. ap (λ x. M i k * x) (sym (onward_from 0 𝟘 N k (omega arith))))

  -- a column that was left out, with kernel one, has coordinate zero, and nothing else is to do
  pub turn_drop : {f t N N' : ℕ → A} {j : ℕ} → kernel j ≡ 𝟙 → Descent f (suc j) t N
      → N' j ≡ 𝟘 → ((k : ℕ) → j < k → k < m → N' k ≡ N k) → Turn j t N t N'
  turn_drop {f} {t} {N} {N'} {j} one D none others = record {
    tails = τ;
    span = record {
      coefficient = D.span.coefficient;
      empty = D.span.empty;
      equal = below_suc n (λ k. extend n t τ k ≡ combined R n D.span.coefficient (level (suc j)) k)
          (λ k h. extend_below n t τ k h ∙ D.span.equal k h) (extend_at n t τ);
    };
    multiple = τ;
    coordinate = none ∙ sym (ap (λ x. τ - τ * x) one ∙ identity R (τ ∷ []) (λ ρ qt. search quotes depth 16) refl);
    reduced = λ p. omega (arith, size_of_zero S (N' j) none);
    others = others;
    rest = λ i h. sym (ap (λ x. t i - x * M i j) none ∙ identity R (t i ∷ M i j ∷ []) (λ ρ qt qm. search quotes depth 16) refl);
  }
    where
      τ : A
      τ = combined R n D.span.coefficient (level (suc j)) n
