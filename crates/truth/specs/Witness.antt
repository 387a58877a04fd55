-- Why a certificate tells the truth, in any commutative ring without zero divisors (section 4 of the mathematics): a row Z with w
-- dividing Z·A bounds the denominators of A·y = b from below, and a row q with q·A = 0 and q·b not 0 excludes every solution.
use Rattle.std.specs.Prelude.{ℕ, ◌<◌, ◌≡◌, refl, [], ◌∷◌}
use Rattle.std.proofs.Common.{sym, ◌∙◌, ap}
use Rattle.ring.specs.Ring.{Ring, mul_left_comm, zero_mul}
use Rattle.ring.specs.Identity.{quotes, identity}
use Rattle.ring.specs.Combination.{given, combination}
use Rattle.ring.specs.Sum.{sum, sum_ext, sum_none, sum_mul, sum_assoc}
use Rattle.algebra.specs.Sized.{Cancels, cancels_equal}

-- a matrix of n rows and m columns with a right side
pub record RingEquations (A : Type 0) : Type 0 where
  pub rows : ℕ
  pub columns : ℕ
  pub entry : ℕ → ℕ → A
  pub side : ℕ → A

module _ {A : Type 0} (R : Ring A) where
  open R use {add as ◌+◌, mul as ◌*◌, neg as -◌, zero as 𝟘, one as 𝟙}

  infixl 65 ◌+◌
  infixl 70 ◌*◌
  infix 75 -◌
  -- row i of A·x
  abbrev pub row_of : RingEquations A → (ℕ → A) → ℕ → A
  row_of E x i = sum R E.columns (λ j. E.entry i j * x j)

  -- column j of Z·A
  abbrev pub column_of : RingEquations A → (ℕ → A) → ℕ → A
  column_of E Z j = sum R E.rows (λ i. Z i * E.entry i j)

  -- Z·b
  abbrev pub side_of : RingEquations A → (ℕ → A) → A
  side_of E Z = sum R E.rows (λ i. Z i * E.side i)

  -- the fractions x / e solve A·y = b
  pub record SolvesEquations (E : RingEquations A) (x : ℕ → A) (e : A) : Type 0 where
    pub nonzero : ¬ (e ≡ 𝟘)
    pub rows : (i : ℕ) → i < E.rows → row_of E x i ≡ e * E.side i

  -- w divides Z·A, and w = d·g, Z·b = g·s with d and s coprime
  pub record Bounds (E : RingEquations A) (d w : A) (Z : ℕ → A) : Type 0 where
    pub quotient : ℕ → A
    pub columns : (j : ℕ) → j < E.columns → column_of E Z j ≡ w * quotient j
    pub g : A
    pub g_nonzero : ¬ (g ≡ 𝟘)
    pub s : A
    pub w_is : w ≡ d * g
    pub side_is : side_of E Z ≡ g * s
    pub α : A
    pub β : A
    pub coprime : α * d + β * s ≡ 𝟙

  module _ (cancels : Cancels R) (E : RingEquations A) where
    -- A·x = c·b gives c·(Z·b) = (Z·A)·x
    times_row : (Z : ℕ → A) (c : A) (x : ℕ → A) → ((i : ℕ) → i < E.rows → row_of E x i ≡ c * E.side i)
        → c * side_of E Z ≡ sum R E.columns (λ j. column_of E Z j * x j)
    times_row Z c x h =
        sym (sum_mul R E.rows c (λ i. Z i * E.side i))
        ∙ sum_ext R E.rows (λ i. c * (Z i * E.side i)) (λ i. Z i * row_of E x i)
        (λ i k. mul_left_comm R c (Z i) (E.side i) ∙ ap (λ y. Z i * y) (sym (h i k)))
        ∙ sum_assoc R E.rows E.columns Z E.entry x

    -- lemma 6 of document 002: c·x = e·Q gives A·Q = c·b, so that w divides Z·A·Q = c·(Z·b)
    pub clearing_side : (w : A) (Z q : ℕ → A) → ((j : ℕ) → j < E.columns → column_of E Z j ≡ w * q j) → (x : ℕ → A) (e : A)
        → SolvesEquations E x e
        → (c : A) (Q : ℕ → A) → ((j : ℕ) → j < E.columns → c * x j ≡ e * Q j)
        → c * side_of E Z ≡ w * sum R E.columns (λ j. q j * Q j)
    clearing_side w Z q columns x e X c Q h =
        times_row Z c Q row
        ∙ sum_ext R E.columns (λ j. column_of E Z j * Q j) (λ j. w * (q j * Q j))
        (λ j k. ap (λ z. z * Q j) (columns j k) ∙ R.mul_assoc w (q j) (Q j))
        ∙ sum_mul R E.columns w (λ j. q j * Q j)
      where
        row : (i : ℕ) → i < E.rows → row_of E Q i ≡ c * E.side i
        row i k = cancels_equal R cancels e (row_of E Q i) (c * E.side i) X.nonzero
            (sym (sum_mul R E.columns e (λ j. E.entry i j * Q j))
            ∙ sum_ext R E.columns (λ j. e * (E.entry i j * Q j)) (λ j. c * (E.entry i j * x j))
            (λ j l. mul_left_comm R e (E.entry i j) (Q j) ∙ ap (λ z. E.entry i j * z) (sym (h j l))
            ∙ mul_left_comm R (E.entry i j) c (x j))
            ∙ sum_mul R E.columns c (λ j. E.entry i j * x j) ∙ ap (λ z. c * z) (X.rows i k) ∙ mul_left_comm R c e (E.side i))

    -- whatever makes a solution whole is a multiple of d: w divides c·(Z·b), so that d divides c·s and so c
    pub bounds_clearing : (d w : A) (Z : ℕ → A) → Bounds E d w Z → (x : ℕ → A) (e : A) → SolvesEquations E x e
        → (c : A) (Q : ℕ → A) → ((j : ℕ) → j < E.columns → c * x j ≡ e * Q j) → (t : A) × (c ≡ t * d)
    bounds_clearing d w Z B x e X c Q h = (B.α * c + B.β * Y, whole)
      where
        Y : A
        Y = sum R E.columns (λ j. B.quotient j * Q j)

        both : c * (B.g * B.s) ≡ w * Y
        both = ap (λ z. c * z) (sym B.side_is) ∙ clearing_side w Z B.quotient B.columns x e X c Q h

        divided : c * B.s ≡ d * Y
        divided = cancels_equal R cancels B.g (c * B.s) (d * Y) B.g_nonzero
            (combination R (B.g * (c * B.s)) (B.g * (d * Y)) (given 𝟙 both ∷ given Y B.w_is ∷ [])
            (identity R (B.g ∷ d ∷ Y ∷ c ∷ B.s ∷ w ∷ []) (λ ρ qg qd q_Y qc qs qw. search quotes depth 20) refl))

        whole : c ≡ (B.α * c + B.β * Y) * d
        whole = combination R c ((B.α * c + B.β * Y) * d) (given (- c) B.coprime ∷ given B.β divided ∷ [])
            (identity R (c ∷ B.α ∷ B.β ∷ Y ∷ d ∷ B.s ∷ []) (λ ρ qc qα qβ q_Y qd qs. search quotes depth 20) refl)

    -- with q·A = 0 and q·b not 0 there is no solution: e·(q·b) = q·A·x = 0
    pub excludes : (q : ℕ → A) → ((j : ℕ) → j < E.columns → column_of E q j ≡ 𝟘) → ¬ (side_of E q ≡ 𝟘)
        → (x : ℕ → A) (e : A) → ¬ SolvesEquations E x e
    excludes q zero_columns side x e X = side (cancels e (side_of E q) X.nonzero
        (times_row q e x X.rows
        ∙ sum_none R E.columns (λ j. column_of E q j * x j) (λ j k. ap (λ y. y * x j) (zero_columns j k) ∙ zero_mul R (x j))))
