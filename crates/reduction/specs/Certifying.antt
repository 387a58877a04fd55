-- Which w and Z: of all z = Z/w with z·A integral and z·b = 1/d modulo polynomials, the one that is short against the vectors of
-- the span of A and b, in lowest terms. There is only one.
use Rattle.std.specs.Prelude.{ℕ, suc, ◌<◌, ◌≤◌, ◌+◌ as ◌+ₙ◌, ◌≡◌, ◌⊎◌, [], ◌∷◌}
use Rattle.std.proofs.Math.Path.{refl, ap}
use Rattle.std.proofs.Common.{sym, ◌∙◌, ap₂, inl, inr, arith}
use Rattle.std.proofs.Math.Decide.{dec_le}
use Rattle.ring.specs.Ring.{Ring, mul_zero}
use Rattle.ring.specs.Sum.{sum, sum_ext, sum_add, sum_mul, sum_assoc}
use Rattle.ring.specs.Identity.{quotes, identity}
use Rattle.ring.specs.Combination.{given, combination}
use Rattle.algebra.specs.Sized.{Sized, mul_cancel, size_neg_equal, zero_decided, positive_nonzero, size_mul_nonzero}
use Rattle.algebra.specs.Divides.{Divides, divides_size, divides_add, divides_mul, divides_sum, divides_equal}
use Rattle.reduction.specs.Pivot.{Vanishes, Pivot}
use Rattle.reduction.specs.Slots.{unweighted}
use Rattle.reduction.specs.Row.{Last, find_last, row_size}

module _ {A : Type 0} {R : Ring A} (S : Sized R) (n m : ℕ) (M : ℕ → ℕ → A) (b : ℕ → A) where
  open R use {add as ◌+◌, mul as ◌*◌, neg as -◌, zero as 𝟘, one as 𝟙}
  open S use {size}

  infixl 65 ◌+◌
  infixl 65 ◌-◌
  infixl 70 ◌*◌
  infix 75 -◌
  abbrev ◌-◌ : A → A → A
  a - b = a + (- b)

  -- x is a combination of the columns and b
  pub record Spanned (x : ℕ → A) : Type 0 where
    pub parts : ℕ → A
    pub part : A
    pub equal : (i : ℕ) → i < n → x i ≡ sum R m (λ j. M i j * parts j) + part * b i

  -- row i of Z/w is of smaller degree than minus that of some vector of the span with its pivot at i
  pub record Short (w : A) (Z : ℕ → A) (i : ℕ) : Type 0 where
    pub vector : ℕ → A
    pub spanned : Spanned vector
    pub length : ℕ
    pub pivot : Pivot S n unweighted vector i length
    pub short : size (Z i) +ₙ length ≤ size w

  pub record Certifying (d w : A) (Z : ℕ → A) : Type 0 where
    pub nonzero : ¬ (w ≡ 𝟘)
    -- z·A is integral
    pub columns : (j : ℕ) → j < m → Divides R w (sum R n (λ i. Z i * M i j))
    -- z·b = 1/d modulo polynomials
    pub cofactor : A
    pub quotient : w ≡ d * cofactor
    pub side : Divides R w (sum R n (λ i. Z i * b i) - cofactor)
    pub short : (i : ℕ) → i < n → ¬ (Z i ≡ 𝟘) → Short w Z i
    -- lowest terms
    pub lowest : (c : A) (y : ℕ → A) → ((i : ℕ) → i < n → c * Z i ≡ y i * w) → Divides R w c

  module _ {d w : A} {Z : ℕ → A} (K : Certifying d w Z) {x : ℕ → A} (s : Spanned x) where
    abbrev β : A
    β = s.part

    abbrev u : ℕ → A
    u = s.parts

    abbrev Zb : A
    Zb = sum R n (λ i. Z i * b i)

    abbrev Zm : A
    Zm = sum R n (λ i. Z i * sum R m (λ j. M i j * u j))

    apart : sum R n (λ i. Z i * x i) ≡ Zm + β * Zb
    apart =
        sum_ext R n (λ i. Z i * x i) (λ i. Z i * sum R m (λ j. M i j * u j) + β * (Z i * b i))
        (λ i h. ap (λ y. Z i * y) (s.equal i h)
        ∙ identity R (Z i ∷ sum R m (λ j. M i j * u j) ∷ β ∷ b i ∷ []) (λ ρ qz qs qp qb. search quotes depth 16) refl)
        ∙ sum_add R n (λ i. Z i * sum R m (λ j. M i j * u j)) (λ i. β * (Z i * b i))
        ∙ ap (λ y. Zm + y) (sum_mul R n β (λ i. Z i * b i))

    columns_divide : Divides R w Zm
    columns_divide = divides_equal (sym (sum_assoc R n m Z M u)) (divides_sum m (λ j. sum R n (λ i. Z i * M i j) * u j)
        (λ j h. divides_equal (R.mul_comm (u j) (sum R n (λ i. Z i * M i j))) (divides_mul (u j) (K.columns j h))))

    -- Z·x = (part of b)·w/d modulo w
    row_divides : Divides R w (sum R n (λ i. Z i * x i) - β * K.cofactor)
    row_divides = divides_equal
        (sym (ap (λ y. y - β * K.cofactor) apart
        ∙ identity R (Zm ∷ β ∷ Zb ∷ K.cofactor ∷ []) (λ ρ q1 q2 q3 q4. search quotes depth 16) refl))
        (divides_add columns_divide (divides_mul β K.side))

  module _ {d w w₁ : A} {Z Z₁ : ℕ → A} (K : Certifying d w Z) (K₁ : Certifying d w₁ Z₁) where
    Y : ℕ → A
    Y i = w₁ * Z i - w * Z₁ i

    -- the difference of the two, times w·w₁, on a vector of the span
    both : {x : ℕ → A} → Spanned x → Divides R (w * w₁) (sum R n (λ i. Y i * x i))
    unfolding Y
    both {x} s = record {
      cofactor = D.cofactor - D₁.cofactor;
      product = combination R Yx ((D.cofactor - D₁.cofactor) * (w * w₁))
          (given 𝟙 apart ∷ given w₁ D.product ∷ given (- w) D₁.product
          ∷ given (- (s.part * K₁.cofactor)) K.quotient ∷ given (s.part * K.cofactor) K₁.quotient ∷ [])
          (identity R (Yx ∷ D.cofactor ∷ D₁.cofactor ∷ w ∷ w₁ ∷ Zx ∷ Zx₁ ∷ s.part ∷ K.cofactor ∷ K₁.cofactor ∷ d ∷ [])
          (λ ρ q1 q2 q3 q4 q5 q6 q7 q8 q9 q10 q11. search quotes depth 24) refl);
    }
      where
        D : Divides R w (sum R n (λ i. Z i * x i) - s.part * K.cofactor)
        D = row_divides K s

        D₁ : Divides R w₁ (sum R n (λ i. Z₁ i * x i) - s.part * K₁.cofactor)
        D₁ = row_divides K₁ s

        Yx : A
        Yx = sum R n (λ i. (w₁ * Z i - w * Z₁ i) * x i)

        Zx : A
        Zx = sum R n (λ i. Z i * x i)

        Zx₁ : A
        Zx₁ = sum R n (λ i. Z₁ i * x i)

        apart : Yx ≡ w₁ * Zx + (- w) * Zx₁
        apart =
            sum_ext R n (λ i. (w₁ * Z i - w * Z₁ i) * x i) (λ i. w₁ * (Z i * x i) + (- w) * (Z₁ i * x i))
            (λ i h. identity R (w ∷ w₁ ∷ Z i ∷ Z₁ i ∷ x i ∷ []) (λ ρ q1 q2 q3 q4 q5. search quotes depth 16) refl)
            ∙ sum_add R n (λ i. w₁ * (Z i * x i)) (λ i. (- w) * (Z₁ i * x i))
            ∙ ap₂ ◌+◌ (sum_mul R n w₁ (λ i. Z i * x i)) (sum_mul R n (- w) (λ i. Z₁ i * x i))

    -- the two are equal as fractions: else take their difference where it is greatest last, and a shortest vector with its pivot
    -- there
    module _ (l : Last S n Y) where
      abbrev p : ℕ
      p = l.at

      -- a vector that is short against the difference
      record Against : Type 0 where
        pub vector : ℕ → A
        pub spanned : Spanned vector
        pub length : ℕ
        pub pivot : Pivot S n unweighted vector p length
        pub short : size (Y p) +ₙ length < size w +ₙ size w₁

      contradiction : Against → ⊥
      contradiction X = omega (
        arith,
        row_size S n Y X.vector p X.length X.pivot l.positive l.upto l.later,
        X.pivot.reached,
        X.pivot.positive,
        l.positive,
        X.short,
        divides_size S (both X.spanned) (positive_nonzero S _ positive),
        size_mul_nonzero S w w₁ K.nonzero K₁.nonzero,
      )
        where
          positive : 0 < size (sum R n (λ i. Y i * X.vector i))
          positive = omega (
            arith,
            row_size S n Y X.vector p X.length X.pivot l.positive l.upto l.later,
            X.pivot.positive,
            l.positive,
          )

      -- of Z: its row at p is short, and so is w₁ times it
      of_first : (x : Short w Z p) → size (Y p) ≤ size (w₁ * Z p) → ¬ (Z p ≡ 𝟘) → Against
      of_first x le ne = record {
        vector = x.vector;
        spanned = x.spanned;
        length = x.length;
        pivot = x.pivot;
        short = omega (arith, le, x.short, size_mul_nonzero S w₁ (Z p) K₁.nonzero ne);
      }

      of_second : (x : Short w₁ Z₁ p) → size (Y p) ≤ size (w * Z₁ p) → ¬ (Z₁ p ≡ 𝟘) → Against
      of_second x le ne = record {
        vector = x.vector;
        spanned = x.spanned;
        length = x.length;
        pivot = x.pivot;
        short = omega (arith, le, x.short, size_mul_nonzero S w (Z₁ p) K.nonzero ne);
      }

      against : Against
      unfolding Y
      against = go (zero_decided S (Z p)) (zero_decided S (Z₁ p))
        where
          only_first : Z₁ p ≡ 𝟘 → Y p ≡ w₁ * Z p
          only_first e = ap (λ y. w₁ * Z p - w * y) e
              ∙ identity R (w ∷ w₁ ∷ Z p ∷ []) (λ ρ q1 q2 q3. search quotes depth 16) refl

          only_second : Z p ≡ 𝟘 → size (Y p) ≡ size (w * Z₁ p)
          only_second e = ap size (ap (λ y. w₁ * y - w * Z₁ p) e
              ∙ identity R (w ∷ w₁ ∷ Z₁ p ∷ []) (λ ρ q1 q2 q3. search quotes depth 16) refl) ∙ size_neg_equal S (w * Z₁ p)

          go : Dec (Z p ≡ 𝟘) → Dec (Z₁ p ≡ 𝟘) → Against
          go (yes e) (yes f) = absurd (positive_nonzero S (Y p) l.positive (only_first f ∙ ap (λ y. w₁ * y) e ∙ mul_zero R w₁))
          go (no e) (yes f) = of_first (K.short p l.inside e) (omega (arith, ap size (only_first f))) e
          go (yes e) (no f) = of_second (K₁.short p l.inside f) (omega (arith, only_second e)) f
          go (no e) (no f) = shorter (dec_le x.length x₁.length) (dec_le (size (w * Z₁ p)) (size (w₁ * Z p)))
            where
              x : Short w Z p
              x = K.short p l.inside e

              x₁ : Short w₁ Z₁ p
              x₁ = K₁.short p l.inside f

              product : suc (size (w₁ * Z p)) ≡ size w₁ +ₙ size (Z p)
              product = size_mul_nonzero S w₁ (Z p) K₁.nonzero e

              product₁ : suc (size (w * Z₁ p)) ≡ size w +ₙ size (Z₁ p)
              product₁ = size_mul_nonzero S w (Z₁ p) K.nonzero f

              most : (k : ℕ) → size (w₁ * Z p) ≤ k → size (w * Z₁ p) ≤ k → size (Y p) ≤ k
              most k h g = S.size_add k (w₁ * Z p) (- (w * Z₁ p)) h (S.size_neg k (w * Z₁ p) g)

              shorter : Dec (x.length ≤ x₁.length) → Dec (size (w * Z₁ p) ≤ size (w₁ * Z p)) → Against
              shorter (yes a) (yes c) = of_first x (most _ (omega arith) c) e
              shorter (yes a) (no c) = record {
                vector = x.vector;
                spanned = x.spanned;
                length = x.length;
                pivot = x.pivot;
                short = omega (arith, most (size (w * Z₁ p)) (omega arith) (omega arith), x₁.short, product₁);
              }
              shorter (no a) (yes c) = record {
                vector = x₁.vector;
                spanned = x₁.spanned;
                length = x₁.length;
                pivot = x₁.pivot;
                short = omega (arith, most (size (w₁ * Z p)) (omega arith) c, x.short, product);
              }
              shorter (no a) (no c) = of_second x₁ (most _ (omega arith) (omega arith)) f

    fractions : Vanishes R n Y
    fractions = go (find_last S n Y)
      where
        go : Last S n Y ⊎ Vanishes R n Y → Vanishes R n Y
        go (inr z) = z
        go (inl l) = absurd (contradiction l (against l))

    pub certifying_fractions : (i : ℕ) → i < n → w₁ * Z i ≡ w * Z₁ i
    unfolding Y
    certifying_fractions i h = combination R (w₁ * Z i) (w * Z₁ i) (given 𝟙 (fractions i h) ∷ [])
        (identity R (w ∷ w₁ ∷ Z i ∷ Z₁ i ∷ []) (λ ρ q1 q2 q3 q4. search quotes depth 16) refl)

    pub certifying_divides : Divides R w w₁
    certifying_divides = K.lowest w₁ Z₁ (λ i h. certifying_fractions i h ∙ R.mul_comm w (Z₁ i))

  -- so, where both are monic, w and then Z are the same
  pub certifying_unique : {d w w₁ : A} {Z Z₁ : ℕ → A} → Certifying d w Z → Certifying d w₁ Z₁
      → (Divides R w w₁ → Divides R w₁ w → w ≡ w₁) → (w ≡ w₁) × ((i : ℕ) → i < n → Z i ≡ Z₁ i)
  certifying_unique {d} {w} {w₁} {Z} {Z₁} K K₁ monic = (
    same,
    λ i h. mul_cancel S w (Z i) (Z₁ i) K.nonzero
        (ap (λ y. y * Z i) same ∙ certifying_fractions K K₁ i h),
  )
    where
      same : w ≡ w₁
      same = monic (certifying_divides K K₁) (certifying_divides K₁ K)
