-- Which q: of all rows that kill A, the one that is supported on the pivots of the span of A and on the one pivot h that b adds, in
-- lowest terms against its entry at h. There is only one.
use Rattle.std.specs.Prelude.{ℕ, ◌<◌, ◌+◌ as ◌+ₙ◌, ◌-◌ as ◌-ₙ◌, ◌≡◌, ◌⊎◌, [], ◌∷◌}
use Rattle.std.proofs.Math.Path.{refl, sym, ap₂}
use Rattle.std.proofs.Common.{◌∙◌, ap, inl, inr, arith}
use Rattle.std.proofs.Math.Decide.{ℕ_discrete}
use Rattle.ring.specs.Ring.{Ring, zero_mul}
use Rattle.ring.specs.Sum.{sum, sum_ext, sum_add, sum_mul, sum_none, sum_assoc}
use Rattle.ring.specs.Identity.{quotes, identity}
use Rattle.ring.specs.Combination.{given, combination}
use Rattle.algebra.specs.Sized.{Sized, zero_decided, size_positive, positive_nonzero, size_of_zero, mul_cancel, size_neg_equal}
use Rattle.algebra.specs.Divides.{Divides}
use Rattle.reduction.specs.Pivot.{Vanishes, Pivot, Before, before_decided, pivot_low, pivot_add, pivot_ext, pivot_scale}
use Rattle.reduction.specs.Slots.{unweighted}
use Rattle.reduction.specs.Row.{Last, find_last, row_size}
use Rattle.reduction.specs.Certifying.{Spanned}

module _ {A : Type 0} {R : Ring A} (S : Sized R) (n m : ℕ) (M : ℕ → ℕ → A) (b : ℕ → A) where
  open R use {add as ◌+◌, mul as ◌*◌, neg as -◌, zero as 𝟘, one as 𝟙}
  open S use {size}

  infixl 65 ◌+◌
  infixl 65 ◌-◌
  infixl 70 ◌*◌
  infix 75 -◌
  abbrev ◌-◌ : A → A → A
  a - b = a + (- b)

  -- a vector of the span of the columns alone, with its pivot at i
  pub record PivotOf (i : ℕ) : Type 0 where
    pub vector : ℕ → A
    pub parts : ℕ → A
    pub equal : (k : ℕ) → k < n → vector k ≡ sum R m (λ j. M k j * parts j)
    pub length : ℕ
    pub pivot : Pivot S n unweighted vector i length

  pub record Killing (q : ℕ → A) : Type 0 where
    pub kills : (j : ℕ) → j < m → sum R n (λ i. q i * M i j) ≡ 𝟘
    -- the pivot that b adds
    pub at : ℕ
    pub vector : ℕ → A
    pub spanned : Spanned S n m M b vector
    pub length : ℕ
    pub pivot : Pivot S n unweighted vector at length
    pub added : ¬ PivotOf at
    pub support : (i : ℕ) → i < n → ¬ (i ≡ at) → ¬ (q i ≡ 𝟘) → PivotOf i
    pub nonzero : ¬ (q at ≡ 𝟘)
    pub lowest : (c : A) (y : ℕ → A) → ((i : ℕ) → i < n → c * q i ≡ y i * q at) → Divides R (q at) c

  module _ {q q₁ : ℕ → A} (K : Killing q) (K₁ : Killing q₁) where
    abbrev h : ℕ
    h = K.at

    abbrev h₁ : ℕ
    h₁ = K₁.at

    abbrev β : A
    β = K.spanned.part

    abbrev β₁ : A
    β₁ = K₁.spanned.part

    -- a vector of the span of the columns that has its pivot at h would be one
    some : {q : ℕ → A} (K : Killing q) → ¬ (K.spanned.part ≡ 𝟘)
    some K e = K.added record {
      vector = K.vector;
      parts = K.spanned.parts;
      equal = λ k l. K.spanned.equal k l ∙ ap (λ y. sum R m (λ j. M k j * K.spanned.parts j) + y * b k) e
          ∙ identity R (sum R m (λ j. M k j * K.spanned.parts j) ∷ b k ∷ []) (λ ρ q1 q2. search quotes depth 16) refl;
      length = K.length;
      pivot = K.pivot;
    }

    -- β₁·v - β·v₁ is a combination of the columns
    x : ℕ → A
    x k = β₁ * K.vector k + (- β) * K₁.vector k

    parts : ℕ → A
    parts j = β₁ * K.spanned.parts j + (- β) * K₁.spanned.parts j

    equal : (k : ℕ) → k < n → x k ≡ sum R m (λ j. M k j * parts j)
    unfolding x parts
    equal k l =
        combination R (β₁ * K.vector k + (- β) * K₁.vector k) (β₁ * s + (- β) * s₁)
        (given β₁ (K.spanned.equal k l) ∷ given (- β) (K₁.spanned.equal k l) ∷ [])
        (identity R (β ∷ β₁ ∷ K.vector k ∷ K₁.vector k ∷ s ∷ s₁ ∷ b k ∷ []) (λ ρ q1 q2 q3 q4 q5 q6 q7. search quotes depth 20)
        refl)
        ∙ sym (sum_ext R m (λ j. M k j * parts j) (λ j. β₁ * (M k j * K.spanned.parts j) + (- β) * (M k j * K₁.spanned.parts j))
        (λ j g. identity R (β ∷ β₁ ∷ M k j ∷ K.spanned.parts j ∷ K₁.spanned.parts j ∷ [])
        (λ ρ q1 q2 q3 q4 q5. search quotes depth 16) refl)
        ∙ sum_add R m (λ j. β₁ * (M k j * K.spanned.parts j)) (λ j. (- β) * (M k j * K₁.spanned.parts j))
        ∙ ap₂ ◌+◌ (sum_mul R m β₁ (λ j. M k j * K.spanned.parts j)) (sum_mul R m (- β) (λ j. M k j * K₁.spanned.parts j)))
      where
        s : A
        s = sum R m (λ j. M k j * K.spanned.parts j)

        s₁ : A
        s₁ = sum R m (λ j. M k j * K₁.spanned.parts j)

    abbrev l₀ : ℕ
    l₀ = (size β₁ +ₙ K.length) -ₙ 1

    abbrev l₁ : ℕ
    l₁ = (size (- β) +ₙ K₁.length) -ₙ 1

    P : Pivot S n unweighted (λ k. β₁ * K.vector k) h l₀
    P = pivot_scale β₁ (size_positive S β₁ (some K₁)) K.pivot

    P₁ : Pivot S n unweighted (λ k. (- β) * K₁.vector k) h₁ l₁
    P₁ = pivot_scale (- β) (omega (arith, size_positive S β (some K), size_neg_equal S β)) K₁.pivot

    -- vectors with different pivots do not cancel each other
    pub killing_at : K.at ≡ K₁.at
    unfolding x
    killing_at = go (ℕ_discrete h h₁)
      where
        cases : Before h l₀ h₁ l₁ ⊎ Before h₁ l₁ h l₀ → ⊥
        cases (inl o) = K₁.added record {
          vector = x;
          parts = parts;
          equal = equal;
          length = l₁;
          pivot = pivot_ext (λ k l. R.add_comm ((- β) * K₁.vector k) (β₁ * K.vector k)) (pivot_add P₁ (pivot_low P o));
        }
        cases (inr o) = K.added record {
          vector = x;
          parts = parts;
          equal = equal;
          length = l₀;
          pivot = pivot_add P (pivot_low P₁ o);
        }

        go : Dec (h ≡ h₁) → h ≡ h₁
        go (yes e) = e
        go (no e) = absurd (cases (before_decided h l₀ h₁ l₁ e))

    -- both up to their entries at h: zero at h, killing the columns, and elsewhere supported on pivots of their span
    t : ℕ → A
    t i = q h * q₁ i + (- q₁ h) * q i

    at_h : t h ≡ 𝟘
    unfolding t
    at_h = identity R (q h ∷ q₁ h ∷ []) (λ ρ q1 q2. search quotes depth 16) refl

    row : (y : ℕ → A) → sum R n (λ i. t i * y i) ≡ q h * sum R n (λ i. q₁ i * y i) + (- q₁ h) * sum R n (λ i. q i * y i)
    unfolding t
    row y =
        sum_ext R n (λ i. t i * y i) (λ i. q h * (q₁ i * y i) + (- q₁ h) * (q i * y i))
        (λ i l. identity R (q h ∷ q₁ h ∷ q i ∷ q₁ i ∷ y i ∷ []) (λ ρ q1 q2 q3 q4 q5. search quotes depth 16) refl)
        ∙ sum_add R n (λ i. q h * (q₁ i * y i)) (λ i. (- q₁ h) * (q i * y i))
        ∙ ap₂ ◌+◌ (sum_mul R n (q h) (λ i. q₁ i * y i)) (sum_mul R n (- q₁ h) (λ i. q i * y i))

    zeros : (i : ℕ) → q i ≡ 𝟘 → q₁ i ≡ 𝟘 → t i ≡ 𝟘
    unfolding t
    zeros i e f = ap₂ (λ a c. q h * c + (- q₁ h) * a) e f ∙ identity R (q h ∷ q₁ h ∷ []) (λ ρ q1 q2. search quotes depth 16) refl

    killed : {q : ℕ → A} (K : Killing q) {i : ℕ} (X : PivotOf i) → sum R n (λ k. q k * X.vector k) ≡ 𝟘
    killed {q} K X =
        sum_ext R n (λ k. q k * X.vector k) (λ k. q k * sum R m (λ j. M k j * X.parts j))
        (λ k l. ap (λ y. q k * y) (X.equal k l))
        ∙ sum_assoc R n m q M X.parts
        ∙ sum_none R m (λ j. sum R n (λ k. q k * M k j) * X.parts j)
        (λ j l. ap (λ y. y * X.parts j) (K.kills j l) ∙ zero_mul R (X.parts j))

    proportional : Vanishes R n t
    proportional = go (find_last S n t)
      where
        go : Last S n t ⊎ Vanishes R n t → Vanishes R n t
        go (inr z) = z
        go (inl y) = absurd (cases (zero_decided S (q y.at)) (zero_decided S (q₁ y.at)))
          where
            other : ¬ (y.at ≡ h)
            other e = positive_nonzero S (t y.at) y.positive (ap t e ∙ at_h)

            against : PivotOf y.at → ⊥
            against X = omega (
              arith,
              row_size S n t X.vector y.at X.length X.pivot y.positive y.upto y.later,
              X.pivot.positive,
              y.positive,
              size_of_zero S _ (row X.vector ∙ ap₂ (λ a c. q h * a + (- q₁ h) * c) (killed K₁ X) (killed K X)
                  ∙ identity R (q h ∷ q₁ h ∷ []) (λ ρ q1 q2. search quotes depth 16) refl),
            )

            cases : Dec (q y.at ≡ 𝟘) → Dec (q₁ y.at ≡ 𝟘) → ⊥
            cases (no e) f = against (K.support y.at y.inside other e)
            cases (yes e) (no f) = against (K₁.support y.at y.inside (λ r. other (r ∙ sym killing_at)) f)
            cases (yes e) (yes f) = positive_nonzero S (t y.at) y.positive (zeros y.at e f)

    pub killing_proportional : (i : ℕ) → i < n → q₁ K.at * q i ≡ q₁ i * q K.at
    unfolding t
    killing_proportional i l = combination R (q₁ h * q i) (q₁ i * q h) (given (- 𝟙) (proportional i l) ∷ [])
        (identity R (q h ∷ q₁ h ∷ q i ∷ q₁ i ∷ []) (λ ρ q1 q2 q3 q4. search quotes depth 16) refl)

    pub killing_divides : Divides R (q K.at) (q₁ K.at)
    killing_divides = K.lowest (q₁ h) q₁ killing_proportional

  -- where the entries at h are monic: those are the same, and then all others
  pub killing_unique : {q q₁ : ℕ → A} (K : Killing q) (K₁ : Killing q₁)
      → (Divides R (q K.at) (q₁ K.at) → Divides R (q₁ K₁.at) (q K₁.at) → q K.at ≡ q₁ K.at) → (i : ℕ) → i < n
      → q i ≡ q₁ i
  killing_unique {q} {q₁} K K₁ monic i l = mul_cancel S (q K.at) (q i) (q₁ i) K.nonzero
      (ap (λ y. y * q i) same ∙ killing_proportional K K₁ i l ∙ R.mul_comm (q₁ i) (q K.at))
    where
      same : q K.at ≡ q₁ K.at
      same = monic (killing_divides K K₁) (killing_divides K₁ K)
