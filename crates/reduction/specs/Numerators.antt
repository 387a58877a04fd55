-- Which numerators: of all N with A·N = f, those in which each N j is shorter than every relation of the columns up to j leaves at
-- j.
use Rattle.std.specs.Prelude.{ℕ, zero, suc, ◌<◌, ◌≤◌, ◌+◌ as ◌+ₙ◌, ◌≡◌, refl, [], ◌∷◌}
use Rattle.std.proofs.Common.{sym, ◌∙◌, subst, arith}
use Rattle.std.proofs.Math.Path.{ap, ap₂}
use Rattle.std.proofs.Math.Decide.{ℕ_discrete}
use Rattle.ring.specs.Ring.{Ring}
use Rattle.ring.specs.Sum.{sum, sum_ext, sum_add, sum_neg}
use Rattle.ring.specs.Identity.{quotes, identity}
use Rattle.ring.specs.Combination.{given, combination}
use Rattle.algebra.specs.Sized.{Sized, zero_decided, size_sub_less}

module _ {A : Type 0} {R : Ring A} (S : Sized R) (n m : ℕ) (M : ℕ → ℕ → A) where
  open R use {add as ◌+◌, mul as ◌*◌, neg as -◌, zero as 𝟘, one as 𝟙}
  open S use {size}

  infixl 65 ◌+◌
  infixl 65 ◌-◌
  infixl 70 ◌*◌
  infix 75 -◌
  abbrev ◌-◌ : A → A → A
  a - b = a + (- b)

  -- v·(columns) = 0, and no column after j has a part
  pub record Relation (j : ℕ) (v : ℕ → A) : Type 0 where
    pub kills : (i : ℕ) → i < n → sum R m (λ k. M i k * v k) ≡ 𝟘
    pub last : (k : ℕ) → j < k → k < m → v k ≡ 𝟘

  -- N j is reduced modulo the ideal of what relations leave at j
  abbrev pub ReducedNumerators : (ℕ → A) → Type 0
  ReducedNumerators N = (j : ℕ) → j < m → (v : ℕ → A) → Relation j v → ¬ (v j ≡ 𝟘) → size (N j) < size (v j)

  module _ (N N' : ℕ → A) (same : (i : ℕ) → i < n → sum R m (λ k. M i k * N k) ≡ sum R m (λ k. M i k * N' k))
      (reduced : ReducedNumerators N) (reduced' : ReducedNumerators N') where
    v : ℕ → A
    v k = N k - N' k

    killed : (i : ℕ) → i < n → sum R m (λ k. M i k * v k) ≡ 𝟘
    unfolding v
    killed i h =
        sum_ext R m (λ k. M i k * (N k - N' k)) (λ k. M i k * N k + (- (M i k * N' k)))
        (λ k l. identity R (M i k ∷ N k ∷ N' k ∷ []) (λ ρ qm qn qo. search quotes depth 16) refl)
        ∙ sum_add R m (λ k. M i k * N k) (λ k. - (M i k * N' k))
        ∙ ap₂ ◌+◌ (same i h) (sum_neg R m (λ k. M i k * N' k))
        ∙ R.add_neg (sum R m (λ k. M i k * N' k))

    here : (j : ℕ) → j < m → ((k : ℕ) → j < k → k < m → N k ≡ N' k) → N j ≡ N' j
    unfolding v
    here j h later = go (zero_decided S (v j))
      where
        relation : Relation j v
        relation = record {
          kills = killed;
          last = λ k g l. ap (λ x. x - N' k) (later k g l) ∙ R.add_neg (N' k);
        }

        go : Dec (v j ≡ 𝟘) → N j ≡ N' j
        go (yes z) = combination R (N j) (N' j) (given 𝟙 z ∷ [])
            (identity R (N j ∷ N' j ∷ []) (λ ρ qn qo. search quotes depth 16) refl)
        go (no z) = absurd (omega (
          arith,
          size_sub_less S (size (v j)) (N j) (N' j) (reduced j h v relation z)
              (reduced' j h v relation z),
        ))

    from : (i j : ℕ) → j +ₙ i ≡ m → (k : ℕ) → j ≤ k → k < m → N k ≡ N' k
    from zero j e k h l = absurd (omega arith)
    from (suc i) j e k h l = go (λ k' g l'. from i (suc j) (omega arith) k' g l') (ℕ_discrete k j)
      where
        go : ((k' : ℕ) → suc j ≤ k' → k' < m → N k' ≡ N' k') → Dec (k ≡ j) → N k ≡ N' k
        go later (yes r) = subst (λ x. N x ≡ N' x) (sym r) (here j (omega arith) (λ k' g l'. later k' (omega arith) l'))
        go later (no r) = later k (omega arith) l

    -- there is only one such N
    pub numerators_unique : (j : ℕ) → j < m → N j ≡ N' j
    numerators_unique j h = from m 0 (omega arith) j (omega arith) h
