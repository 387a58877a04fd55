-- L6, one column of the way down: t is in the span of U', y₀ is the combination of tails, y = y₀ or y₀ modulo the kernel. Then
-- t - y·a is in the span of U, and the bound of degrees grows with the rank alone.
use Rattle.std.specs.Prelude.{ℕ, suc, ◌<◌, ◌≤◌, ◌+◌ as ◌+ₙ◌, ◌*◌ as ◌*ₙ◌, ◌-◌ as ◌-ₙ◌, ◌≡◌, refl, ◌⊎◌, [], ◌∷◌}
use Rattle.std.proofs.Common.{sym, ◌∙◌, ap, ap₂, subst, inl, inr, arith}
use Rattle.std.proofs.Math.Decide.{ℕ_discrete}
use Rattle.ring.specs.Ring.{Ring, mul_zero, zero_mul}
use Rattle.ring.specs.Identity.{quotes, identity}
use Rattle.algebra.specs.Sized.{Sized, size_of_zero, size_mul_le, size_sum}
use Rattle.reduction.specs.Total.{rank, degrees}
use Rattle.reduction.specs.Replace.{extend, extend_below, extend_at}
use Rattle.reduction.specs.Slots.{Slots}
use Rattle.reduction.specs.Span.{InSpan, span_ext}
use Rattle.reduction.specs.Independence.{coefficient_size}
use Rattle.reduction.specs.Link.{Link, Grows, Kernel}

module _ {A : Type 0} {R : Ring A} (S : Sized R) (n δ : ℕ) where
  open R use {add as ◌+◌, mul as ◌*◌, neg as -◌}
  open S use {size, size_none, size_mul, size_add, size_neg}

  infixl 65 ◌+◌
  infixl 65 ◌-◌
  infixl 70 ◌*◌
  infix 75 -◌
  abbrev ◌-◌ : A → A → A
  a - b = a + (- b)

  -- the bound of a vector that is to be lowered from the slots U with the surplus x
  abbrev pub Bounded : Slots A → ℕ → (ℕ → A) → Type 0
  Bounded U x t = (i : ℕ) → i < n → size (t i) ≤ suc (δ +ₙ (degrees n U.size +ₙ x))

  -- the rest t and the coordinate y; the surplus and the rank times δ make up for each other
  pub record Lowered (x : ℕ) (U U' : Slots A) (t : ℕ → A) (y : A) : Type 0 where
    pub span : InSpan R n n U t
    pub surplus : ℕ
    pub surplus_equal : surplus +ₙ rank n U.size *ₙ δ ≡ x +ₙ rank n U'.size *ₙ δ
    pub small : size y ≤ suc (degrees n U.size +ₙ surplus)
    pub rest_small : Bounded U surplus t

  module _ {a : ℕ → A} {U U' : Slots A} {kernel : A} (K : Link S n δ a U U' kernel)
      (a_small : (i : ℕ) → i < n → size (a i) ≤ suc δ) (x : ℕ) (t : ℕ → A) (t_small : Bounded U' x t)
      (y₀ : A) (s : InSpan R n (suc n) U' (extend n t y₀)) where
    -- a combination of tails, where the column has a slot of its own
    combination_small : Grows S n δ U U' kernel → size y₀ ≤ suc (degrees n U.size +ₙ (x +ₙ δ))
    combination_small k = subst (λ v. size v ≤ most) (sym (s.equal n (omega arith)) ∙ extend_at n t y₀)
        (size_sum S most n (λ q. c q * U'.at q n)
        (λ q h. term q h (ℕ_discrete (size (c q)) 0) (ℕ_discrete (size (U'.at q n)) 0) (ℕ_discrete (U'.size q) 0)))
      where
        c : ℕ → A
        c = s.coefficient

        most : ℕ
        most = suc (degrees n U.size +ₙ (x +ₙ δ))

        block : (i : ℕ) → i < n → size (extend n t y₀ i) ≤ suc (δ +ₙ (degrees n U'.size +ₙ x)) -ₙ 0
        block i h = omega (arith, ap size (extend_below n t y₀ i h), t_small i h)

        nothing : (q : ℕ) → c q * U'.at q n ≡ R.zero → size (c q * U'.at q n) ≤ most
        nothing q e = omega (arith, size_of_zero S (c q * U'.at q n) e)

        term : (q : ℕ) → q < n → Dec (size (c q) ≡ 0) → Dec (size (U'.at q n) ≡ 0) → Dec (U'.size q ≡ 0)
            → size (c q * U'.at q n) ≤ most
        term q h (yes e) f g = nothing q (ap (λ v. v * U'.at q n) (size_none (c q) e) ∙ zero_mul R (U'.at q n))
        term q h (no e) (yes f) g = nothing q (ap (λ v. c q * v) (size_none (U'.at q n) f) ∙ mul_zero R (c q))
        term q h (no e) (no f) (yes g) = absurd (e (size_of_zero S (c q) (s.empty q h g)))
        term q h (no e) (no f) (no g) = omega (
          arith,
          size_mul (c q) (U'.at q n) (omega arith) (omega arith),
          k.tails q h (omega arith) (omega arith),
          coefficient_size K.filled (omega arith) s (suc (δ +ₙ (degrees n U'.size +ₙ x))) block q h (omega arith),
        )

    -- L6, one column
    pub lowered : (κ y : A) → y ≡ y₀ - κ * kernel → (0 < size kernel → size y < size kernel)
        → (t' : ℕ → A) → ((i : ℕ) → i < n → t' i ≡ t i - y * a i) → Lowered x U U' t' y
    lowered κ y ey reduced t' et' = go K.kind
      where
        span : InSpan R n n U t'
        span = span_ext R (K.down (extend n t y₀) s κ) t' (λ i h. et' i h ∙ ap₂ (λ v z. v - z * a i)
            (sym (extend_below n t y₀ i h)) (ey ∙ ap (λ v. v - κ * kernel) (sym (extend_at n t y₀))))

        rest : (x' : ℕ) → size y ≤ suc (degrees n U.size +ₙ x') → degrees n U'.size +ₙ x ≤ degrees n U.size +ₙ x'
            → Bounded U x' t'
        rest x' hy le i h = subst (λ v. size v ≤ most) (sym (et' i h)) (size_add most (t i) (- (y * a i))
            (omega (arith, t_small i h)) (size_neg most (y * a i) (omega (arith, product))))
          where
            most : ℕ
            most = suc (δ +ₙ (degrees n U.size +ₙ x'))

            product : size (y * a i) ≤ (suc (degrees n U.size +ₙ x') +ₙ suc δ) -ₙ 1
            product = size_mul_le S y (a i) (suc (degrees n U.size +ₙ x')) (suc δ) hy (a_small i h)

        go : Grows S n δ U U' kernel ⊎ Kernel S n U U' kernel → Lowered x U U' t' y
        go (inr k) = record {
          span = span;
          surplus = x;
          surplus_equal = ap (λ v. x +ₙ v *ₙ δ) (sym k.no_more);
          small = small;
          rest_small = rest x small (omega arith);
        }
          where
            small : size y ≤ suc (degrees n U.size +ₙ x)
            small = omega (arith, reduced k.positive)
        go (inl k) = record {
          span = span;
          surplus = x +ₙ δ;
          surplus_equal = omega (arith, ap (λ v. v *ₙ δ) k.one_more);
          small = small;
          rest_small = rest (x +ₙ δ) small (omega arith);
        }
          where
            same : y ≡ y₀
            same = ey ∙ ap (λ v. y₀ - κ * v) k.none ∙ identity R (y₀ ∷ κ ∷ []) (λ ρ qy qκ. search quotes depth 16) refl

            small : size y ≤ suc (degrees n U.size +ₙ (x +ₙ δ))
            small = omega (arith, ap size same, combination_small k)
