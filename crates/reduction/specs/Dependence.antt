-- When a column depends on those before it, in the terms of the link that it makes: just where the link has a kernel; and the
-- kernel then takes the whole span after it back into the span before.
use Rattle.std.specs.Prelude.{ℕ, zero, suc, ◌<◌, ◌≤◌, ◌≡◌, refl, ◌⊎◌, [], ◌∷◌}
use Rattle.std.proofs.Common.{sym, ◌∙◌, ap₂, subst, inl, inr, arith}
use Rattle.std.proofs.Math.Decide.{ℕ_discrete}
use Rattle.ring.specs.Ring.{Ring}
use Rattle.ring.specs.Identity.{quotes, identity}
use Rattle.algebra.specs.Sized.{Sized, positive_nonzero}
use Rattle.algebra.specs.Divides.{Divides, zero_divides}
use Rattle.reduction.specs.Replace.{extend, extend_below, extend_at, below_suc}
use Rattle.reduction.specs.Slots.{Slots}
use Rattle.reduction.specs.Span.{combined, InSpan, InSpanWith, span_zero, span_ext, span_combine}
use Rattle.reduction.specs.Link.{Link, Grows, Kernel}

-- a multiple of a, not by zero, is in the span of U
pub record Dependent {A : Type 0} (R : Ring A) (n : ℕ) (U : Slots A) (a : ℕ → A) : Type 0 where
  pub multiple : A
  pub nonzero : ¬ (multiple ≡ R.zero)
  pub span : InSpan R n n U (λ k. R.mul multiple (a k))

module _ {A : Type 0} {R : Ring A} {S : Sized R} {n δ : ℕ} {a : ℕ → A} {U U' : Slots A} {κ : A} (K : Link S n δ a U U' κ) where
  open R use {add as ◌+◌, mul as ◌*◌, neg as -◌, zero as 𝟘, one as 𝟙}

  infixl 65 ◌+◌
  infixl 65 ◌-◌
  infixl 70 ◌*◌
  infix 75 -◌
  abbrev ◌-◌ : A → A → A
  a - b = a + (- b)

  -- κ·a is in the span before; κ is zero where the link has no kernel
  pub link_multiple : InSpan R n n U (λ k. κ * a k)
  link_multiple = span_ext R (K.down (λ k. 𝟘) (span_zero R U' (λ k. 𝟘) (λ k h. refl)) 𝟙) (λ k. κ * a k)
      (λ k h. identity R (κ ∷ a k ∷ []) (λ ρ qκ qa. search quotes depth 16) refl)

  -- a column that depends on those before has a kernel, and only such a column
  pub dependent_kernel : Dependent R n U a → Kernel S n U U' κ
  dependent_kernel D = go K.kind
    where
      go : Grows S n δ U U' κ ⊎ Kernel S n U U' κ → Kernel S n U U' κ
      go (inr k) = k
      go (inl g) = absurd (D.nonzero (zero_divides
          (subst (λ x. Divides R x D.multiple) g.none (K.least D.multiple D.span))))

  pub kernel_dependent : Kernel S n U U' κ → Dependent R n U a
  kernel_dependent k = record { multiple = κ; nonzero = positive_nonzero S κ k.positive; span = link_multiple }

  -- what is in the span after is, less a multiple of the column, in the span before
  pub link_lower : (x : ℕ → A) → InSpan R n n U' x → InSpanWith R n n U a x
  link_lower x s = record {
    multiple = τ;
    rest = span_ext R (K.down y with_tail 𝟘) (λ k. x k - τ * a k) (λ k h.
        sym (ap₂ (λ u v. u - (v - 𝟘 * κ) * a k) (extend_below n x τ k h) (extend_at n x τ)
        ∙ identity R (x k ∷ τ ∷ κ ∷ a k ∷ []) (λ ρ qx qτ qκ qa. search quotes depth 16) refl));
  }
    where
      τ : A
      τ = combined R n s.coefficient U' n

      y : ℕ → A
      y = extend n x τ

      with_tail : InSpan R n (suc n) U' y
      with_tail = record {
        coefficient = s.coefficient;
        empty = s.empty;
        equal = below_suc n (λ k. y k ≡ combined R n s.coefficient U' k)
            (λ k h. extend_below n x τ k h ∙ s.equal k h) (extend_at n x τ);
      }

  -- and κ times it too: κ·x = κ·(x - τ·a) + τ·(κ·a)
  pub link_times : (x : ℕ → A) → InSpan R n n U' x → InSpan R n n U (λ k. κ * x k)
  link_times x s =
      let w = link_lower x s in
      span_combine R κ w.multiple w.rest link_multiple (λ k. κ * x k)
      (λ k h. identity R (κ ∷ x k ∷ w.multiple ∷ a k ∷ []) (λ ρ qκ qx qτ qa. search quotes depth 16) refl)

-- the spans along a chain of links only grow
module _ {A : Type 0} {R : Ring A} {S : Sized R} {n δ : ℕ} (c : ℕ) (U : ℕ → Slots A) (a : ℕ → ℕ → A) (κ : ℕ → A)
    (links : (k : ℕ) → k < c → Link S n δ (a k) (U k) (U (suc k)) (κ k)) where
  pub links_up : (k : ℕ) → k ≤ c → (j : ℕ) → j ≤ k → (x : ℕ → A) → InSpan R n n (U j) x → InSpan R n n (U k) x
  links_up zero l j h x s = subst (λ i. InSpan R n n (U i) x) (omega arith) s
  links_up (suc k) l j h x s = go (λ g. links_up k (omega arith) j g x s) (ℕ_discrete j (suc k))
    where
      go : (j ≤ k → InSpan R n n (U k) x) → Dec (j ≡ suc k) → InSpan R n n (U (suc k)) x
      go rec (yes e) = subst (λ i. InSpan R n n (U i) x) e s
      go rec (no e) = (links k l).up x (rec (omega arith))
