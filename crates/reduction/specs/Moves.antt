-- L2, spans: taking a multiple of a slot off the hand, and exchanging the hand with a slot, keep the span of slots and hand. They
-- also keep the hand fresh: no multiple of it but zero is in the span of the slots.
use Rattle.std.specs.Prelude.{ℕ, suc, ◌<◌, ◌≡◌, refl, [], ◌∷◌}
use Rattle.std.proofs.Common.{sym, ◌∙◌, ap, ap₂, arith}
use Rattle.ring.specs.Ring.{Ring, zero_mul}
use Rattle.ring.specs.Identity.{quotes, identity}
use Rattle.ring.specs.Combination.{given, combination}
use Rattle.algebra.specs.Sized.{Sized}
use Rattle.reduction.specs.Slots.{Slots, Same, same_sym, SameBut, same_but_sym, Filled}
use Rattle.reduction.specs.Span.{InSpan, InSpanWith, span_combine, span_ext, span_slot, span_same}
use Rattle.reduction.specs.Span.{span_change, span_change_here}
use Rattle.reduction.specs.Independence.{span_independent}

-- the hand h goes into a filled slot of U, which gives U', and what was there is the hand h'
pub record Swap {A : Type 0} (n : ℕ) (U : Slots A) (h : ℕ → A) (U' : Slots A) (h' : ℕ → A) : Type 0 where
  pub at : ℕ
  pub filled : 0 < U.size at
  pub filled' : 0 < U'.size at
  pub others : SameBut n at U U'
  pub put : (k : ℕ) → k < suc n → U'.at at k ≡ h k
  pub hand : (k : ℕ) → k < suc n → h' k ≡ U.at at k

pub swap_sym : {A : Type 0} {n : ℕ} {U U' : Slots A} {h h' : ℕ → A} → Swap n U h U' h' → Swap n U' h' U h
swap_sym m = record {
  at = m.at;
  filled = m.filled';
  filled' = m.filled;
  others = same_but_sym m.others;
  put = λ k l. sym (m.hand k l);
  hand = λ k l. sym (m.put k l);
}

module _ {A : Type 0} (R : Ring A) where
  open R use {add as ◌+◌, mul as ◌*◌, neg as -◌, zero as 𝟘, one as 𝟙}

  infixl 65 ◌+◌
  infixl 65 ◌-◌
  infixl 70 ◌*◌
  infix 75 -◌
  abbrev ◌-◌ : A → A → A
  a - b = a + (- b)

  -- h' = h - a·(a filled slot), block and tail
  pub record Taken (n : ℕ) (U : Slots A) (h h' : ℕ → A) : Type 0 where
    pub at : ℕ
    pub inside : at < n
    pub filled : 0 < U.size at
    pub factor : A
    pub equal : (k : ℕ) → k < suc n → h' k ≡ h k - factor * U.at at k

  pub taken_sym : {n : ℕ} {U : Slots A} {h h' : ℕ → A} → Taken n U h h' → Taken n U h' h
  taken_sym {n} {U} {h} {h'} m = record {
    at = m.at;
    inside = m.inside;
    filled = m.filled;
    factor = - m.factor;
    equal = λ k l. combination R (h k) (h' k - (- m.factor) * U.at m.at k) (given (- 𝟙) (m.equal k l) ∷ [])
        (identity R (h k ∷ h' k ∷ m.factor ∷ U.at m.at k ∷ []) (λ ρ qh qh' qa qp. search quotes depth 16) refl);
  }

  abbrev pub Fresh : (n : ℕ) → Slots A → (ℕ → A) → Type 0
  Fresh n U h = (a : A) → InSpan R n (suc n) U (λ k. a * h k) → a ≡ 𝟘

  module _ {n : ℕ} where
    -- the same slots and hand, as far as anything looks at them
    module _ {U U' : Slots A} {h h' : ℕ → A} (e : Same n U U') (e' : (k : ℕ) → k < suc n → h k ≡ h' k) where
      pub with_same : (u : ℕ → A) → InSpanWith R n (suc n) U h u → InSpanWith R n (suc n) U' h' u
      with_same u s = record {
        multiple = s.multiple;
        rest = span_same R (omega arith) e
            (span_ext R s.rest (λ k. u k - s.multiple * h' k) (λ k g. ap (λ x. u k - s.multiple * x) (sym (e' k g))));
      }

      pub fresh_same : Fresh n U h → Fresh n U' h'
      fresh_same fresh a s = fresh a (span_same R (omega arith) (same_sym e)
          (span_ext R s (λ k. a * h k) (λ k g. ap (λ x. a * x) (e' k g))))

    module _ {U : Slots A} {h h' : ℕ → A} (m : Taken n U h h') where
      abbrev p : ℕ
      p = m.at

      slot : InSpan R n (suc n) U (U.at p)
      slot = span_slot R U p m.inside m.filled

      -- L2, a step: u - b·h' = (u - b·h) + b·a·(slot)
      pub with_taken : (u : ℕ → A) → InSpanWith R n (suc n) U h u → InSpanWith R n (suc n) U h' u
      with_taken u s = record { multiple = b; rest = span_combine R 𝟙 (b * m.factor) s.rest slot (λ k. u k - b * h' k) equal }
        where
          b : A
          b = s.multiple

          equal : (k : ℕ) → k < suc n → u k - b * h' k ≡ 𝟙 * (u k - b * h k) + b * m.factor * U.at p k
          equal k l = ap (λ x. u k - b * x) (m.equal k l)
              ∙ identity R (u k ∷ b ∷ h k ∷ m.factor ∷ U.at p k ∷ []) (λ ρ qu qb qh qa qp. search quotes depth 16) refl

      pub fresh_taken : Fresh n U h → Fresh n U h'
      fresh_taken fresh b s = fresh b (span_combine R 𝟙 (b * m.factor) s slot (λ k. b * h k) equal)
        where
          equal : (k : ℕ) → k < suc n → b * h k ≡ 𝟙 * (b * h' k) + b * m.factor * U.at p k
          equal k l = sym (ap (λ x. 𝟙 * (b * x) + b * m.factor * U.at p k) (m.equal k l)
              ∙ identity R (b ∷ h k ∷ m.factor ∷ U.at p k ∷ []) (λ ρ qb qh qa qp. search quotes depth 16) refl)

    module _ {U U' : Slots A} {h h' : ℕ → A} (m : Swap n U h U' h') where
      abbrev r : ℕ
      r = m.at

      -- L2, an exchange
      pub with_swap : (u : ℕ → A) → InSpanWith R n (suc n) U h u → InSpanWith R n (suc n) U' h' u
      with_swap u s = record {
        multiple = c;
        rest = span_change R (omega arith) m.others s.rest b (λ z. absurd (omega (arith, m.filled')))
            (λ k. u k - c * h' k) equal;
      }
        where
          b : A
          b = s.multiple

          c : A
          c = s.rest.coefficient r

          equal : (k : ℕ) → k < suc n → u k - c * h' k ≡ u k - b * h k - c * U.at r k + b * U'.at r k
          equal k g =
              ap (λ x. u k - c * x) (m.hand k g)
              ∙ identity R (u k ∷ c ∷ U.at r k ∷ b ∷ h k ∷ []) (λ ρ qu qc qp qb qh. search quotes depth 16) refl
              ∙ ap (λ x. u k - b * h k - c * U.at r k + b * x) (sym (m.put k g))

      -- a·h' = Σ c·U': then -c·h = Σ (c, -a in the place)·U, so that c is zero there, and then -a by independence
      pub fresh_swap : {S : Sized R} {ω : ℕ → ℕ} → Filled S n ω U → Fresh n U h → Fresh n U' h'
      fresh_swap full fresh a s = combination R a 𝟘
          (given (- 𝟙) (sym here ∙ span_independent full (omega arith) t zero r m.others.inside) ∷ [])
          (identity R (a ∷ []) (λ ρ qa. search quotes depth 16) refl)
        where
          c : A
          c = s.coefficient r

          x : ℕ → A
          x k = (- c) * h k

          equal : (k : ℕ) → k < suc n → x k ≡ a * h' k - c * U'.at r k + (- a) * U.at r k
          equal k g = sym (ap₂ (λ y z. a * y - c * z + (- a) * U.at r k) (m.hand k g) (m.put k g)
              ∙ identity R (a ∷ c ∷ U.at r k ∷ h k ∷ []) (λ ρ qa qc qp qh. search quotes depth 16) refl)

          none : U.size r ≡ 0 → - a ≡ 𝟘
          none z = absurd (omega (arith, m.filled))

          t : InSpan R n (suc n) U x
          t = span_change R (omega arith) (same_but_sym m.others) s (- a) none x equal

          here : t.coefficient r ≡ - a
          here = span_change_here R (omega arith) (same_but_sym m.others) s (- a) none x equal

          zero : (k : ℕ) → k < n → x k ≡ 𝟘
          zero k g = ap (λ y. y * h k) (fresh (- c) t) ∙ zero_mul R (h k)
