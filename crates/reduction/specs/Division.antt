-- divide of mathematics.md as a trace: multiples of slots are taken off a vector, block and tail, and the slots stay. By L3 it
-- can go on until the block is zero where the vector is in the span, and so it ends there.
use Prim.Native.Nat.{ℕ, zero, suc, ◌<◌, ◌≤◌}
use Rattle.std.specs.Prelude.{◌≡◌, ◌⊎◌, [], ◌∷◌}
use Rattle.std.proofs.Math.Path.{refl, sym, ap}
use Rattle.std.proofs.Common.{◌∙◌, ap₂, inl, inr, arith}
use Rattle.ring.specs.Ring.{Ring, zero_mul}
use Rattle.ring.specs.Sum.{sum_none, sum_change}
use Rattle.ring.specs.Identity.{quotes, identity}
use Rattle.ring.specs.Combination.{given, combination}
use Rattle.algebra.specs.Sized.{Sized}
use Rattle.reduction.specs.Replace.{replace, replace_here, replace_other, extend, extend_below, extend_at, below_suc}
use Rattle.reduction.specs.Pivot.{Vanishes, Pivot, Low, low_pivot, HasPivot, find_pivot}
use Rattle.reduction.specs.Step.{place, place_before, step_low}
use Rattle.reduction.specs.Slots.{Slots, Filled}
use Rattle.reduction.specs.Span.{combined, InSpan, span_combine, span_fewer}
use Rattle.reduction.specs.Independence.{span_pivot}
use Rattle.reduction.specs.Euclidean.{Euclidean, Cancelling}
use Rattle.reduction.specs.Moves.{Taken}

module _ {A : Type 0} (R : Ring A) (n : ℕ) (U : Slots A) where
  open R use {add as ◌+◌, mul as ◌*◌, neg as -◌, zero as 𝟘, one as 𝟙}

  infixl 65 ◌+◌
  infixl 65 ◌-◌
  infixl 70 ◌*◌
  infix 75 -◌
  abbrev ◌-◌ : A → A → A
  a - b = a + (- b)

  pub data DivisionTrace (f : ℕ → A) : (ℕ → A) → Type 0 where
    start : {g : ℕ → A} → ((k : ℕ) → k < suc n → g k ≡ f k) → DivisionTrace f g
    step : {g h : ℕ → A} → DivisionTrace f g → Taken R n U g h → DivisionTrace f h

  -- what has been taken off of each slot
  unfoldable pub slot_quotient : {f g : ℕ → A} → DivisionTrace f g → ℕ → A
  slot_quotient (start e) = λ q. 𝟘
  slot_quotient (step r m) = replace (slot_quotient r) m.at (slot_quotient r m.at + m.factor)

  pub quotient_empty : {f g : ℕ → A} (r : DivisionTrace f g) (q : ℕ) → q < n → U.size q ≡ 0 → slot_quotient r q ≡ 𝟘
  unfolding slot_quotient
  quotient_empty (start e) q h z = refl
  quotient_empty (step r m) q h z =
      replace_other (slot_quotient r) m.at (slot_quotient r m.at + m.factor) q
      (λ x. absurd (omega (arith, ap U.size x, m.filled)))
      ∙ quotient_empty r q h z

  -- f is g and the quotients times the slots, tails included
  pub division_equal : {f g : ℕ → A} (r : DivisionTrace f g) (k : ℕ) → k < suc n → f k ≡ g k + combined R n (slot_quotient r) U k
  unfolding slot_quotient
  division_equal {f} {g} (start e) k h = sym (ap₂ ◌+◌ (e k h)
      (sum_none R n (λ q. 𝟘 * U.at q k) (λ q l. zero_mul R (U.at q k))) ∙ R.add_zero (f k))
  division_equal {f} (step {g} {h} r m) k l = combination R (f k) (h k + combined R n c' U k)
      (given 𝟙 (division_equal r k l) ∷ given (- 𝟙) (m.equal k l) ∷ given (- 𝟙) changed ∷ [])
      (identity R (f k ∷ g k ∷ h k ∷ a ∷ c p ∷ U.at p k ∷ combined R n c U k ∷ combined R n c' U k ∷ [])
      (λ ρ qf qg qh qa qc qu qs qs'. search quotes depth 20) refl)
    where
      p : ℕ
      p = m.at

      a : A
      a = m.factor

      c : ℕ → A
      c = slot_quotient r

      c' : ℕ → A
      c' = replace c p (c p + a)

      changed : combined R n c' U k + c p * U.at p k ≡ combined R n c U k + (c p + a) * U.at p k
      changed =
          sum_change R n p (λ q. c' q * U.at q k) (λ q. c q * U.at q k) m.inside
          (λ q x ne. ap (λ y. y * U.at q k) (replace_other c p (c p + a) q ne))
          ∙ ap (λ y. combined R n c U k + y * U.at p k) (replace_here c p (c p + a))

  -- so what is taken off is in the span, with the quotients for coefficients
  pub division_span : {f g : ℕ → A} → DivisionTrace f g → (x : ℕ → A) → ((k : ℕ) → k < suc n → x k ≡ f k - g k)
      → InSpan R n (suc n) U x
  division_span {f} {g} r x e = record {
    coefficient = slot_quotient r;
    empty = quotient_empty r;
    equal = λ k h. combination R (x k) (combined R n (slot_quotient r) U k) (given 𝟙 (e k h) ∷ given 𝟙 (division_equal r k h) ∷ [])
        (identity R (x k ∷ f k ∷ g k ∷ combined R n (slot_quotient r) U k ∷ []) (λ ρ qx qf qg qs. search quotes depth 16) refl);
  }

  -- the rest of a vector of the span is in the span
  pub division_rest : {f g : ℕ → A} → DivisionTrace f g → InSpan R n n U f → InSpan R n n U g
  division_rest {f} {g} r s =
      span_combine R 𝟙 (- 𝟙) s (span_fewer R (omega arith) (division_span r (λ k. f k - g k) (λ k h. refl))) g
      (λ k h. identity R (f k ∷ g k ∷ []) (λ ρ qf qg. search quotes depth 16) refl)

  -- at the end, with block zero: the quotients are coefficients of f
  pub division_quotients : {f g : ℕ → A} (r : DivisionTrace f g) → Vanishes R n g
      → (k : ℕ) → k < n → f k ≡ combined R n (slot_quotient r) U k
  division_quotients {f} {g} r z k h =
      division_equal r k (omega arith)
      ∙ ap (λ x. x + combined R n (slot_quotient r) U k) (z k h)
      ∙ identity R (combined R n (slot_quotient r) U k ∷ []) (λ ρ qs. search quotes depth 16) refl

  -- and from (t | 0) the tail ends as minus the combination of the tails
  pub division_tail : {f g : ℕ → A} → DivisionTrace f g → (t : ℕ → A) → ((k : ℕ) → k < n → f k ≡ t k) → f n ≡ 𝟘 → Vanishes R n g
      → InSpan R n (suc n) U (extend n t (- g n))
  division_tail {f} {g} r t e e' z = division_span r (extend n t (- g n)) (below_suc n (λ k. extend n t (- g n) k ≡ f k - g k)
      (λ k h. extend_below n t (- g n) k h
      ∙ sym (ap₂ ◌-◌ (e k h) (z k h) ∙ identity R (t k ∷ []) (λ ρ qt. search quotes depth 16) refl))
      (extend_at n t (- g n) ∙ sym (ap (λ x. x - g n) e' ∙ identity R (g n ∷ []) (λ ρ qg. search quotes depth 16) refl)))

  -- a division that has come to its end
  pub record Divided (f : ℕ → A) : Type 0 where
    pub rest : ℕ → A
    pub trace : DivisionTrace f rest
    pub ends : Vanishes R n rest

  module _ {S : Sized R} {ω : ℕ → ℕ} (full : Filled S n ω U) where
    -- no test is needed: the slot at the pivot is filled and no longer
    pub division_on : {f g : ℕ → A} {p d : ℕ} → DivisionTrace f g → InSpan R n n U f → Pivot S n ω g p d
        → (0 < U.size p) × (U.size p ≤ d)
    division_on r s P = span_pivot full (omega arith) (division_rest r s) P

    -- divide as a function
    module _ (E : Euclidean S) (f : ℕ → A) (s : InSpan R n n U f) where
      run : (fuel : ℕ) (g : ℕ → A) → DivisionTrace f g → (p d : ℕ) → Pivot S n ω g p d → place n p d < fuel → Divided f
      run zero g r p d P m = absurd (omega arith)
      run (suc fuel) g r p d P m = next (λ h. run fuel h) (find_pivot S ω n h)
        where
          on : (0 < U.size p) × (U.size p ≤ d)
          on = division_on r s P

          Q : Pivot S n ω (U.at p) p (U.size p)
          Q = full p P.inside on.0

          c : Cancelling S (g p) (U.at p p)
          c = E.cancel (g p) (U.at p p) Q.positive (omega (arith, on.1, Q.reached))

          h : ℕ → A
          h k = g k - c.factor * U.at p k

          r' : DivisionTrace f h
          r' = step r (record { at = p; inside = P.inside; filled = on.0; factor = c.factor; equal = λ k l. refl })

          L : Low S n ω h p d
          L = step_low R P Q on.1 c.factor (omega (arith, c.shift, Q.reached)) c.smaller

          next : ((h : ℕ → A) → DivisionTrace f h → (p d : ℕ) → Pivot S n ω h p d → place n p d < fuel → Divided f)
              → HasPivot S ω n h ⊎ Vanishes R n h → Divided f
          next rec (inr z) = record { rest = h; trace = r'; ends = z }
          next rec (inl y) = rec h r' y.at y.size y.pivot
              (omega (arith, place_before n y.at y.size p d y.pivot.inside P.inside (low_pivot L y.pivot)))

      pub divide_out : Divided f
      divide_out = go (find_pivot S ω n f)
        where
          go : HasPivot S ω n f ⊎ Vanishes R n f → Divided f
          go (inr z) = record { rest = f; trace = start (λ k h. refl); ends = z }
          go (inl y) = run (suc (place n y.at y.size)) f (start (λ k h. refl)) y.at y.size y.pivot (omega arith)
