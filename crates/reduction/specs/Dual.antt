-- What the second system finds for slots U with tails: a row Y and w with Y·(block) = w·(tail) for each slot. So (Y | -w) kills
-- the slots, and with them their span.
use Prim.Native.Nat.{ℕ, suc, ◌<◌, ◌≤◌}
use Rattle.std.specs.Prelude.{◌≡◌, refl, [], ◌∷◌}
use Rattle.std.proofs.Common.{sym, ◌∙◌, ap, ap₂}
use Rattle.ring.specs.Ring.{Ring}
use Rattle.ring.specs.Sum.{sum, sum_ext}
use Rattle.ring.specs.Identity.{quotes, identity}
use Rattle.ring.specs.Combination.{given, combination}
use Rattle.algebra.specs.Sized.{Sized}
use Rattle.algebra.specs.Divides.{Divides}
use Rattle.reduction.specs.Total.{degrees}
use Rattle.reduction.specs.Replace.{extend, extend_below, extend_at}
use Rattle.reduction.specs.Slots.{Slots}
use Rattle.reduction.specs.Span.{InSpan, span_killed}

module _ {A : Type 0} {R : Ring A} (S : Sized R) (n B : ℕ) (U : Slots A) (w : A) (Y : ℕ → A) where
  open R use {add as ◌+◌, mul as ◌*◌, neg as -◌, zero as 𝟘, one as 𝟙}
  open S use {size}

  infixl 65 ◌+◌
  infixl 70 ◌*◌
  infix 75 -◌
  pub record Dual : Type 0 where
    pub nonzero : ¬ (w ≡ 𝟘)
    pub small : size w ≤ suc (degrees n U.size)
    pub empty : (k : ℕ) → k < n → U.size k ≡ 0 → Y k ≡ 𝟘
    pub equal : (i : ℕ) → i < n → 0 < U.size i → sum R n (λ k. Y k * U.at i k) ≡ w * U.at i n
    pub row_small : (k : ℕ) → k < n → size (Y k) ≤ suc B
    -- w divides every κ for which there is such a row
    pub least : (κ : A) (y : ℕ → A) → ((k : ℕ) → k < n → U.size k ≡ 0 → y k ≡ 𝟘)
        → ((i : ℕ) → i < n → 0 < U.size i → sum R n (λ k. y k * U.at i k) ≡ κ * U.at i n) → Divides R w κ

  -- Y·x = w·τ for every (x | τ) of the span
  pub dual_span : Dual → (x : ℕ → A) → InSpan R n (suc n) U x → sum R n (λ k. Y k * x k) ≡ w * x n
  unfolding sum
  dual_span K x s = combination R (sum R n (λ k. Y k * x k)) (w * x n)
      (given 𝟙 (sym (row x) ∙ span_killed R Z (λ q h f. row (U.at q) ∙ killed q h f) s) ∷ [])
      (identity R (sum R n (λ k. Y k * x k) ∷ w ∷ x n ∷ []) (λ ρ qs qw qx. search quotes depth 16) refl)
    where
      Z : ℕ → A
      Z = extend n Y (- w)

      row : (v : ℕ → A) → sum R (suc n) (λ k. Z k * v k) ≡ sum R n (λ k. Y k * v k) + (- w) * v n
      row v = ap₂ ◌+◌ (sum_ext R n (λ k. Z k * v k) (λ k. Y k * v k) (λ k h. ap (λ y. y * v k) (extend_below n Y (- w) k h)))
          (ap (λ y. y * v n) (extend_at n Y (- w)))

      killed : (q : ℕ) → q < n → 0 < U.size q → sum R n (λ k. Y k * U.at q k) + (- w) * U.at q n ≡ 𝟘
      killed q h f =
          ap (λ y. y + (- w) * U.at q n) (K.equal q h f)
          ∙ identity R (w ∷ U.at q n ∷ []) (λ ρ qw qu. search quotes depth 16) refl
