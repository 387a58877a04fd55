-- L4, the invariant of insert: what bounds the degrees of tails. d q and τ q are the weighted size and the tail of slot q, e and
-- σ those of the hand; Q is the sum of the weighted degrees of the slots when the insertion began. A tail zero has no bound.
use Rattle.std.specs.Prelude.{ℕ, suc, ◌<◌, ◌≤◌, ◌+◌ as ◌+ₙ◌, ◌-◌ as ◌-ₙ◌, ◌≡◌}
use Rattle.std.proofs.Common.{sym, ◌∙◌, ap, subst, arith}
use Rattle.std.proofs.Math.Decide.{ℕ_discrete}
use Rattle.ring.specs.Ring.{Ring, mul_zero}
use Rattle.algebra.specs.Sized.{Sized, size_of_zero, size_mul_le}
use Rattle.reduction.specs.Total.{degrees, degrees_change, total_term}

-- the degree of a vector's tail and the weighted degrees of all other vectors come to at most Q
pub record Tails {A : Type 0} {R : Ring A} (S : Sized R) (n Q : ℕ) (d : ℕ → ℕ) (τ : ℕ → A) (e : ℕ) (σ : A) : Type 0 where
  pub slot : (q : ℕ) → q < n → 0 < d q → 0 < S.size (τ q) → S.size (τ q) +ₙ (degrees n d +ₙ (e -ₙ 1)) ≤ Q +ₙ d q
  pub hand : 0 < S.size σ → S.size σ +ₙ degrees n d ≤ suc Q

module _ {A : Type 0} (R : Ring A) where
  open R use {add as ◌+◌, mul as ◌*◌, neg as -◌}

  infixl 65 ◌+◌
  infixl 65 ◌-◌
  infixl 70 ◌*◌
  infix 75 -◌
  abbrev ◌-◌ : A → A → A
  a - b = a + (- b)

  module _ {S : Sized R} {n Q : ℕ} {d : ℕ → ℕ} {τ : ℕ → A} {e : ℕ} {σ : A} (I : Tails S n Q d τ e σ) where
    open S use {size, size_none, size_add, size_neg}

    pub tails_less : (e' : ℕ) → e' ≤ e → Tails S n Q d τ e' σ
    tails_less e' le = record { slot = λ q h p y. omega (arith, I.slot q h p y); hand = I.hand }

    -- L4, a step: a times slot p is taken off the hand
    pub tails_step : (p : ℕ) → p < n → 0 < d p → d p ≤ e → (a : A) → size a ≤ suc (e -ₙ d p)
        → (σ' : A) → σ' ≡ σ - a * τ p → Tails S n Q d τ e σ'
    tails_step p hp hd le a ha σ' s = record { slot = I.slot; hand = λ y. omega (arith, both) }
      where
        most : ℕ
        most = suc Q -ₙ degrees n d

        old : Dec (size σ ≡ 0) → size σ ≤ most
        old (yes z) = omega arith
        old (no z) = omega (arith, I.hand (omega arith))

        new : Dec (size (τ p) ≡ 0) → size (a * τ p) ≤ most
        new (yes z) = omega (arith, size_of_zero S (a * τ p) (ap (λ x. a * x) (size_none (τ p) z) ∙ mul_zero R a))
        new (no z) = omega (
          arith,
          size_mul_le S a (τ p) (suc (e -ₙ d p)) (size (τ p)) ha (omega arith),
          I.slot p hp hd (omega arith),
        )

        both : size σ' ≤ most
        both = subst (λ x. size x ≤ most) (sym s) (size_add most σ (- (a * τ p))
            (old (ℕ_discrete (size σ) 0)) (size_neg most (a * τ p) (new (ℕ_discrete (size (τ p)) 0))))

    -- the hand goes into slot p
    module _ (p : ℕ) (hp : p < n) (he : 0 < e) (d' : ℕ → ℕ) (τ' : ℕ → A) (here : d' p ≡ e) (tail : τ' p ≡ σ)
        (sizes : (q : ℕ) → q < n → ¬ (q ≡ p) → d' q ≡ d q) (tails : (q : ℕ) → q < n → ¬ (q ≡ p) → 0 < d q → τ' q ≡ τ q) where
      sums : degrees n d' +ₙ (d p -ₙ 1) ≡ degrees n d +ₙ (e -ₙ 1)
      sums = degrees_change n d' d p hp sizes ∙ ap (λ x. degrees n d +ₙ (x -ₙ 1)) here

      slots : (q : ℕ) → q < n → 0 < d' q → 0 < size (τ' q) → size (τ' q) +ₙ (degrees n d +ₙ (e -ₙ 1)) ≤ Q +ₙ d' q
      slots q h f y = go (ℕ_discrete q p)
        where
          go : Dec (q ≡ p) → size (τ' q) +ₙ (degrees n d +ₙ (e -ₙ 1)) ≤ Q +ₙ d' q
          go (yes r) =
              let z : size (τ' q) ≡ size σ = ap size (ap τ' r ∙ tail) in
              omega (arith, I.hand (omega arith), ap d' r)
          go (no r) =
              let f' : 0 < d q = omega (arith, sizes q h r) in
              let z : size (τ' q) ≡ size (τ q) = ap size (tails q h r f') in
              omega (arith, I.slot q h f' (omega arith), sizes q h r)

      -- L4, an exchange: the hand gets what was there
      pub tails_exchange : 0 < d p → Tails S n Q d' τ' (d p) (τ p)
      tails_exchange hd = record {
        slot = λ q h f y. omega (arith, slots q h f y, sums);
        hand = λ y. omega (arith, I.slot p hp hd y, sums);
      }

      -- nothing was there: no hand is left
      pub tails_put : d p ≡ 0 → (q : ℕ) → q < n → 0 < d' q → 0 < size (τ' q) → size (τ' q) +ₙ degrees n d' ≤ Q +ₙ d' q
      tails_put z q h f y = omega (arith, slots q h f y, sums)

    -- room: no tail has more than Q + 1 coefficients
    pub tails_room_slot : (q : ℕ) → q < n → 0 < d q → size (τ q) ≤ suc Q
    tails_room_slot q h f = go (ℕ_discrete (size (τ q)) 0)
      where
        go : Dec (size (τ q) ≡ 0) → size (τ q) ≤ suc Q
        go (yes z) = omega arith
        go (no z) = omega (arith, I.slot q h f (omega arith), total_term n (λ q. d q -ₙ 1) q h)

    pub tails_room_hand : size σ ≤ suc Q
    tails_room_hand = go (ℕ_discrete (size σ) 0)
      where
        go : Dec (size σ ≡ 0) → size σ ≤ suc Q
        go (yes z) = omega arith
        go (no z) = omega (arith, I.hand (omega arith))
