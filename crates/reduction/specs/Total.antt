-- More of sums of numbers over the indices below n; the number of slots that are filled, and the sum of their degrees.
use Rattle.std.specs.Prelude.{ℕ, zero, suc, ◌+◌, ◌-◌, ◌*◌, ◌<◌, ◌≤◌, min, ◌≡◌, refl}
use Rattle.std.proofs.Common.{ap, arith}
use Rattle.std.proofs.Math.Decide.{ℕ_discrete}
use Rattle.ring.specs.Total.{total, total_ext}

pub total_le : (n : ℕ) (f g : ℕ → ℕ) → ((i : ℕ) → i < n → f i ≤ g i) → total n f ≤ total n g
unfolding total
total_le zero f g e = omega arith
total_le (suc n) f g e = omega (arith, total_le n f g (λ i h. e i (omega arith)), e n (omega arith))

pub total_add : (n : ℕ) (f g : ℕ → ℕ) → total n (λ i. f i + g i) ≡ total n f + total n g
unfolding total
total_add zero f g = refl
total_add (suc n) f g = omega (arith, total_add n f g)

pub total_constant : (n c : ℕ) → total n (λ i. c) ≡ n * c
unfolding total
total_constant zero c = omega arith
total_constant (suc n) c = omega (arith, total_constant n c)

-- each term is at most the sum
pub total_term : (n : ℕ) (f : ℕ → ℕ) (q : ℕ) → q < n → f q ≤ total n f
unfolding total
total_term zero f q h = absurd (omega arith)
total_term (suc n) f q h = go (λ g. total_term n f q g) (ℕ_discrete q n)
  where
    go : (q < n → f q ≤ total n f) → Dec (q ≡ n) → f q ≤ total n f + f n
    go rec (yes e) = omega (arith, ap f e)
    go rec (no e) = omega (arith, rec (omega arith))

-- two sums that differ in one term
pub total_change : (n p : ℕ) (f g : ℕ → ℕ) → p < n → ((i : ℕ) → i < n → ¬ (i ≡ p) → f i ≡ g i)
    → total n f + g p ≡ total n g + f p
unfolding total
total_change zero p f g h e = absurd (omega arith)
total_change (suc n) p f g h e = go (λ k. total_change n p f g k (λ i l. e i (omega arith))) (ℕ_discrete n p)
  where
    go : (p < n → total n f + g p ≡ total n g + f p) → Dec (n ≡ p) → total n f + f n + g p ≡ total n g + g n + f p
    go rec (yes q) = omega (arith, ap f q, ap g q, total_ext n f g (λ i l. e i (omega arith) (omega arith)))
    go rec (no q) = omega (arith, rec (omega arith), e n (omega arith) q)

-- the terms in reversed order
pub total_reverse : (n : ℕ) (f : ℕ → ℕ) → total n (λ q. f (n - suc q)) ≡ total n f
unfolding total
total_reverse zero f = refl
total_reverse (suc n) f =
    let last : suc n - suc n ≡ 0 = omega arith in
    omega (
      arith,
      ap f last,
      front n f,
      total_reverse n (λ i. f (suc i)),
      total_ext n (λ q. f (suc n - suc q)) (λ q. f (suc (n - suc q))) (λ q h. ap f (omega arith)),
    )
  where
    front : (k : ℕ) (f : ℕ → ℕ) → total k f + f k ≡ f 0 + total k (λ i. f (suc i))
    front zero f = omega arith
    front (suc k) f = omega (arith, front k f)

-- d q is the weighted size of the vector in slot q, 0 where the slot is empty: how many slots are filled
abbrev pub rank : ℕ → (ℕ → ℕ) → ℕ
rank n d = total n (λ q. min 1 (d q))

-- and the sum of the weighted degrees
abbrev pub degrees : ℕ → (ℕ → ℕ) → ℕ
degrees n d = total n (λ q. d q - 1)

pub rank_le : (n : ℕ) (d : ℕ → ℕ) → rank n d ≤ n
rank_le n d = omega (arith, total_le n (λ q. min 1 (d q)) (λ q. 1) (λ q h. omega arith), total_constant n 1)

-- all slots are filled where their number is n
pub rank_full : (n : ℕ) (d : ℕ → ℕ) → rank n d ≡ n → (q : ℕ) → q < n → 0 < d q
unfolding total
rank_full zero d e q h = absurd (omega arith)
rank_full (suc n) d e q h = go (rank_full n d (omega (arith, rank_le n d)) q) (ℕ_discrete q n)
  where
    go : (q < n → 0 < d q) → Dec (q ≡ n) → 0 < d q
    go rec (yes r) = omega (arith, rank_le n d, ap d r)
    go rec (no r) = rec (omega arith)

-- equal sizes, and sizes that differ at one place
module _ (n : ℕ) (d e : ℕ → ℕ) where
  pub rank_ext : ((q : ℕ) → q < n → min 1 (d q) ≡ min 1 (e q)) → rank n d ≡ rank n e
  rank_ext s = total_ext n (λ q. min 1 (d q)) (λ q. min 1 (e q)) s

  pub degrees_ext : ((q : ℕ) → q < n → d q ≡ e q) → degrees n d ≡ degrees n e
  degrees_ext s = total_ext n (λ q. d q - 1) (λ q. e q - 1) (λ q h. ap (λ x. x - 1) (s q h))

  module _ (p : ℕ) (h : p < n) (s : (q : ℕ) → q < n → ¬ (q ≡ p) → d q ≡ e q) where
    pub rank_change : rank n d + min 1 (e p) ≡ rank n e + min 1 (d p)
    rank_change = total_change n p (λ q. min 1 (d q)) (λ q. min 1 (e q)) h (λ q l ne. ap (min 1) (s q l ne))

    pub degrees_change : degrees n d + (e p - 1) ≡ degrees n e + (d p - 1)
    degrees_change = total_change n p (λ q. d q - 1) (λ q. e q - 1) h (λ q l ne. ap (λ x. x - 1) (s q l ne))
