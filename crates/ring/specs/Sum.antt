-- Finite sums in a commutative ring, over the indices below n. Vectors are functions of ℕ and matrices functions of two numbers,
-- with the bounds apart.
use Prim.Native.Nat.{ℕ, zero, suc, ◌-◌, ◌<◌, ◌≤◌}
use Rattle.std.specs.Prelude.{◌≡◌}
use Rattle.std.proofs.Math.Path.{refl, sym, ap, ap₂}
use Rattle.std.proofs.Common.{◌∙◌}
use native.Mathlib.Omega.{arith}
use Rattle.std.proofs.Math.Logic.{ite, if_pos, if_neg}
use Rattle.std.proofs.Math.Decide.{ℕ_discrete}
use Rattle.ring.specs.Ring.{Ring, zero_add, mul_zero, add_left_comm, add_add_add_comm, neg_zero, neg_add_distrib}

module _ {A : Type 0} (R : Ring A) where
  open R use {add as ◌+◌, mul as ◌*◌, neg as -◌, zero as 𝟘, add_comm, add_assoc, add_zero, mul_comm, mul_assoc, mul_add}

  infixl 65 ◌+◌
  infixl 70 ◌*◌
  infix 75 -◌
  -- f 0 + .. + f (n - 1)
  unfoldable pub sum : ℕ → (ℕ → A) → A
  sum zero f = 𝟘
  sum (suc n) f = sum n f + f n

  -- equal terms, equal sums
  pub sum_ext : (n : ℕ) (f g : ℕ → A) → ((i : ℕ) → i < n → f i ≡ g i) → sum n f ≡ sum n g
  unfolding sum
  sum_ext zero f g e = refl
  sum_ext (suc n) f g e = ap₂ ◌+◌ (sum_ext n f g (λ i h. e i (omega arith))) (e n (omega arith))

  pub sum_zero : (n : ℕ) → sum n (λ i. 𝟘) ≡ 𝟘
  unfolding sum
  sum_zero zero = refl
  sum_zero (suc n) = add_zero (sum n (λ i. 𝟘)) ∙ sum_zero n

  -- all terms zero
  pub sum_none : (n : ℕ) (f : ℕ → A) → ((i : ℕ) → i < n → f i ≡ 𝟘) → sum n f ≡ 𝟘
  sum_none n f e = sum_ext n f (λ i. 𝟘) e ∙ sum_zero n

  pub sum_add : (n : ℕ) (f g : ℕ → A) → sum n (λ i. f i + g i) ≡ sum n f + sum n g
  unfolding sum
  sum_add zero f g = sym (add_zero 𝟘)
  sum_add (suc n) f g =
      ap (λ x. x + (f n + g n)) (sum_add n f g) ∙ add_add_add_comm R (sum n f) (sum n g) (f n) (g n)

  pub sum_neg : (n : ℕ) (f : ℕ → A) → sum n (λ i. - f i) ≡ - sum n f
  unfolding sum
  sum_neg zero f = sym (neg_zero R)
  sum_neg (suc n) f = ap (λ x. x + (- f n)) (sum_neg n f) ∙ sym (neg_add_distrib R (sum n f) (f n))

  -- a factor taken out, on the left and on the right
  pub sum_mul : (n : ℕ) (c : A) (f : ℕ → A) → sum n (λ i. c * f i) ≡ c * sum n f
  unfolding sum
  sum_mul zero c f = sym (mul_zero R c)
  sum_mul (suc n) c f = ap (λ x. x + c * f n) (sum_mul n c f) ∙ sym (mul_add c (sum n f) (f n))

  pub mul_sum : (n : ℕ) (c : A) (f : ℕ → A) → sum n (λ i. f i * c) ≡ sum n f * c
  mul_sum n c f =
      sum_ext n (λ i. f i * c) (λ i. c * f i) (λ i h. mul_comm (f i) c) ∙ sum_mul n c f ∙ mul_comm c (sum n f)

  -- two sums exchanged
  pub sum_swap : (n m : ℕ) (f : ℕ → ℕ → A) → sum n (λ i. sum m (λ j. f i j)) ≡ sum m (λ j. sum n (λ i. f i j))
  unfolding sum
  sum_swap zero m f = sym (sum_zero m)
  sum_swap (suc n) m f =
      ap (λ x. x + sum m (f n)) (sum_swap n m f) ∙ sym (sum_add m (λ j. sum n (λ i. f i j)) (f n))

  -- only the term at k is not zero
  pub sum_single : (n k : ℕ) (f : ℕ → A) → k < n → ((i : ℕ) → i < n → ¬ (i ≡ k) → f i ≡ 𝟘) → sum n f ≡ f k
  unfolding sum
  sum_single zero k f h e = absurd (omega arith)
  sum_single (suc n) k f h e = go (λ g. sum_single n k f g) (ℕ_discrete n k)
    where
      go : (k < n → ((i : ℕ) → i < n → ¬ (i ≡ k) → f i ≡ 𝟘) → sum n f ≡ f k) → Dec (n ≡ k) → sum n f + f n ≡ f k
      go rec (yes q) = ap₂ ◌+◌ (sum_none n f (λ i g. e i (omega arith) (omega arith))) (ap f q) ∙ zero_add R (f k)
      go rec (no q) = ap₂ ◌+◌ (rec (omega arith) (λ i g. e i (omega arith))) (e n (omega arith) q) ∙ add_zero (f k)

  -- all terms from k on are zero
  pub sum_beyond : (n k : ℕ) (f : ℕ → A) → k ≤ n → ((i : ℕ) → k ≤ i → i < n → f i ≡ 𝟘) → sum n f ≡ sum k f
  unfolding sum
  sum_beyond zero k f h e = let none : 0 ≡ k = omega arith in ap (λ i. sum i f) none
  sum_beyond (suc n) k f h e = go (λ l. sum_beyond n k f l (λ i g l. e i g (omega arith))) (ℕ_discrete k (suc n))
    where
      go : (k ≤ n → sum n f ≡ sum k f) → Dec (k ≡ suc n) → sum n f + f n ≡ sum k f
      go rec (yes q) = ap (λ i. sum i f) (sym q)
      go rec (no q) = ap₂ ◌+◌ (rec (omega arith)) (e n (omega arith) (omega arith)) ∙ add_zero (sum k f)

  -- one term taken out: what is left is the sum with zero in its place
  abbrev pub without : ℕ → (ℕ → A) → ℕ → A
  without k f i = ite (ℕ_discrete i k) 𝟘 (f i)

  pub sum_out : (n k : ℕ) (f : ℕ → A) → k < n → sum n f ≡ f k + sum n (without k f)
  sum_out n k f h =
      sum_ext n f (λ i. only i + without k f i) (λ i g. split i (ℕ_discrete i k))
      ∙ sum_add n only (without k f)
      ∙ ap (λ x. x + sum n (without k f)) (sum_single n k only h (λ i g ne. if_neg (ℕ_discrete i k) ne (f i) 𝟘)
      ∙ if_pos (ℕ_discrete k k) refl (f k) 𝟘)
    where
      only : ℕ → A
      only i = ite (ℕ_discrete i k) (f i) 𝟘

      split : (i : ℕ) (d : Dec (i ≡ k)) → f i ≡ ite d (f i) 𝟘 + ite d 𝟘 (f i)
      split i (yes e) = sym (add_zero (f i))
      split i (no e) = sym (zero_add R (f i))

  -- two sums that differ in one term
  pub sum_change : (n k : ℕ) (f g : ℕ → A) → k < n → ((i : ℕ) → i < n → ¬ (i ≡ k) → f i ≡ g i) → sum n f + g k ≡ sum n g + f k
  sum_change n k f g h e =
      ap (λ x. x + g k) (sum_out n k f h ∙ ap (λ x. f k + x) same)
      ∙ exchange (f k) (sum n (without k g)) (g k)
      ∙ ap (λ x. x + f k) (sym (sum_out n k g h))
    where
      exchange : (a b c : A) → a + b + c ≡ c + b + a
      exchange a b c = simp (add_assoc, add_comm, add_left_comm R)

      at : (i : ℕ) → i < n → (d : Dec (i ≡ k)) → ite d 𝟘 (f i) ≡ ite d 𝟘 (g i)
      at i l (yes q) = refl
      at i l (no q) = e i l q

      same : sum n (without k f) ≡ sum n (without k g)
      same = sum_ext n (without k f) (without k g) (λ i l. at i l (ℕ_discrete i k))

  -- the first term apart
  pub sum_front : (n : ℕ) (f : ℕ → A) → sum (suc n) f ≡ f 0 + sum n (λ i. f (suc i))
  unfolding sum
  sum_front zero f = add_comm 𝟘 (f 0)
  sum_front (suc n) f = ap (λ x. x + f (suc n)) (sum_front n f) ∙ add_assoc (f 0) (sum n (λ i. f (suc i))) (f (suc n))

  -- the terms in reversed order
  pub sum_reverse : (n : ℕ) (f : ℕ → A) → sum n (λ i. f (n - suc i)) ≡ sum n f
  unfolding sum
  sum_reverse zero f = refl
  sum_reverse (suc n) f =
      let last : suc n - suc n ≡ 0 = omega arith in
      ap₂ ◌+◌ (sum_ext n (λ i. f (suc n - suc i)) (λ i. f (suc (n - suc i))) (λ i h. ap f (omega arith))
      ∙ sum_reverse n (λ i. f (suc i))) (ap f last)
      ∙ add_comm (sum n (λ i. f (suc i))) (f 0)
      ∙ sym (sum_front n f)

  -- Z·(M·x) = (Z·M)·x for a row Z, a matrix M and a column x
  pub sum_assoc : (n m : ℕ) (Z : ℕ → A) (M : ℕ → ℕ → A) (x : ℕ → A)
      → sum n (λ i. Z i * sum m (λ j. M i j * x j)) ≡ sum m (λ j. sum n (λ i. Z i * M i j) * x j)
  sum_assoc n m Z M x =
      sum_ext n (λ i. Z i * sum m (λ j. M i j * x j)) (λ i. sum m (λ j. Z i * M i j * x j)) (λ i h. inward i)
      ∙ sum_swap n m (λ i j. Z i * M i j * x j)
      ∙ sum_ext m (λ j. sum n (λ i. Z i * M i j * x j)) (λ j. sum n (λ i. Z i * M i j) * x j)
      (λ j h. mul_sum n (x j) (λ i. Z i * M i j))
    where
      inward : (i : ℕ) → Z i * sum m (λ j. M i j * x j) ≡ sum m (λ j. Z i * M i j * x j)
      inward i =
          sym (sum_mul m (Z i) (λ j. M i j * x j))
          ∙ sum_ext m (λ j. Z i * (M i j * x j)) (λ j. Z i * M i j * x j) (λ j k. sym (mul_assoc (Z i) (M i j) (x j)))
