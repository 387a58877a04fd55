-- How large words are: what can be reduced, and what a word of at most b becomes that takes in a product of at most g. So a
-- hand needs no counter against overflow; a bound on its steps is enough.
use Rattle.std.specs.Prelude.{List, [], ◌∷◌, ℕ, zero, suc, ◌+◌, ◌*◌, ◌≤◌, ◌<◌, get_or, set, replicate}
use Rattle.std.proofs.Common.{arith}
use Rattle.residue.specs.Sum.{SmallSum, residue_small}
use Rattle.vector.specs.Stored.{stored}
use Rattle.vector.specs.Multiple.{sum_at}

-- the first n words are sums that `Modulus::reduce` takes
abbrev pub Reducible : ℕ → List ℕ → ℕ → Type 0
Reducible p l n = (j : ℕ) → j < n → SmallSum p (get_or l j 0)

-- every word is at most b
abbrev pub AtMost : ℕ → List ℕ → Type 0
AtMost b l = (i : ℕ) → get_or l i 0 ≤ b

-- an array that was just made
pub zeros_none : (n : ℕ) → AtMost 0 (replicate n 0)
zeros_none zero i = omega arith
zeros_none (suc n) zero = omega arith
zeros_none (suc n) (suc i) = zeros_none n i

pub at_most_reducible : (b p : ℕ) (l : List ℕ) (n : ℕ) → SmallSum p b → AtMost b l → Reducible p l n
at_most_reducible b p l n small h j lt = omega (arith, h j)

pub below_reducible : (p : ℕ) (l : List ℕ) (n : ℕ) → ((i : ℕ) → get_or l i 0 < p) → Reducible p l n
below_reducible p l n below j lt = residue_small p (get_or l j 0) (omega (arith, below j)) (omega (arith, below j))

pub at_most_set : (b v : ℕ) (l : List ℕ) (i : ℕ) → v ≤ b → AtMost b l → AtMost b (set l i v)
at_most_set b v [] i hv h k = h k
at_most_set b v (x ∷ l) zero hv h zero = hv
at_most_set b v (x ∷ l) zero hv h (suc k) = h (suc k)
at_most_set b v (x ∷ l) (suc i) hv h zero = h zero
at_most_set b v (x ∷ l) (suc i) hv h (suc k) = at_most_set b v l i hv (λ j. h (suc j)) k

pub at_most_stored : (b : ℕ) (f : ℕ → ℕ) (l : List ℕ) (d n : ℕ) → ((j : ℕ) → j < n → f j ≤ b) → AtMost b l
    → AtMost b (stored f l d n)
unfolding stored
at_most_stored b f l d zero hf h = h
at_most_stored b f l d (suc n) hf h =
    at_most_set b (f n) (stored f l d n) (d + n) (hf n (omega arith)) (at_most_stored b f l d n (λ j lt. hf j (omega arith)) h)

-- sums of `add_scaled`
module _
    (b g : ℕ)
    (h : List ℕ)
    (d : ℕ)
    (s : List ℕ)
    (a n c : ℕ)
    (words : AtMost b h)
    (products : (j : ℕ) → j < n → c * get_or s (a + j) 0 ≤ g)
  where
    pub sum_at_most : (j : ℕ) → j < n → sum_at h d s a c j ≤ b + g
    sum_at_most j lt = omega (arith, words (d + j), products j lt)

    pub at_most_sum : AtMost (b + g) (stored (sum_at h d s a c) h d n)
    at_most_sum = at_most_stored (b + g) (sum_at h d s a c) h d n sum_at_most (λ i. omega (arith, words i))
