-- A multiple of one range of words added to another, word by word: the sums, and when they fit into words.
use Rattle.std.specs.Prelude.{◌≡◌, List, ℕ, ◌+◌, ◌*◌, ◌≤◌, ◌<◌, length, get_or}
use Rattle.std.proofs.Common.{ap, ap₂, add_assoc, arith}
use Rattle.modular.specs.Bits.{bound32, bound64}

-- the word of h at d + j plus c times the word of s at a + j
abbrev pub sum_at : List ℕ → ℕ → List ℕ → ℕ → ℕ → ℕ → ℕ
sum_at h d s a c j = get_or h (d + j) 0 + c * get_or s (a + j) 0

-- the sums of the ranges that begin j words later are those from j on
pub sum_later : (h : List ℕ) (d : ℕ) (s : List ℕ) (a c j i : ℕ) → sum_at h (d + j) s (a + j) c i ≡ sum_at h d s a c (j + i)
sum_later h d s a c j i =
    ap₂
    (λ (x y : ℕ). x + c * y)
    (ap (λ (k : ℕ). get_or h k 0) (add_assoc d j i))
    (ap (λ (k : ℕ). get_or s k 0) (add_assoc a j i))

-- the sum at j fits
abbrev pub SumFits : List ℕ → ℕ → List ℕ → ℕ → ℕ → ℕ → Type 0
SumFits h d s a c j =
    ((d + j < length h) × (a + j < length s) × (c < bound32) × (get_or s (a + j) 0 < bound32))
    × (sum_at h d s a c j < bound64)

-- the sums of n words fit
abbrev pub SumsFit : List ℕ → ℕ → List ℕ → ℕ → ℕ → ℕ → Type 0
SumsFit h d s a n c =
    ((d + n ≤ length h) × (a + n ≤ length s) × (c < bound32))
    × (((j : ℕ) → j < n → get_or s (a + j) 0 < bound32)
    × ((j : ℕ) → j < n → sum_at h d s a c j < bound64))

module _ (h : List ℕ) (d : ℕ) (s : List ℕ) (a n c : ℕ) (given : SumsFit h d s a n c) where
  pub each_fits : (j : ℕ) → j < n → SumFits h d s a c j
  each_fits j lt = ((omega arith, omega arith, given.0.2, given.1.0 j lt), given.1.1 j lt)

  -- the first m of them, and the m from j on
  pub first_fit : (m : ℕ) → m ≤ n → SumsFit h d s a m c
  first_fit m le = (
    (omega arith, omega arith, given.0.2),
    (λ j lt. given.1.0 j (omega arith), λ j lt. given.1.1 j (omega arith)),
  )

  pub later_fit : (j m : ℕ) → j + m ≤ n → SumsFit h (d + j) s (a + j) m c
  later_fit j m within = (
    (omega arith, omega arith, given.0.2),
    (
      λ i lt. rw add_assoc (given.1.0 (j + i) (omega arith)),
      λ i lt. rw (sum_later h d s a c j i) (given.1.1 (j + i) (omega arith)),
    ),
  )
