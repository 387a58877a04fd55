-- What `add_row` and `sum_at` require, and what they leave, between two turns of the loops of `add_scaled`.
use mathlib.Core.Path.{◌≡◌, refl, ap, ap₂, ◌∙◌}
use mathlib.Core.List.{List}
use Prim.Native.Nat.{ℕ, ◌+◌, ◌*◌, ◌≤◌, ◌<◌}
use native.Mathlib.Nat.{add-zero, add_assoc}
use native.Mathlib.Omega.{arith}
use lib.ListN.{get_or}
use Rattle.vector.specs.Sum.{sum_at, SumFits, SumsFit, each_fits}
use Rattle.vector.specs.RowStored.{row_stored, row_words}
use Rattle.vector.specs.Stored.{stored}
use Rattle.vector.proofs.Storing.{Storing, storing_later, storing_reads, storing_row}

-- a row of eight, and eight words stored
row_is_stored : (f : ℕ → ℕ) (l : List ℕ) (d : ℕ) → row_stored f l d ≡ stored f l d row_words
unfolding stored
row_is_stored f l d = simp (add-zero, add_assoc)

-- where j sums are stored: the next sum, and the next m sums, are those of the start, fit, and may be stored
module _
    (h : List ℕ)
    (d : ℕ)
    (s : List ℕ)
    (a n c : ℕ)
    {w : List ℕ}
    {j : ℕ}
    (so_far : Storing (sum_at h d s a c) h d n w j)
  where
    pub next_sum : (v : ℕ) → v ≡ sum_at w d s a c j → v ≡ sum_at h d s a c j
    next_sum v e = e ∙ ap (λ (x : ℕ). x + c * get_or s (a + j) 0) (storing_reads so_far)

    pub next_fits : SumsFit h d s a n c → j < n → SumFits w d s a c j
    next_fits given lt =
        let at_start = each_fits h d s a n c given j lt in
        let long = so_far.same_length in
        ((omega arith, at_start.0.1, at_start.0.2, at_start.0.3), rw (next_sum _ refl) at_start.1)

    row_sum : (i : ℕ) → sum_at w (d + j) s (a + j) c i ≡ sum_at h d s a c (j + i)
    row_sum i =
        ap₂
        (λ (x y : ℕ). x + c * y)
        (storing_later so_far (d + j + i) (omega arith) ∙ ap (λ (k : ℕ). get_or h k 0) (add_assoc d j i))
        (ap (λ (k : ℕ). get_or s k 0) (add_assoc a j i))

    pub row_fits : SumsFit h d s a n c → (m : ℕ) → j + m ≤ n → SumsFit w (d + j) s (a + j) m c
    row_fits given m within =
        let long = so_far.same_length in (
          (omega arith, omega arith, given.0.2),
          (λ i lt. rw add_assoc (given.1.0 (j + i) (omega arith)), λ i lt. rw (row_sum i) (given.1.1 (j + i) (omega arith))),
        )

    pub row_stored_lem : (w' : List ℕ) → j + row_words ≤ n → w' ≡ row_stored (sum_at w (d + j) s (a + j) c) w (d + j)
        → Storing (sum_at h d s a c) h d n w' (j + row_words)
    row_stored_lem w' within e =
        let sum = sum_at w (d + j) s (a + j) c in
        storing_row so_far sum row_words w' within (λ i lt. row_sum i) (e ∙ row_is_stored sum w (d + j))
