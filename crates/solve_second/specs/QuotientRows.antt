-- The quotients by the transposed slots as the rows of the second system's solution: row k is 128 words of lane 7 - (n - 1 - k).
use Rattle.std.specs.Prelude.{ℕ, ◌+◌, ◌-◌, ◌*◌, ◌/◌, ◌%◌, ◌<◌, ◌≤◌, ◌≡◌, refl, List, length, get_or}
use Rattle.std.proofs.Common.{sym, ◌∙◌, ap, ap₂, arith}
use Rattle.std.proofs.Math.Decide.{dec_lt}
use Rattle.std.proofs.Math.ListN.{get_or-eq_default}
use Rattle.reduction.specs.Flat.{flat}
use Rattle.reduction.specs.Transpose.{back}
use Rattle.vector.specs.Stored.{stored, stored_first, stored_all_first}
use Rattle.solve_lattice.specs.Room.{rows_words, block_words, lanes, last_lane}
use Rattle.solve_second.specs.Words.{when, when_yes, when_no, reversed}
use Rattle.solve_second.specs.ValidTransposed.{when_below}

-- the word at x of the rows
abbrev pub quotient_word : (l : List ℕ) (n x : ℕ) → ℕ
quotient_word l n x = when (dec_lt (x / block_words) n) (get_or l (lanes * (x % block_words) + (last_lane - reversed n (x / block_words)))
    0)

module _ (l : List ℕ) (n x : ℕ) where
  quotient_beyond : ¬ (x / block_words < n) → quotient_word l n x ≡ 0
  quotient_beyond out = when_no (dec_lt (x / block_words) n) _ out

  quotient_value : x / block_words < n → quotient_word l n x ≡ get_or l
      (lanes * (x % block_words) + (last_lane - reversed n (x / block_words))) 0
  quotient_value inside = when_yes (dec_lt (x / block_words) n) _ inside

-- lane 7 - (n - 1 - k) is row k, and the rows from the n-th on are zero
module _ (l : List ℕ) (n : ℕ) where
  pub lane_row : (k e : ℕ) → k < n → e < block_words → get_or l (lanes * e + (last_lane - reversed n k)) 0 ≡ quotient_word l n
      (block_words * k + e)
  lane_row k e h lt =
      let y : ℕ = block_words * k + e in
      let slot : y / block_words ≡ k = omega arith in
      let degree : y % block_words ≡ e = omega arith in
      sym (quotient_value l n y (omega (arith, slot))
      ∙ ap₂ (λ a b. get_or l (lanes * a + (last_lane - reversed n b)) 0) degree slot)

  pub no_row : (i : ℕ) → 0 ≡ quotient_word l n (block_words * n + i)
  no_row i = sym (quotient_beyond l n (block_words * n + i) (λ h. omega arith))

module _ (l : List ℕ) (n : ℕ) (small : n ≤ lanes) (o : List ℕ) (room : rows_words ≤ length o) where
  -- coefficient e of row k
  pub row_cell : (k e : ℕ) → k < n → e < block_words
      → get_or (stored (quotient_word l n) o 0 rows_words) (block_words * k + e) 0 ≡ get_or l (flat lanes (back n k) e) 0
  row_cell k e h lt =
      stored_first (quotient_word l n) o rows_words (block_words * k + e) (omega arith) (omega arith)
      ∙ sym (lane_row l n k e h lt)
      ∙ ap (λ i. get_or l i 0) (omega arith)

  pub rows_below : (p : ℕ) → ((i : ℕ) → get_or l i 0 < p) → ((i : ℕ) → rows_words ≤ i → get_or o i 0 < p) → (i : ℕ)
      → get_or (stored (quotient_word l n) o 0 rows_words) i 0 < p
  rows_below p all = stored_all_first (λ i w. w < p) (quotient_word l n) o _ rows_words refl room
      (λ j lt. when_below p (omega (arith, all 0)) _ _ (λ _. all _))

-- there is nothing behind 1024 words
pub nothing_behind : {p : ℕ} → 0 < p → (o : List ℕ) → length o ≡ rows_words → (i : ℕ) → rows_words ≤ i → get_or o i 0 < p
nothing_behind some o room i ge =
    let none : get_or o i 0 ≡ 0 = get_or-eq_default o 0 (omega arith) in
    omega arith
