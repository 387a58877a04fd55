-- A multiple of one range of words added to another, and that modulo any p it is hand + c·x^k·slot.
use Rattle.std.specs.Prelude.{◌≡◌, ◌⊎◌, List, ℕ, ◌+◌, ◌*◌, ◌≤◌, ◌<◌, length, get_or, take, drop}
use Rattle.std.proofs.Common.{sym, ap, ap₂, ◌∙◌, inl, inr, ⊎_elim, add-zero, mul-zero, arith}
use Rattle.algebra.specs.Coefficients.{add, scale, shift}
use Rattle.modular.specs.Modulo.{modulo}
pub use Rattle.vector.specs.Sum.{sum_at}
use Rattle.vector.specs.Stored.{stored, stored_inside, stored_outside, below_or_not}
use Rattle.vector.specs.Reduced.{polynomial, word_inside, word_behind, reduced_multiple}

-- Of the words h before and the words h' after: any m words of them that take in all that changed, read as polynomials modulo
-- any p, gained c·x^k times the n words of s from a on, k the place d counted from the first of the m.
abbrev pub GainsMultiple : List ℕ → List ℕ → ℕ → List ℕ → ℕ → ℕ → ℕ → Type 0
GainsMultiple h h' d s a n c =
    (p b k m : ℕ) → 0 < p → b + k ≡ d → k + n ≤ m →
    polynomial p h' b m ≡ add (modulo p) (polynomial p h b m) (shift (modulo p) k (scale (modulo p) c (polynomial p s a n)))

-- the words of the m from b on, before and after
module _ (h : List ℕ) (b k m : ℕ) (s : List ℕ) (a n c : ℕ) (room : b + k + n ≤ length h) (inside : k + n ≤ m) where
  abbrev h' : List ℕ
  h' = stored (sum_at h (b + k) s a c) h (b + k) n

  abbrev word : List ℕ → ℕ → ℕ
  word l i = get_or (take m (drop b l)) i 0

  same : (i : ℕ) → (i < k) ⊎ (k + n ≤ i) → word h' i ≡ word h i
  same i out =
      ⊎_elim
      (λ lt.
      word_inside h' b m i lt
      ∙ stored_outside _ h (b + k) n (b + i) (⊎_elim (λ lo. inl (omega arith)) (λ hi. inr (omega arith)) out)
      ∙ sym (word_inside h b m i lt))
      (λ ge. word_behind h' b m i ge ∙ sym (word_behind h b m i ge))
      (below_or_not i m)

  gained : (j : ℕ) → word h' (k + j) ≡ word h (k + j) + c * get_or (take n (drop a s)) j 0
  gained j =
      ⊎_elim
      (λ lt.
      let place : b + (k + j) ≡ b + k + j = omega arith in
      let lt_m : k + j < m = omega arith in
      word_inside h' b m (k + j) lt_m
      ∙ ap (λ (i : ℕ). get_or h' i 0) place
      ∙ stored_inside (sum_at h (b + k) s a c) h (b + k) n j room lt
      ∙ sym
      (ap₂
      (λ (x y : ℕ). x + c * y)
      (word_inside h b m (k + j) lt_m ∙ ap (λ (i : ℕ). get_or h i 0) place)
      (word_inside s a n j lt)))
      (λ ge.
      same (k + j) (inr (omega arith))
      ∙ sym
      (ap (λ (y : ℕ). word h (k + j) + c * y) (word_behind s a n j ge)
      ∙ ap (λ (z : ℕ). word h (k + j) + z) (mul-zero c)
      ∙ add-zero (word h (k + j))))
      (below_or_not j n)

-- the words with the sums stored gain the multiple
pub gains_multiple : (h h' : List ℕ) (d : ℕ) (s : List ℕ) (a n c : ℕ) → d + n ≤ length h
    → h' ≡ stored (sum_at h d s a c) h d n → GainsMultiple h h' d s a n c
gains_multiple h h' d s a n c room words p b k m positive place inside =
    let room' : b + k + n ≤ length h = omega arith in
    ap (λ (l : List ℕ). polynomial p l b m) (words ∙ ap (λ (x : ℕ). stored (sum_at h x s a c) h x n) (sym place))
    ∙ reduced_multiple
    p
    positive
    (take m (drop b h))
    (take m (drop b (stored (sum_at h (b + k) s a c) h (b + k) n)))
    (take n (drop a s))
    k
    c
    (λ i lt. same h b k m s a n c room' inside i (inl lt))
    (gained h b k m s a n c room' inside)
