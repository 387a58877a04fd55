-- What a range of words that was written as a slice is in the whole list: of k words from a on, where k is n.
use Rattle.std.proofs.Common.{◌≡◌, ◌⊎◌, ℕ, ◌+◌, ◌-◌, ◌≤◌, ◌<◌, List, length, get_or, sym, ap, ◌∙◌, subst, inl, inr, ⊎_elim, set, zero-add, length-take, length-drop, arith, rules}
use Rattle.std.proofs.lemmas.List.{ext_get_or, get_or-take, get_or-drop, places}
use borrow.Rule.Slice.PartMut.{put_mid, mid_of, same_len_mid}
use Rattle.vector.specs.Stored.{stored, length_stored, stored_inside, stored_outside, stored_first, below_or_not}
use Rattle.vector.proofs.Storing.{Storing, storing_reads_at, storing_turn_at, storing_end}

module _ (h : List ℕ) (a k n : ℕ) (room : a + n ≤ length h) (long : k ≡ n) where
  pub range_length : length (mid_of a k h) ≡ n
  range_length = simp (length-take, length-drop) (omega arith)

  pub range_word : (j : ℕ) → j < n → get_or (mid_of a k h) j 0 ≡ get_or h (a + j) 0
  range_word j lt = let below : j < k = omega arith in rw (get_or-take, get_or-drop)

  module _ (f : ℕ → ℕ) (w : List ℕ) (same : length w ≡ n) where
    abbrev whole : List ℕ
    whole = put_mid a k h w

    whole_length : length whole ≡ length h
    whole_length = same_len_mid a k h w (omega (arith, range_length))

    outside : (i : ℕ) → (i < a) ⊎ (a + n ≤ i) → get_or whole i 0 ≡ get_or h i 0
    outside i out = ⊎_elim (λ lo. search (rules, places)) (λ hi. search (rules, places)) out

    inside : (j : ℕ) → j < n → get_or whole (a + j) 0 ≡ get_or w j 0
    inside j lt = search (rules, places)

    -- each word of it is f's, and the rest as it was
    pub range_stored : ((j : ℕ) → j < n → get_or w j 0 ≡ f j) → whole ≡ stored f h a n
    range_stored each = ext_get_or 0 whole (stored f h a n) (whole_length ∙ sym (length_stored f h a n)) (λ i lt.
        ⊎_elim
        (λ lo. outside i (inl lo) ∙ sym (stored_outside f h a n i (inl lo)))
        (λ from. ⊎_elim
        (λ below.
        let place : a + (i - a) ≡ i = omega arith in
        subst (λ x. get_or whole x 0 ≡ get_or (stored f h a n) x 0) place
        (inside (i - a) below ∙ each (i - a) below ∙ sym (stored_inside f h a n (i - a) room below)))
        (λ ge. outside i (inr (omega arith)) ∙ sym (stored_outside f h a n i (inr (omega arith))))
        (below_or_not (i - a) n))
        (below_or_not i a))

  -- a loop over the range: what it reads at j, a turn of it, and its end
  module _ {f : ℕ → ℕ} {w : List ℕ} {j : ℕ} (so_far : Storing f (mid_of a k h) 0 n w j) where
    pub range_reads : j < n → get_or w j 0 ≡ get_or h (a + j) 0
    range_reads lt = storing_reads_at so_far j (sym (zero-add j)) ∙ range_word j lt

    pub range_turn : (v : ℕ) → j < n → v ≡ f j → Storing f (mid_of a k h) 0 n (set w j v) (j + 1)
    range_turn v lt e = storing_turn_at so_far j (sym (zero-add j)) v lt e

    pub range_end : n ≤ j → put_mid a k h w ≡ stored f h a n
    range_end past =
        let words = storing_end so_far past in
        let long_w = so_far.same_length in
        range_stored f w (omega (arith, range_length))
        (λ i lt. ap (λ l. get_or l i 0) words ∙ stored_first f (mid_of a k h) n i (omega (arith, range_length)) lt)
