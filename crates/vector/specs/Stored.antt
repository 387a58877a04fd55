-- A range of a list written anew: what the loops of this crate do to the words that they are lent. The contracts cite
-- `stored`; `stored-inside`, `stored-outside` and `length-stored` say all of the list that a caller may ask.
use Rattle.std.specs.Prelude.{◌≡◌, ◌⊎◌, List, length, get_or, set}
use Rattle.std.proofs.Math.Path.{refl}
use Rattle.std.proofs.Common.{sym, ◌∙◌, ap, ap₂, subst, zero-add, add-zero, add-suc, add_assoc, eq-zero-or-pos, eq-or-lt_of_le, le_of_suc-le-suc, not-suc-le-zero, add-one, arith, get_or-set_same}
use Rattle.std.proofs.Math.Logic.{inl, inr, ⊎_elim}
use Prim.Native.Nat.{ℕ, zero, suc, ◌+◌, ◌-◌, ◌≤◌, ◌<◌}
use Rattle.std.proofs.Math.ListN.{length-set}
use Rattle.std.proofs.Math.Seq.{get_or-set_other}

-- l with f 0 .. f (n - 1) stored from the place d on
unfoldable pub stored : (ℕ → ℕ) → List ℕ → ℕ → ℕ → List ℕ
stored f l d zero = l
stored f l d (suc n) = set (stored f l d n) (d + n) (f n)

pub below_or_not : (a b : ℕ) → (a < b) ⊎ (b ≤ a)
below_or_not a b = ⊎_elim (λ z. inr (omega arith)) (λ z. inl (omega arith)) (eq-zero-or-pos (b - a))

module _ (f : ℕ → ℕ) (l : List ℕ) (d : ℕ) where
  pub length_stored : (n : ℕ) → length (stored f l d n) ≡ length l
  unfolding stored
  length_stored zero = refl
  length_stored (suc n) = length-set (stored f l d n) (d + n) (f n) ∙ length_stored n

  pub stored_inside : (n j : ℕ) → d + n ≤ length l → j < n → get_or (stored f l d n) (d + j) 0 ≡ f j
  unfolding stored
  stored_inside zero j room h = absurd (not-suc-le-zero h)
  stored_inside (suc n) j room h =
      ⊎_elim
      (λ e. rw e (get_or-set_same (stored f l d n) (d + n) (f n) 0 (rw length_stored (omega arith))))
      (λ lt. get_or-set_other (stored f l d n) (d + n) (d + j) (f n) 0 (λ q. omega arith) ∙ stored_inside n j (omega arith) lt)
      (eq-or-lt_of_le (le_of_suc-le-suc h))

  pub stored_outside : (n i : ℕ) → (i < d) ⊎ (d + n ≤ i) → get_or (stored f l d n) i 0 ≡ get_or l i 0
  unfolding stored
  stored_outside zero i out = refl
  stored_outside (suc n) i out =
      get_or-set_other (stored f l d n) (d + n) i (f n) 0 (λ e. ⊎_elim (λ lo. omega arith) (λ hi. omega arith) out)
      ∙ stored_outside n i (⊎_elim (λ lo. inl lo) (λ hi. inr (omega arith)) out)

  -- a loop that has stored nothing yet, and a turn of it
  pub stored_none : l ≡ stored f l d 0
  unfolding stored
  stored_none = refl

  pub stored_more : (j : ℕ) (w : List ℕ) (v : ℕ) → w ≡ stored f l d j → v ≡ f j → set w (d + j) v ≡ stored f l d (j + 1)
  unfolding stored
  stored_more j w v e ev = rw (add-one, e, ev)

  -- what is not stored yet is what stood there at the start
  pub stored_next : (j : ℕ) (w : List ℕ) (i : ℕ) → w ≡ stored f l d j → d + j ≤ i → get_or w i 0 ≡ get_or l i 0
  stored_next j w i e later = rw e (stored_outside j i (inr later))

-- the word at j of what is stored from the first place on
pub stored_first : (f : ℕ → ℕ) (l : List ℕ) (n j : ℕ) → n ≤ length l → j < n → get_or (stored f l 0 n) j 0 ≡ f j
stored_first f l n j room lt =
    subst (λ (i : ℕ). get_or (stored f l 0 n) i 0 ≡ f j) (zero-add j) (stored_inside f l 0 n j (omega arith) lt)

-- what holds of the words stored, and of the others, holds of all
pub stored_all : (P : ℕ → ℕ → Type 0) (f : ℕ → ℕ) (l l' : List ℕ) (d n : ℕ) → l' ≡ stored f l d n → d + n ≤ length l
    → ((j : ℕ) → j < n → P (d + j) (f j)) → ((i : ℕ) → (i < d) ⊎ (d + n ≤ i) → P i (get_or l i 0)) → (i : ℕ) → P i (get_or l' i 0)
stored_all P f l l' d n stores room inside outside i =
    ⊎_elim
    (λ lo. kept (inl lo))
    (λ from. ⊎_elim
    (λ lt.
    let place : d + (i - d) ≡ i = omega arith in
    let word = ap (λ w. get_or w (d + (i - d)) 0) stores ∙ stored_inside f l d n (i - d) room lt in
    subst (λ x. P x (get_or l' x 0)) place (subst (P (d + (i - d))) (sym word) (inside (i - d) lt)))
    (λ ge. kept (inr (omega arith)))
    (below_or_not (i - d) n))
    (below_or_not i d)
  where
    kept : (i < d) ⊎ (d + n ≤ i) → P i (get_or l' i 0)
    kept out = subst (P i) (sym (ap (λ w. get_or w i 0) stores ∙ stored_outside f l d n i out)) (outside i out)

-- the same of a range stored from the beginning
pub stored_all_first : (P : ℕ → ℕ → Type 0) (f : ℕ → ℕ) (l l' : List ℕ) (n : ℕ) → l' ≡ stored f l 0 n → n ≤ length l
    → ((j : ℕ) → j < n → P j (f j)) → ((i : ℕ) → n ≤ i → P i (get_or l i 0)) → (i : ℕ) → P i (get_or l' i 0)
stored_all_first P f l l' n stores room inside behind = stored_all P f l l' 0 n stores (omega arith)
    (λ j lt. subst (λ i. P i (f j)) (sym (zero-add j)) (inside j lt))
    (λ i out. behind i (⊎_elim (λ lo. absurd (omega arith)) (λ hi. omega arith) out))

-- a range stored right behind a range is one longer range
pub stored_behind : (f g : ℕ → ℕ) (l : List ℕ) (d j m : ℕ) → ((i : ℕ) → i < m → g i ≡ f (j + i))
    → stored g (stored f l d j) (d + j) m ≡ stored f l d (j + m)
unfolding stored
stored_behind f g l d j zero e = rw add-zero
stored_behind f g l d j (suc m) e =
    rw (add-suc, ← add_assoc, e m (omega arith), stored_behind f g l d j m (λ i lt. e i (omega arith)))

-- equal words are the same memory
pub stored_same : (f g : ℕ → ℕ) (l : List ℕ) (d n : ℕ) → ((i : ℕ) → i < n → f i ≡ g i) → stored f l d n ≡ stored g l d n
unfolding stored
stored_same f g l d zero same = refl
stored_same f g l d (suc n) same =
    ap₂ (λ w v. set w (d + n) v) (stored_same f g l d n (λ i h. same i (omega arith))) (same n (omega arith))
