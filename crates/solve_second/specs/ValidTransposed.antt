-- The transposed slots in memory are in order: their pivots are in place, and the leading words are those of the level.
use Rattle.std.specs.Prelude.{ℕ, ◌+◌, ◌-◌, ◌*◌, ◌/◌, ◌%◌, ◌<◌, ◌≤◌, ◌≡◌, List, get_or}
use Rattle.std.proofs.Common.{sym, ◌∙◌, ap, subst, ⊎_elim, arith}
use Rattle.std.proofs.Math.Nat.{zero-mod}
use Rattle.std.proofs.Math.Decide.{dec_lt}
use Rattle.std.proofs.Math.ListN.{get_or-eq_default}
use Rattle.modular.specs.Modulo.{modulo}
use Rattle.reduction.specs.Flat.{flat}
use Rattle.reduction.specs.Transpose.{back}
use Rattle.vector.specs.Stored.{below_or_not}
use Rattle.solve_lattice.specs.Memory.{row, height, ZeroFrom, Level, slot_size, tail_size, slot_inverse, ValidSlot, ValidLevel}
use Rattle.solve_lattice.specs.Room.{sizes_from, product_words, block_words, slot_words, block_degrees, lanes, last_lane}
use Rattle.solve_second.specs.Greatest.{greatest, greatest_high, greatest_small, greatest_positive}
use Rattle.solve_second.specs.Words.{when, when_yes, when_no, reversed, transposed_word, transposed_size, side_word}
use Rattle.solve_second.specs.Words.{size_beyond, size_empty, size_filled}
use Rattle.solve_second.specs.Laid.{SlotsLaid, SecondLaid}
use Rattle.solve_second.specs.Cells.{weight, cell_empty, cell_low, cell_value, cell_behind, cell_tail}

-- the last word of a block, and the words of its highest degree in the lanes of coordinates before its pivot
last_place : (top size q : ℕ) → 0 < size → height size ≤ top → row size ≡ q
    → flat lanes q (top - 1 - (top - height size)) ≡ size - 1
last_place top size q some most pivot =
    let e : top - 1 - (top - height size) ≡ (size - 1) / lanes = omega arith in
    ap (flat lanes q) e ∙ omega arith

later_place : (top size q r : ℕ) → 0 < size → height size ≤ top → row size ≡ q → q < lanes → r < q
    → size ≤ flat lanes r (top - 1 - (top - height size))
later_place top size q r some most pivot lane before =
    let e = last_place top size q some most pivot in
    let m : ℕ = top - 1 - (top - height size) in
    go m e
  where
    go : (m : ℕ) → flat lanes q m ≡ size - 1 → size ≤ flat lanes r m
    go m e = omega arith

-- a place in a block
place_below : (q e d r : ℕ) → q ≤ last_lane → e < block_degrees → slot_words * q + lanes * (e - d) + (last_lane - r) < sizes_from
place_below q e d r in_level degree = omega arith

pub when_below : {P : Type 0} (p : ℕ) → 0 < p → (d : Dec P) (v : ℕ) → (P → v < p) → when d v < p
when_below p positive (yes h) v lt = subst (λ w. w < p) (sym (when_yes (yes h) v h)) (lt h)
when_below p positive (no h) v lt = subst (λ w. w < p) (sym (when_no (no h) v h)) positive

module _ (p : ℕ) (positive : 0 < p) {n : ℕ} (small : n ≤ lanes) {L : Level} (valid : ValidLevel p L) {T : Level}
    (laid : SlotsLaid n L T) where
  -- the height of the transposed slots
  abbrev high : ℕ
  high = greatest L n

  low : greatest L n ≤ block_degrees
  low = greatest_small L n small (λ q h. (valid.slot q h).block.within)

  word_below : (x : ℕ) → x < sizes_from → transposed_word L n x < p
  word_below x lt = when_below p positive _ _ (λ _. when_below p positive _ _ (λ _. when_below p positive _ _
      (λ inside. when_below p positive _ _ (λ _. valid.below _
      (place_below _ _ _ _ (omega arith) (omega (arith, low)))))))

  module _ (k : ℕ) (in_level : k < lanes) where
    size_at : slot_size T k ≡ transposed_size L n k
    size_at = laid.sizes k in_level

    tail_at : tail_size T k ≡ 0
    tail_at = laid.tails k in_level

    tail_zero : ZeroFrom p T (slot_words * k + block_words) block_words (tail_size T k)
    tail_zero j h lt = ap (λ w. w % p) (cell_tail L n low laid k j in_level lt) ∙ zero-mod p

    -- an empty slot
    module _ (none : transposed_size L n k ≡ 0) where
      word_zero : (j : ℕ) → j < block_words → get_or T (slot_words * k + j) 0 ≡ 0
      word_zero j lt =
          let here : j ≡ flat lanes (last_lane - j % lanes) (j / lanes) = omega arith in
          ap (λ m. get_or T (slot_words * k + m) 0) here
          ∙ cell_empty L n laid k (last_lane - j % lanes) (j / lanes) in_level (omega arith) (omega arith) none

      slot_empty : ValidSlot p T k
      slot_empty = record {
        block = record {
          within = omega (arith, size_at);
          last = λ some. absurd (omega (arith, size_at));
          behind = λ j h lt. ap (λ w. w % p) (word_zero j lt) ∙ zero-mod p;
        };
        pivot = λ some. absurd (omega (arith, size_at));
        inverse = λ some. absurd (omega (arith, size_at));
        tail_within = omega (arith, tail_at);
        tail = tail_zero;
      }

    -- a slot whose pivot is at k
    module _ (h : k < n) (some : 0 < slot_size L (reversed n k)) where
      q : ℕ
      q = back n k

      same : slot_size L (reversed n k) ≡ slot_size L (back n k)
      same = ap (λ m. slot_size L m) (omega arith)

      size_is : transposed_size L n k ≡ lanes * high - k
      size_is = size_filled L n k h some

      tall : 0 < high
      tall = greatest_positive L n (reversed n k) (omega arith) some

      full : 0 < transposed_size L n k
      full = omega (arith, size_is, tall)

      slot : ValidSlot p L (back n k)
      slot = valid.slot (back n k) (omega arith)

      within : height (slot_size L (back n k)) ≤ high
      within = greatest_high L n (back n k) (omega arith)

      filled : 0 < slot_size L (back n k)
      filled = omega (arith, same)

      -- its leading word is that of slot n - 1 - k of the level
      top : weight L n k ≤ high - 1
      top = omega (arith, filled)

      leading_place : flat lanes (back n k) (high - 1 - weight L n k) ≡ slot_size L (back n k) - 1
      leading_place = last_place high (slot_size L (back n k)) (back n k) filled within (slot.pivot filled)

      leading_word : get_or T (slot_words * k + (slot_size T k - 1)) 0 ≡ get_or L (slot_words * back n k + (slot_size L (back n k) - 1)) 0
      leading_word =
          let here : slot_size T k - 1 ≡ flat lanes k (high - 1) = omega (arith, size_at, size_is, tall) in
          ap (λ m. get_or T (slot_words * k + m) 0) here
          ∙ cell_value L n laid k k (high - 1) in_level in_level (omega (arith, low)) full h top (omega (arith, tall))
          ∙ ap (λ m. get_or L (slot_words * back n k + m) 0) leading_place

      -- coordinates before k are shorter: in the level they come behind the pivot of their slot
      behind : ZeroFrom p T (slot_words * k) block_words (slot_size T k)
      behind j ge lt = ⊎_elim
          (λ near.
          let here : j ≡ flat lanes (lanes * high - 1 - j) (high - 1) = omega (arith, size_at, size_is, tall) in
          ap (λ m. get_or T (slot_words * k + m) 0 % p) here
          ∙ go (lanes * high - 1 - j) (omega (arith, size_at, size_is)) (dec_lt (high - 1) (weight L n (lanes * high - 1 - j))))
          (λ past. ap (λ w. w % p) (cell_behind L n laid k j in_level past (omega arith)) ∙ zero-mod p)
          (below_or_not j (lanes * high))
        where
          go : (i : ℕ) → i < k → Dec (high - 1 < weight L n i) → get_or T (slot_words * k + flat lanes i (high - 1)) 0 % p ≡ 0
          go i l (yes short) =
              ap (λ w. w % p)
              (cell_low L n laid k i (high - 1) in_level (omega arith) (omega (arith, low)) full (omega arith) short)
              ∙ zero-mod p
          go i l (no long) =
              let other = valid.slot (back n i) (omega arith) in
              let most : height (slot_size L (back n i)) ≤ high = greatest_high L n (back n i) (omega arith) in
              let some_there : 0 < slot_size L (back n i) = omega (arith, tall) in
              let place : slot_size L (back n i) ≤ flat lanes (back n k) (high - 1 - weight L n i) =
              later_place high (slot_size L (back n i)) (back n i) (back n k) some_there most (other.pivot some_there)
              (omega arith) (omega arith) in
              ap (λ w. w % p) (cell_value L n laid k i (high - 1) in_level (omega arith) (omega (arith, low)) full (omega arith)
              (omega arith) (omega (arith, tall)))
              ∙ other.block.behind (flat lanes (back n k) (high - 1 - weight L n i)) place (omega (arith, low))

      slot_filled : ValidSlot p T k
      slot_filled = record {
        block = record {
          within = omega (arith, size_at, size_is, low);
          last = λ _. subst (λ w. 0 < w % p) (sym leading_word) (slot.block.last filled);
          behind = behind;
        };
        pivot = λ _. omega (arith, size_at, size_is, tall);
        inverse = λ _.
            laid.inverses k h some ∙ ap (slot_inverse L) (omega arith) ∙ slot.inverse filled ∙ ap (modulo p).inverse
            (sym leading_word);
        tail_within = omega (arith, tail_at);
        tail = tail_zero;
      }

    slot_valid : Dec (k < n) → Dec (0 < slot_size L (reversed n k)) → ValidSlot p T k
    slot_valid (no out) d = slot_empty (size_beyond L n k out)
    slot_valid (yes h) (no none) = slot_empty (size_empty L n k h none)
    slot_valid (yes h) (yes some) = slot_filled h some

  pub transposed_valid : ValidLevel p T
  transposed_valid = record {
    room = omega (arith, laid.room);
    below = λ i lt. subst (λ w. w < p) (sym (laid.words i lt)) (word_below i lt);
    slot = λ k h. slot_valid k h (dec_lt k n) (dec_lt 0 (slot_size L (reversed n k)));
  }

-- and the words of the right side are residues
module _ (p : ℕ) {n : ℕ} (small : n ≤ lanes) {L : Level} (valid : ValidLevel p L) {T : Level} {b : List ℕ}
    (laid : SecondLaid n L T b) where
  positive : 0 < p
  positive = omega (arith, valid.below 0 (omega arith))

  side_word_lem : (x : ℕ) → side_word L n x < p
  side_word_lem x = when_below p positive _ _ (λ _. when_below p positive _ _ (λ _. when_below p positive _ _
      (λ _. when_below p positive _ _ (λ near. valid.below _ (omega arith)))))

  pub second_side_below : (i : ℕ) → get_or b i 0 < p
  second_side_below i = ⊎_elim
      (λ lt. subst (λ w. w < p) (sym (laid.side i lt)) (side_word_lem i))
      (λ ge. subst (λ w. w < p) (sym (get_or-eq_default b 0 (omega (arith, laid.room)))) positive)
      (below_or_not i product_words)
