-- The transposed level stored slot by slot, lane by lane: what each loop has stored, and which words it may leave out.
use Rattle.std.specs.Prelude.{ℕ, ◌+◌, ◌-◌, ◌*◌, ◌/◌, ◌%◌, ◌<◌, ◌≤◌, ◌≡◌, refl, List, length, get_or, set}
use Rattle.std.proofs.Common.{sym, ◌∙◌, ap, subst, arith, length-set, get_or-set_same, get_or-set_other}
use Rattle.std.proofs.Math.Decide.{dec_lt, ℕ_discrete}
use Rattle.vector.specs.Bound.{AtMost}
use Rattle.solve_lattice.specs.Memory.{height, Level, slot_size, tail_size, slot_inverse}
use Rattle.solve_lattice.specs.Room.{level_words, inverses_from, tail_sizes_from, sizes_from, slot_words, block_degrees, lanes, last_lane}
use Rattle.solve_lattice.specs.Room.{slot_degrees}
use Rattle.solve_second.specs.Greatest.{greatest, greatest_high, greatest_positive}
use Rattle.solve_second.specs.Words.{when, when_yes, when_no, reversed, lift, block_word, transposed_size, transposed_word}
use Rattle.solve_second.specs.Words.{size_beyond, size_empty, size_filled}
use Rattle.solve_second.specs.Words.{transposed_beyond, transposed_beside, transposed_tail, transposed_low, transposed_value}
use Rattle.solve_second.specs.Laid.{SlotsLaid}
use Rattle.solve_second.specs.Spread.{Spread, spread_same}
use Rattle.solve_second.specs.Filling.{Filling, LaneWord, stored_at, left_out, filling_start}
use Rattle.solve_second.specs.Filling.{filling_skip, filling_lane, filling_end}

-- slot, lane
abbrev pub transpose_rank : ℕ → ℕ
transpose_rank x = x / slot_words * lanes + (last_lane - x % lanes)

-- the turns below r are stored over what stood in o
abbrev pub Transposing : (L : Level) (n : ℕ) (o w : List ℕ) (r : ℕ) → Type 0
Transposing L n = Filling transpose_rank (transposed_word L n) sizes_from

-- the slots before k are stored, with their sizes and inverses
pub record SlotsSoFar (L : Level) (n : ℕ) (T : Level) (k : ℕ) : Type 0 where
  pub room : length T ≡ level_words
  pub words : Transposing L n T T (lanes * k)
  pub sizes : (j : ℕ) → j < lanes → slot_size T j ≡ when (dec_lt j k) (transposed_size L n j)
  pub tails : (j : ℕ) → j < lanes → tail_size T j ≡ 0
  pub inverses : (j : ℕ) → j < k → 0 < slot_size L (reversed n j) → slot_inverse T j ≡ slot_inverse L (reversed n j)

pub slots_start : (L : Level) (n : ℕ) (o : Level) → length o ≡ level_words → AtMost 0 o → SlotsSoFar L n o 0
slots_start L n o room none = record {
  room = room;
  words = filling_start o (omega arith) (λ x h. omega (arith, none x));
  sizes = λ j h. omega (arith, none (sizes_from + j)) ∙ sym (when_no (dec_lt j 0) _ (λ (g : j < 0). omega arith));
  tails = λ j h. omega (arith, none (tail_sizes_from + j));
  inverses = λ j h some. absurd (omega arith);
}

-- the slot and the lane that a turn is in
turn_slot : (x k i : ℕ) → i < lanes → transpose_rank x ≡ lanes * k + i → x / slot_words ≡ k
turn_slot x k i hi turn = go (last_lane - x % lanes) (x / slot_words) (omega arith) turn
  where
    go : (b a : ℕ) → b < lanes → a * lanes + b ≡ lanes * k + i → a ≡ k
    go b a hb e = omega arith

turn_lane : (x k i : ℕ) → i < lanes → transpose_rank x ≡ lanes * k + i → last_lane - x % lanes ≡ i
turn_lane x k i hi turn = omega (arith, turn_slot x k i hi turn)

place_turn : (x k i d : ℕ) → i < lanes → d < slot_degrees → x ≡ slot_words * k + (last_lane - i) + lanes * d
    → transpose_rank x ≡ lanes * k + i
place_turn x k i d hi hd place =
    let slot : x / slot_words ≡ k = omega arith in
    let lane : x % lanes ≡ last_lane - i = omega arith in
    omega arith

past_lane : (x k i l e : ℕ) → i < lanes → l + e < slot_degrees → l + e < x % slot_words / lanes
    → ¬ (x ≡ slot_words * k + (last_lane - i) + lanes * l + lanes * e)
past_lane x k i l e hi small past same = omega arith

module _ (L : Level) (n : ℕ) where
  filled : (k : ℕ) → k < n → n ≤ lanes → 0 < slot_size L (reversed n k) → (x : ℕ) → x / slot_words ≡ k
      → 0 < transposed_size L n (x / slot_words)
  filled k slot small some x here = subst (λ q. 0 < transposed_size L n q) (sym here)
      (omega (arith, size_filled L n k slot some, greatest_positive L n (reversed n k) (omega arith) some))

module _ (L : Level) (n : ℕ) where
  -- the slots from n on are empty
  pub slots_end : {T : Level} → SlotsSoFar L n T n → n ≤ lanes → SlotsLaid n L T
  slots_end {T} so_far small = record {
    room = so_far.room;
    words = filling_end (filling_skip so_far.words (lanes * lanes) (omega arith) rest) (λ x h. omega arith);
    sizes = λ k h. so_far.sizes k h ∙ size k (dec_lt k n);
    tails = so_far.tails;
    inverses = so_far.inverses;
  }
    where
      rest : (x : ℕ) → x < sizes_from → lanes * n ≤ transpose_rank x → transpose_rank x < lanes * lanes → transposed_word L n x ≡ 0
      rest x h low high = transposed_beyond L n x
          (λ (g : 0 < transposed_size L n (x / slot_words)). omega
          (arith, size_beyond L n (x / slot_words) (λ (l : x / slot_words < n). omega arith)))

      size : (k : ℕ) (d : Dec (k < n)) → when d (transposed_size L n k) ≡ transposed_size L n k
      size k (yes l) = when_yes (yes l) (transposed_size L n k) l
      size k (no l) = when_no (no l) (transposed_size L n k) l ∙ sym (size_beyond L n k l)

  module _ (k : ℕ) (slot : k < n) where
    -- the sizes before k + 1, where that of slot k is v
    size_turn : {v : ℕ} → v ≡ transposed_size L n k → (j m : ℕ) → (¬ (j ≡ k) → m ≡ when (dec_lt j k) (transposed_size L n j))
        → (j ≡ k → m ≡ v) → m ≡ when (dec_lt j (k + 1)) (transposed_size L n j)
    size_turn {v} ev j m other here = go (ℕ_discrete j k) (dec_lt j k) (dec_lt j (k + 1)) other
      where
        go : Dec (j ≡ k) → (d : Dec (j < k)) (d' : Dec (j < k + 1)) → (¬ (j ≡ k) → m ≡ when d (transposed_size L n j))
            → m ≡ when d' (transposed_size L n j)
        go (yes e) d d' was = here e ∙ ev ∙ ap (transposed_size L n) (sym e) ∙ sym (when_yes d' (transposed_size L n j) (omega arith))
        go (no e) (yes l) d' was = was e ∙ when_yes (yes l) _ l ∙ sym (when_yes d' (transposed_size L n j) (omega arith))
        go (no e) (no l) d' was =
            was e ∙ when_no (no l) _ l ∙ sym (when_no d' (transposed_size L n j) (λ (g : j < k + 1). omega arith))

    -- slot k is empty
    pub slots_empty : {T : Level} → SlotsSoFar L n T k → ¬ (0 < slot_size L (reversed n k)) → SlotsSoFar L n T (k + 1)
    slots_empty {T} so_far none = record {
      room = so_far.room;
      words = filling_skip so_far.words (lanes * (k + 1)) (omega arith) rest;
      sizes = λ j h. size_turn (sym (size_empty L n k slot none)) j (slot_size T j) (λ _. so_far.sizes j h)
          (λ e. so_far.sizes j h ∙ when_no (dec_lt j k) _ (λ (g : j < k). omega arith));
      tails = so_far.tails;
      inverses = λ j h some. so_far.inverses j (before j h some (ℕ_discrete j k)) some;
    }
      where
        rest : (x : ℕ) → x < sizes_from → lanes * k ≤ transpose_rank x → transpose_rank x < lanes * (k + 1) → transposed_word L n x ≡ 0
        rest x h low high = transposed_beyond L n x
            (λ (g : 0 < transposed_size L n (x / slot_words)).
            let here : x / slot_words ≡ k = omega arith in
            omega (arith, ap (transposed_size L n) here, size_empty L n k slot none))

        before : (j : ℕ) → j < k + 1 → 0 < slot_size L (reversed n j) → Dec (j ≡ k) → j < k
        before j h some (yes e) = absurd (none (subst (λ m. 0 < slot_size L (reversed n m)) e some))
        before j h some (no e) = omega arith

    module _ (some : 0 < slot_size L (reversed n k)) (small : n ≤ lanes) where
      -- slot k is filled: the lanes from n on are 0, and its size and its inverse are stored
      module _ {T w : Level} (so_far : SlotsSoFar L n T k) (transposing : Transposing L n T w (lanes * k + n)) {t : ℕ}
          (et : t ≡ greatest L n)
          {i : ℕ} (ei : i ≡ slot_inverse L (reversed n k)) where
        abbrev w₁ : Level
        w₁ = set w (sizes_from + k) (lanes * t - k)

        abbrev T' : Level
        T' = set (set w (sizes_from + k) (lanes * t - k)) (inverses_from + k) i

        same_length : length T' ≡ length T
        same_length = length-set w₁ (inverses_from + k) i ∙ length-set w (sizes_from + k) (lanes * t - k) ∙ transposing.same_length

        other : (x : ℕ) → ¬ (x ≡ sizes_from + k) → ¬ (x ≡ inverses_from + k) → get_or T' x 0 ≡ get_or w x 0
        other x a b = get_or-set_other w₁ (inverses_from + k) x i 0 b ∙ get_or-set_other w (sizes_from + k) x (lanes * t - k) 0 a

        kept : (x : ℕ) → sizes_from ≤ x → ¬ (x ≡ sizes_from + k) → ¬ (x ≡ inverses_from + k) → get_or T' x 0 ≡ get_or T x 0
        kept x ge a b = other x a b ∙ transposing.beyond x ge

        rest : (x : ℕ) → x < sizes_from → lanes * k + n ≤ transpose_rank x → transpose_rank x < lanes * (k + 1)
            → transposed_word L n x ≡ 0
        rest x h low high =
            let at : x / slot_words ≡ k = omega arith in
            transposed_beside L n x (filled L n k slot small some x at) (λ (g : last_lane - x % lanes < n). omega arith)

        whole : Transposing L n T w (lanes * (k + 1))
        whole = filling_skip transposing (lanes * (k + 1)) (omega arith) rest

        size : slot_size T' k ≡ lanes * t - k
        size = get_or-set_other w₁ (inverses_from + k) (sizes_from + k) i 0 (λ e. omega arith)
            ∙ get_or-set_same w (sizes_from + k) (lanes * t - k) 0 (omega (arith, transposing.same_length, so_far.room))

        inverse : (j : ℕ) → j < k + 1 → 0 < slot_size L (reversed n j) → Dec (j ≡ k) → slot_inverse T' j ≡ slot_inverse L
            (reversed n j)
        inverse j h filled_there (yes e) =
            ap (slot_inverse T') e
            ∙ get_or-set_same w₁ (inverses_from + k) i 0 (omega
            (arith, length-set w (sizes_from + k) (lanes * t - k), transposing.same_length, so_far.room))
            ∙ ei ∙ ap (λ m. slot_inverse L (reversed n m)) (sym e)
        inverse j h filled_there (no e) = kept (inverses_from + j) (omega arith) (λ f. omega arith) (λ f. omega arith)
            ∙ so_far.inverses j (omega arith) filled_there

        pub slots_filled : SlotsSoFar L n (set (set w (sizes_from + k) (lanes * t - k)) (inverses_from + k) i) (k + 1)
        slots_filled = record {
          room = same_length ∙ so_far.room;
          words = record {
            room = omega (arith, same_length, so_far.room);
            same_length = refl;
            words = λ x h. other x (λ e. omega arith) (λ e. omega arith) ∙ whole.words x h;
            beyond = λ x h. refl;
          };
          sizes = λ j h. size_turn (ap (λ m. lanes * m - k) et ∙ sym (size_filled L n k slot some)) j (slot_size T' j)
              (λ apart. kept (sizes_from + j) (omega arith) (λ e. apart (omega arith)) (λ e. omega arith) ∙ so_far.sizes j h)
              (λ e. ap (slot_size T') e ∙ size);
          tails = λ j h. kept (tail_sizes_from + j) (omega arith) (λ e. omega arith) (λ e. omega arith) ∙ so_far.tails j h;
          inverses = λ j h filled_there. inverse j h filled_there (ℕ_discrete j k);
        }

      -- lane i: below the lift and in the tail it is 0
      pub transposing_lane : greatest L n ≤ block_degrees → (i : ℕ) → i < n → {o w : List ℕ} → Transposing L n o w (lanes * k + i)
          → {top : ℕ}
          → top ≡ greatest L n → {w' : List ℕ} → Spread (λ e. block_word L (reversed n i) (reversed n k) e)
          (slot_words * k + (last_lane - i) + lanes * (top - height (slot_size L (reversed n i))))
          (height (slot_size L (reversed n i))) w w'
          → Transposing L n o w' (lanes * k + (i + 1))
      transposing_lane small_top i lane {o} so_far et {w'} spread =
          subst (Filling transpose_rank (transposed_word L n) sizes_from o w') (omega arith)
          (filling_lane so_far (spread_same spread (λ e. block_word L (reversed n i) (reversed n k) e) (λ e lt. refl)
          (ap (λ t. slot_words * k + (last_lane - i) + lanes * (t - height (slot_size L (reversed n i)))) et) refl) places word)
        where
          high : height (slot_size L (reversed n i)) ≤ greatest L n
          high = greatest_high L n (reversed n i) (omega arith)

          within : (e : ℕ) → e < height (slot_size L (reversed n i)) → lift L n i + e < slot_degrees
          within e lt = omega (arith, high)

          beyond : (e : ℕ) → e < height (slot_size L (reversed n i)) → {d : ℕ} → ¬ (d < greatest L n) → lift L n i + e < d
          beyond e lt past = omega (arith, high)

          places : (e : ℕ) → e < height (slot_size L (reversed n i))
              → (slot_words * k + (last_lane - i) + lanes * lift L n i + lanes * e < sizes_from)
              × (transpose_rank (slot_words * k + (last_lane - i) + lanes * lift L n i + lanes * e) ≡ lanes * k + i)
          places e lt = (omega (arith, high), place_turn _ k i (lift L n i + e) (omega arith) (omega (arith, high)) (omega arith))

          word : (x : ℕ) → x < sizes_from → transpose_rank x ≡ lanes * k + i
              → LaneWord (transposed_word L n) (λ e. block_word L (reversed n i) (reversed n k) e)
              (slot_words * k + (last_lane - i) + lanes * lift L n i) (height (slot_size L (reversed n i))) x
          word x h turn = go (dec_lt (x % slot_words / lanes) (lift L n i)) (dec_lt (x % slot_words / lanes) (greatest L n))
            where
              at : x / slot_words ≡ k
              at = turn_slot x k i (omega arith) turn

              here : last_lane - x % lanes ≡ i
              here = turn_lane x k i (omega arith) turn

              some_there : 0 < transposed_size L n (x / slot_words)
              some_there = filled L n k slot small some x at

              go : Dec (x % slot_words / lanes < lift L n i) → Dec (x % slot_words / lanes < greatest L n)
                  → LaneWord (transposed_word L n) (λ e. block_word L (reversed n i) (reversed n k) e)
                  (slot_words * k + (last_lane - i) + lanes * lift L n i) (height (slot_size L (reversed n i))) x
              go (yes low) d = left_out (λ e lt same. omega (arith, at, here))
                  (transposed_low L n x some_there (omega (arith, here)) (omega arith)
                  (λ (g : lift L n (last_lane - x % lanes) ≤ x % slot_words / lanes). omega (arith, ap (lift L n) here)))
              go (no from) (yes below) = stored_at (x % slot_words / lanes - lift L n i) (omega (arith, high))
                  (omega (arith, at, here))
                  (transposed_value L n x some_there (omega (arith, here)) (omega arith)
                  (subst (λ j. lift L n j ≤ x % slot_words / lanes) (sym here) (omega arith))
                  ∙ ap (λ j. block_word L (reversed n j) (reversed n (x / slot_words)) (x % slot_words / lanes - lift L n j)) here
                  ∙ ap (λ m. block_word L (reversed n i) (reversed n m) (x % slot_words / lanes - lift L n i)) at)
              go (no from) (no past) =
                  left_out (λ e lt same. past_lane x k i (lift L n i) e (omega arith) (within e lt) (beyond e lt past) same)
                  (transposed_tail L n x some_there (omega (arith, here))
                  (λ (g : x % slot_words < lanes * greatest L n). omega arith))
