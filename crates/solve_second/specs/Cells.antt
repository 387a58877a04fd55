-- The words of the transposed level and of the right side as laid out, by slot, coordinate and degree.
use Rattle.std.specs.Prelude.{ℕ, ◌+◌, ◌-◌, ◌*◌, ◌/◌, ◌%◌, ◌<◌, ◌≤◌, ◌≡◌, List, get_or}
use Rattle.std.proofs.Common.{sym, ◌∙◌, ap, subst, subst₂, arith}
use Rattle.std.proofs.Math.Decide.{dec_lt}
use Rattle.reduction.specs.Flat.{flat}
use Rattle.reduction.specs.Transpose.{back}
use Rattle.solve_lattice.specs.Memory.{height, Level, slot_size}
use Rattle.solve_lattice.specs.Room.{block_words, slot_words, block_degrees, lanes, last_lane, product_degrees}
use Rattle.solve_second.specs.Greatest.{greatest}
use Rattle.solve_second.specs.Words.{reversed, lift, transposed_size, block_word, tail_word}
use Rattle.solve_second.specs.Words.{transposed_word, transposed_beyond, transposed_beside}
use Rattle.solve_second.specs.Words.{transposed_tail, transposed_low, transposed_value}
use Rattle.solve_second.specs.Laid.{SlotsLaid, SecondLaid}
use Rattle.solve_second.specs.Words.{side_word, side_beside, side_empty, side_low, side_far, side_value}

-- the weight of coordinate i, by the size of the slot that it comes from
abbrev pub weight : (L : Level) (n i : ℕ) → ℕ
weight L n i = greatest L n - height (slot_size L (back n i))

module _ (L : Level) (n : ℕ) where
  same : (i : ℕ) → reversed n i ≡ back n i
  same i = omega arith

  lift_weight : (i : ℕ) → lift L n i ≡ weight L n i
  lift_weight i = ap (λ q. greatest L n - height (slot_size L q)) (same i)

  -- slot k, coordinate i, degree e of the transposed slots
  module _ {T : Level} (laid : SlotsLaid n L T) (k i e : ℕ) (slot : k < lanes) (lane : i < lanes) (degree : e < block_degrees) where
    abbrev x : ℕ
    x = slot_words * k + flat lanes i e

    at_slot : x / slot_words ≡ k
    at_slot = omega arith

    at_lane : last_lane - x % lanes ≡ i
    at_lane = omega arith

    at_degree : x % slot_words / lanes ≡ e
    at_degree = omega arith

    in_block : e < greatest L n → x % slot_words < lanes * greatest L n
    in_block under = omega arith

    stored_word : get_or T (slot_words * k + flat lanes i e) 0 ≡ transposed_word L n x
    stored_word = laid.words x (omega arith)

    pub cell_beside : 0 < transposed_size L n k → n ≤ i → get_or T (slot_words * k + flat lanes i e) 0 ≡ 0
    cell_beside h out = stored_word
        ∙ transposed_beside L n x (subst (λ m. 0 < transposed_size L n m) (sym at_slot) h)
        (λ (g : last_lane - x % lanes < n). omega (arith, at_lane))

    pub cell_empty : transposed_size L n k ≡ 0 → get_or T (slot_words * k + flat lanes i e) 0 ≡ 0
    cell_empty none = stored_word
        ∙ transposed_beyond L n x (λ (g : 0 < transposed_size L n (x / slot_words)). omega (arith, ap (transposed_size L n) at_slot))

    module _ (h : 0 < transposed_size L n k) (l : i < n) where
      at_filled : 0 < transposed_size L n (x / slot_words)
      at_filled = subst (λ m. 0 < transposed_size L n m) (sym at_slot) h

      pub cell_low : e < weight L n i → get_or T (slot_words * k + flat lanes i e) 0 ≡ 0
      cell_low low = stored_word
          ∙ transposed_low L n x at_filled (omega (arith, at_lane)) (in_block (omega arith))
          (λ (g : lift L n (last_lane - x % lanes) ≤ x % slot_words / lanes).
          let g' : lift L n i ≤ e = subst₂ (λ j m. lift L n j ≤ m) at_lane at_degree g in
          omega (arith, lift_weight i))

      pub cell_value : weight L n i ≤ e → e < greatest L n → get_or T (slot_words * k + flat lanes i e) 0
          ≡ get_or L (slot_words * back n i + flat lanes (back n k) (e - weight L n i)) 0
      cell_value here under =
          stored_word
          ∙ transposed_value L n x at_filled (omega (arith, at_lane)) (in_block under)
          (subst₂ (λ j m. lift L n j ≤ m) (sym at_lane) (sym at_degree) (omega (arith, lift_weight i)))
          ∙ ap (λ j. block_word L (reversed n j) (reversed n (x / slot_words)) (x % slot_words / lanes - lift L n j)) at_lane
          ∙ ap (λ m. block_word L (reversed n i) (reversed n m) (x % slot_words / lanes - lift L n i)) at_slot
          ∙ ap (λ m. block_word L (reversed n i) (reversed n k) (m - lift L n i)) at_degree
          ∙ ap (λ m. block_word L (reversed n i) (reversed n k) (e - m)) (lift_weight i)
          ∙ ap (λ y. get_or L y 0) place
        where
          place : slot_words * reversed n i + lanes * (e - weight L n i) + (last_lane - reversed n k)
              ≡ slot_words * back n i + flat lanes (back n k) (e - weight L n i)
          place = places (same i) (same k)
            where
              places : {a b c d : ℕ} → a ≡ b → c ≡ d
                  → slot_words * a + lanes * (e - weight L n i) + (last_lane - c) ≡ slot_words * b + flat lanes d (e - weight L n i)
              places u v = omega arith

  -- behind the greatest height all words are 0
  pub cell_behind : {T : Level} → SlotsLaid n L T → (k j : ℕ) → k < lanes → lanes * greatest L n ≤ j → j < slot_words
      → get_or T (slot_words * k + j) 0 ≡ 0
  cell_behind laid k j h past lt =
      laid.words y (omega arith) ∙ go (dec_lt 0 (transposed_size L n (y / slot_words))) (dec_lt (last_lane - y % lanes) n)
    where
      y : ℕ
      y = slot_words * k + j

      go : Dec (0 < transposed_size L n (y / slot_words)) → Dec (last_lane - y % lanes < n) → transposed_word L n y ≡ 0
      go (yes f) (yes l) = transposed_tail L n y f l (λ (g : y % slot_words < lanes * greatest L n). omega arith)
      go (yes f) (no l) = transposed_beside L n y f l
      go (no f) l = transposed_beyond L n y f

  -- so the tails of the transposed slots are 0
  pub cell_tail : greatest L n ≤ block_degrees → {T : Level} → SlotsLaid n L T → (k j : ℕ) → k < lanes → j < block_words
      → get_or T (slot_words * k + block_words + j) 0 ≡ 0
  cell_tail low {T} laid k j h lt =
      let here : slot_words * k + block_words + j ≡ slot_words * k + (block_words + j) = omega arith in
      ap (λ x. get_or T x 0) here
      ∙ cell_behind laid k (block_words + j) h (omega arith) (omega arith)

  -- coordinate i, degree e of the right side
  module _ {T : Level} {b : List ℕ} (laid : SecondLaid n L T b) (i e : ℕ) (lane : i < lanes) (degree : e < product_degrees) where
    abbrev y : ℕ
    y = flat lanes i e

    side_lane : last_lane - y % lanes ≡ i
    side_lane = omega arith

    side_degree : y / lanes ≡ e
    side_degree = omega arith

    side_stored : get_or b (flat lanes i e) 0 ≡ side_word L n y
    side_stored = laid.side y (omega arith)

    slot_at : slot_size L (reversed n (last_lane - y % lanes)) ≡ slot_size L (back n i)
    slot_at = ap (λ j. slot_size L (reversed n j)) side_lane ∙ ap (λ q. slot_size L q) (same i)

    weight_at : lift L n (last_lane - y % lanes) ≡ weight L n i
    weight_at = ap (lift L n) side_lane ∙ lift_weight i

    pub side_cell_beside : n ≤ i → get_or b (flat lanes i e) 0 ≡ 0
    side_cell_beside out = side_stored ∙ side_beside L n y (λ (g : last_lane - y % lanes < n). omega (arith, side_lane))

    module _ (l : i < n) where
      inside : last_lane - y % lanes < n
      inside = omega (arith, side_lane)

      pub side_cell_empty : slot_size L (back n i) ≡ 0 → get_or b (flat lanes i e) 0 ≡ 0
      side_cell_empty none = side_stored
          ∙ side_empty L n y inside (λ (g : 0 < slot_size L (reversed n (last_lane - y % lanes))). omega (arith, slot_at))

      module _ (some : 0 < slot_size L (back n i)) where
        filled : 0 < slot_size L (reversed n (last_lane - y % lanes))
        filled = omega (arith, slot_at)

        pub side_cell_low : e < weight L n i → get_or b (flat lanes i e) 0 ≡ 0
        side_cell_low low = side_stored
            ∙ side_low L n y inside filled
            (λ (g : lift L n (last_lane - y % lanes) ≤ y / lanes).
            let g' : weight L n i ≤ e = subst₂ (λ a b. a ≤ b) weight_at side_degree g in
            omega arith)

        module _ (here : weight L n i ≤ e) where
          from : lift L n (last_lane - y % lanes) ≤ y / lanes
          from = subst₂ (λ a b. a ≤ b) (sym weight_at) (sym side_degree) here

          pub side_cell_far : block_words ≤ e - weight L n i → get_or b (flat lanes i e) 0 ≡ 0
          side_cell_far far = side_stored
              ∙ side_far L n y inside filled from
              (λ (g : y / lanes - lift L n (last_lane - y % lanes) < block_words).
              let g' : e - weight L n i < block_words = subst₂ (λ a b. b - a < block_words) weight_at side_degree g in
              omega arith)

          pub side_cell_value : e - weight L n i < block_words → get_or b (flat lanes i e) 0
              ≡ get_or L (slot_words * back n i + block_words + (e - weight L n i)) 0
          side_cell_value near =
              side_stored
              ∙ side_value L n y inside filled from
              (subst₂ (λ a b. b - a < block_words) (sym weight_at) (sym side_degree) near)
              ∙ ap (λ q. tail_word L q (y / lanes - lift L n (last_lane - y % lanes))) (ap (reversed n) side_lane ∙ same i)
              ∙ ap (λ a. tail_word L (back n i) (y / lanes - a)) weight_at
              ∙ ap (λ b. tail_word L (back n i) (b - weight L n i)) side_degree
