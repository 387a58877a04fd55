-- The right side stored lane by lane: what each loop has stored, and which words it may leave out.
use Rattle.std.specs.Prelude.{ℕ, ◌+◌, ◌-◌, ◌*◌, ◌/◌, ◌%◌, ◌<◌, ◌≤◌, ◌≡◌, refl, List, length, get_or}
use Rattle.std.proofs.Common.{sym, ◌∙◌, ap, subst, subst₂, arith, mod-eq_of_lt}
use Rattle.std.proofs.Math.Decide.{dec_lt}
use Rattle.vector.specs.Bound.{AtMost}
use Rattle.solve_lattice.specs.Memory.{height, Level, slot_size, tail_size, ValidLevel}
use Rattle.solve_lattice.specs.Room.{product_words, block_words, slot_words, block_degrees, lanes, last_lane, most_coefficients}
use Rattle.solve_second.specs.Greatest.{greatest}
use Rattle.solve_second.specs.Words.{reversed, lift, tail_word, side_word, side_beside, side_empty}
use Rattle.solve_second.specs.Words.{side_low, side_far, side_value}
use Rattle.solve_second.specs.Spread.{Spread, spread_same}
use Rattle.solve_second.specs.Filling.{Filling, LaneWord, stored_at, left_out, filling_start}
use Rattle.solve_second.specs.Filling.{filling_skip, filling_lane, filling_end}

-- behind their sizes the tails of a level are 0
pub record TailsEnd (L : Level) : Type 0 where
  pub short : (q : ℕ) → q < lanes → tail_size L q ≤ most_coefficients
  pub zero : (q j : ℕ) → q < lanes → tail_size L q ≤ j → j < block_words → tail_word L q j ≡ 0

pub tails_end : {p : ℕ} {L : Level} → ValidLevel p L → TailsEnd L
tails_end {p} {L} valid = record {
  short = λ q h. (valid.slot q h).tail_within;
  zero = λ q j h ge lt. sym (mod-eq_of_lt (valid.below (slot_words * q + block_words + j) (omega arith)))
      ∙ (valid.slot q h).tail j ge lt;
}

-- a lane a turn
abbrev pub side_rank : ℕ → ℕ
side_rank x = last_lane - x % lanes

abbrev pub SideFilling : (L : Level) (n : ℕ) (o w : List ℕ) (r : ℕ) → Type 0
SideFilling L n = Filling side_rank (side_word L n) product_words

pub side_filling_start : (L : Level) (n : ℕ) (o : List ℕ) → length o ≡ product_words → AtMost 0 o → SideFilling L n o o 0
side_filling_start L n o room none = filling_start o (omega arith) (λ x h. omega (arith, none x))

-- of the same level by another name
pub side_filling_same : (n : ℕ) {L L' : Level} → L ≡ L' → {o w : List ℕ} {r : ℕ} → SideFilling L n o w r → SideFilling L' n o w r
side_filling_same n same {o} {w} {r} so_far = subst (λ l. SideFilling l n o w r) same so_far

-- the words of lane i, where its slot is filled
module _ (L : Level) (n i : ℕ) (lane : i < n) (some : 0 < slot_size L (reversed n i)) where
  filled : (x : ℕ) → last_lane - x % lanes ≡ i → 0 < slot_size L (reversed n (last_lane - x % lanes))
  filled x here = subst (λ j. 0 < slot_size L (reversed n j)) (sym here) some

  -- the word of degree lift + e
  module _ (x e : ℕ) (here : last_lane - x % lanes ≡ i) (degree : x / lanes ≡ lift L n i + e) where
    from : lift L n (last_lane - x % lanes) ≤ x / lanes
    from = subst₂ (λ j m. lift L n j ≤ m) (sym here) (sym degree) (omega arith)

    behind : x / lanes - lift L n (last_lane - x % lanes) ≡ e
    behind = ap (λ j. x / lanes - lift L n j) here ∙ omega (arith, degree)

    word_far : block_words ≤ e → side_word L n x ≡ 0
    word_far far = side_far L n x (omega arith) (filled x here) from
        (λ (g : x / lanes - lift L n (last_lane - x % lanes) < block_words). omega (arith, behind))

    word_near : e < block_words → side_word L n x ≡ tail_word L (reversed n i) e
    word_near near =
        side_value L n x (omega arith) (filled x here) from (omega (arith, behind))
        ∙ ap (λ j. tail_word L (reversed n j) (x / lanes - lift L n (last_lane - x % lanes))) here
        ∙ ap (tail_word L (reversed n i)) behind

-- slot n - 1 - i of the level is empty
none_there : (L : Level) (n i : ℕ) → i < n → ¬ (0 < slot_size L (reversed n i)) → (x : ℕ) → side_rank x ≡ i → side_word L n x ≡ 0
none_there L n i lane none x here = side_empty L n x (omega arith)
    (λ (g : 0 < slot_size L (reversed n (last_lane - x % lanes))). none (subst (λ j. 0 < slot_size L (reversed n j)) here g))

module _ (L : Level) (n : ℕ) {o w : List ℕ} where
  -- the lanes from n on are 0
  pub side_filling_end : SideFilling L n o w n → n ≤ lanes → (x : ℕ) → x < product_words → get_or w x 0 ≡ side_word L n x
  side_filling_end so_far small = filling_end (filling_skip so_far lanes small rest) (λ x h. omega arith)
    where
      rest : (x : ℕ) → x < product_words → n ≤ side_rank x → side_rank x < lanes → side_word L n x ≡ 0
      rest x h low high = side_beside L n x (λ (g : last_lane - x % lanes < n). omega arith)

  module _ (i : ℕ) (lane : i < n) where
    pub side_filling_empty : ¬ (0 < slot_size L (reversed n i)) → SideFilling L n o w i → SideFilling L n o w (i + 1)
    side_filling_empty none so_far =
        filling_skip so_far (i + 1) (omega arith) (λ x h low high. none_there L n i lane none x (omega arith))

    -- lane i: below the lift and behind the count it is 0
    pub side_filling_lane : 0 < slot_size L (reversed n i) → n ≤ lanes → greatest L n ≤ block_degrees → {count : ℕ}
        → count ≤ most_coefficients
        → ((j : ℕ) → count ≤ j → j < block_words → tail_word L (reversed n i) j ≡ 0) → SideFilling L n o w i → {t : ℕ}
        → t ≡ greatest L n → {w' : List ℕ} → Spread (λ e. tail_word L (reversed n i) e)
        (last_lane - i + lanes * (t - height (slot_size L (reversed n i)))) count w w' → SideFilling L n o w' (i + 1)
    side_filling_lane some small top {count} short behind so_far et {w'} spread =
        filling_lane so_far (spread_same spread (λ e. tail_word L (reversed n i) e) (λ e lt. refl)
        (ap (λ t. last_lane - i + lanes * (t - height (slot_size L (reversed n i)))) et) refl) places word
      where
        places : (e : ℕ) → e < count
            → (last_lane - i + lanes * lift L n i + lanes * e < product_words)
            × (side_rank (last_lane - i + lanes * lift L n i + lanes * e) ≡ i)
        places e lt = (omega arith, omega arith)

        word : (x : ℕ) → x < product_words → side_rank x ≡ i
            → LaneWord (side_word L n) (λ e. tail_word L (reversed n i) e) (last_lane - i + lanes * lift L n i) count x
        word x h here = go (dec_lt (x / lanes) (lift L n i)) (dec_lt (x / lanes - lift L n i) count)
            (dec_lt (x / lanes - lift L n i) block_words)
          where
            go : Dec (x / lanes < lift L n i) → Dec (x / lanes - lift L n i < count) → Dec (x / lanes - lift L n i < block_words)
                → LaneWord (side_word L n) (λ e. tail_word L (reversed n i) e) (last_lane - i + lanes * lift L n i) count x
            go (yes low) d d' = left_out (λ e lt same. omega arith)
                (side_low L n x (omega arith) (filled L n i lane some x here)
                (λ (g : lift L n (last_lane - x % lanes) ≤ x / lanes). omega (arith, ap (lift L n) here)))
            go (no from) (yes more) d = stored_at (x / lanes - lift L n i) more (omega arith)
                (word_near L n i lane some x (x / lanes - lift L n i) here (omega arith) (omega arith))
            go (no from) (no past) (yes near) = left_out (λ e lt same. omega arith)
                (word_near L n i lane some x (x / lanes - lift L n i) here (omega arith) near
                ∙ behind (x / lanes - lift L n i) (omega arith) near)
            go (no from) (no past) (no far) = left_out (λ e lt same. omega arith)
                (word_far L n i lane some x (x / lanes - lift L n i) here (omega arith) (omega arith))

    -- nothing is put where nothing is
    pub side_filling_none : ¬ (0 < slot_size L (reversed n i)) → SideFilling L n o w i → {g : ℕ → ℕ} {to : ℕ} {w' : List ℕ}
        → Spread g to 0 w w' → SideFilling L n o w' (i + 1)
    side_filling_none none so_far spread = filling_lane so_far spread (λ e lt. absurd (omega arith))
        (λ x h here. left_out (λ e lt same. omega arith) (none_there L n i lane none x here))
