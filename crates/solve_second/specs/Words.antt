-- The words of the second system of a level L of n rows. Its coordinate i is coordinate n - 1 - i of the level, lifted by so many
-- degrees that the block of slot n - 1 - i of the level would be as high as the highest.
use Rattle.std.specs.Prelude.{ℕ, ◌+◌, ◌-◌, ◌*◌, ◌/◌, ◌%◌, ◌<◌, ◌≤◌, ◌≡◌, refl, get_or}
use Rattle.std.proofs.Common.{◌∙◌}
use Rattle.std.proofs.Math.Decide.{dec_lt, dec_le}
use Rattle.solve_lattice.specs.Memory.{height, Level, slot_size}
use Rattle.solve_lattice.specs.Room.{block_words, slot_words, lanes, last_lane}
use Rattle.solve_second.specs.Greatest.{greatest}

-- a where d holds, else b
unfoldable pub either : {P : Type 0} → Dec P → ℕ → ℕ → ℕ
either (yes h) a b = a
either (no h) a b = b

pub either_yes : {P : Type 0} (d : Dec P) (a b : ℕ) → P → either d a b ≡ a
unfolding either
either_yes (yes h) a b x = refl
either_yes (no h) a b x = absurd (h x)

pub either_no : {P : Type 0} (d : Dec P) (a b : ℕ) → ¬ P → either d a b ≡ b
unfolding either
either_no (yes h) a b x = absurd (x h)
either_no (no h) a b x = refl

-- v where d holds, else 0
abbrev pub when : {P : Type 0} → Dec P → ℕ → ℕ
when d v = either d v 0

pub when_yes : {P : Type 0} (d : Dec P) (v : ℕ) → P → when d v ≡ v
when_yes d v = either_yes d v 0

pub when_no : {P : Type 0} (d : Dec P) (v : ℕ) → ¬ P → when d v ≡ 0
when_no d v = either_no d v 0

pub when_same : {P : Type 0} (d : Dec P) (v v' : ℕ) → (P → v ≡ v') → when d v ≡ when d v'
unfolding either
when_same (yes h) v v' same = same h
when_same (no h) v v' same = refl

-- coordinate i in reversed order
abbrev pub reversed : (n i : ℕ) → ℕ
reversed n i = n - 1 - i

-- by how many degrees coordinate i is lifted
abbrev pub lift : (L : Level) (n i : ℕ) → ℕ
lift L n i = greatest L n - height (slot_size L (reversed n i))

-- coefficient e of row r in the block of slot q
abbrev pub block_word : Level → (q r e : ℕ) → ℕ
block_word L q r e = get_or L (slot_words * q + lanes * e + (last_lane - r)) 0

-- the size of slot k, in words: it is empty where slot n - 1 - k of the level is, else as high as the highest block, its pivot at k
abbrev pub transposed_size : (L : Level) (n k : ℕ) → ℕ
transposed_size L n k = when (dec_lt k n) (when (dec_lt 0 (slot_size L (reversed n k))) (lanes * greatest L n - k))

module _ (L : Level) (n k : ℕ) where
  pub size_beyond : ¬ (k < n) → transposed_size L n k ≡ 0
  size_beyond out = when_no (dec_lt k n) _ out

  module _ (slot : k < n) where
    pub size_empty : ¬ (0 < slot_size L (reversed n k)) → transposed_size L n k ≡ 0
    size_empty out = when_yes (dec_lt k n) _ slot ∙ when_no (dec_lt 0 (slot_size L (reversed n k))) (lanes * greatest L n - k) out

    pub size_filled : 0 < slot_size L (reversed n k) → transposed_size L n k ≡ lanes * greatest L n - k
    size_filled some = when_yes (dec_lt k n) _ slot ∙ when_yes (dec_lt 0 (slot_size L (reversed n k))) (lanes * greatest L n - k) some

-- slot k has at coordinate i what slot n - 1 - i of the level has at coordinate n - 1 - k; empty slots and tails are 0
abbrev pub transposed_word : (L : Level) (n x : ℕ) → ℕ
transposed_word L n x =
    when (dec_lt 0 (transposed_size L n (x / slot_words)))
    (when (dec_lt (last_lane - x % lanes) n)
    (when (dec_lt (x % slot_words) (lanes * greatest L n))
    (when (dec_le (lift L n (last_lane - x % lanes)) (x % slot_words / lanes))
    (block_word L (reversed n (last_lane - x % lanes)) (reversed n (x / slot_words))
    (x % slot_words / lanes - lift L n (last_lane - x % lanes))))))

module _ (L : Level) (n x : ℕ) where
  abbrev value : ℕ
  value = block_word L (reversed n (last_lane - x % lanes)) (reversed n (x / slot_words))
      (x % slot_words / lanes - lift L n (last_lane - x % lanes))

  abbrev lifted : Dec (lift L n (last_lane - x % lanes) ≤ x % slot_words / lanes)
  lifted = dec_le (lift L n (last_lane - x % lanes)) (x % slot_words / lanes)

  pub transposed_beyond : ¬ (0 < transposed_size L n (x / slot_words)) → transposed_word L n x ≡ 0
  transposed_beyond out = when_no (dec_lt 0 (transposed_size L n (x / slot_words))) _ out

  module _ (slot : 0 < transposed_size L n (x / slot_words)) where
    pub transposed_beside : ¬ (last_lane - x % lanes < n) → transposed_word L n x ≡ 0
    transposed_beside out = when_yes (dec_lt 0 (transposed_size L n (x / slot_words))) _ slot
        ∙ when_no (dec_lt (last_lane - x % lanes) n) _ out

    module _ (lane : last_lane - x % lanes < n) where
      inside : (v : ℕ) → when (dec_lt 0 (transposed_size L n (x / slot_words))) (when (dec_lt (last_lane - x % lanes) n) v) ≡ v
      inside v = when_yes (dec_lt 0 (transposed_size L n (x / slot_words))) _ slot ∙ when_yes (dec_lt (last_lane - x % lanes) n) _ lane

      pub transposed_tail : ¬ (x % slot_words < lanes * greatest L n) → transposed_word L n x ≡ 0
      transposed_tail out = inside _ ∙ when_no (dec_lt (x % slot_words) (lanes * greatest L n)) (when lifted value) out

      module _ (block : x % slot_words < lanes * greatest L n) where
        pub transposed_low : ¬ (lift L n (last_lane - x % lanes) ≤ x % slot_words / lanes) → transposed_word L n x ≡ 0
        transposed_low out =
            inside _ ∙ when_yes (dec_lt (x % slot_words) (lanes * greatest L n)) (when lifted value) block ∙ when_no lifted value out

        pub transposed_value : lift L n (last_lane - x % lanes) ≤ x % slot_words / lanes → transposed_word L n x
            ≡ block_word L (reversed n (last_lane - x % lanes)) (reversed n (x / slot_words))
            (x % slot_words / lanes - lift L n (last_lane - x % lanes))
        transposed_value here =
            inside _ ∙ when_yes (dec_lt (x % slot_words) (lanes * greatest L n)) (when lifted value) block
            ∙ when_yes lifted value here

-- coefficient e of the tail of slot q
abbrev pub tail_word : Level → (q e : ℕ) → ℕ
tail_word L q e = get_or L (slot_words * q + block_words + e) 0

-- the right side: at coordinate i the tail of slot n - 1 - i of the level, where that is filled
abbrev pub side_word : (L : Level) (n x : ℕ) → ℕ
side_word L n x =
    when (dec_lt (last_lane - x % lanes) n)
    (when (dec_lt 0 (slot_size L (reversed n (last_lane - x % lanes))))
    (when (dec_le (lift L n (last_lane - x % lanes)) (x / lanes))
    (when (dec_lt (x / lanes - lift L n (last_lane - x % lanes)) block_words)
    (tail_word L (reversed n (last_lane - x % lanes)) (x / lanes - lift L n (last_lane - x % lanes))))))

module _ (L : Level) (n x : ℕ) where
  abbrev tail : ℕ
  tail = tail_word L (reversed n (last_lane - x % lanes)) (x / lanes - lift L n (last_lane - x % lanes))

  abbrev near : Dec (x / lanes - lift L n (last_lane - x % lanes) < block_words)
  near = dec_lt (x / lanes - lift L n (last_lane - x % lanes)) block_words

  abbrev high : Dec (lift L n (last_lane - x % lanes) ≤ x / lanes)
  high = dec_le (lift L n (last_lane - x % lanes)) (x / lanes)

  abbrev filled : Dec (0 < slot_size L (reversed n (last_lane - x % lanes)))
  filled = dec_lt 0 (slot_size L (reversed n (last_lane - x % lanes)))

  pub side_beside : ¬ (last_lane - x % lanes < n) → side_word L n x ≡ 0
  side_beside out = when_no (dec_lt (last_lane - x % lanes) n) _ out

  module _ (lane : last_lane - x % lanes < n) where
    pub side_empty : ¬ (0 < slot_size L (reversed n (last_lane - x % lanes))) → side_word L n x ≡ 0
    side_empty out = when_yes (dec_lt (last_lane - x % lanes) n) _ lane ∙ when_no filled (when high (when near tail)) out

    module _ (some : 0 < slot_size L (reversed n (last_lane - x % lanes))) where
      of_slot : (v : ℕ) → when (dec_lt (last_lane - x % lanes) n) (when filled v) ≡ v
      of_slot v = when_yes (dec_lt (last_lane - x % lanes) n) _ lane ∙ when_yes filled v some

      pub side_low : ¬ (lift L n (last_lane - x % lanes) ≤ x / lanes) → side_word L n x ≡ 0
      side_low out = of_slot _ ∙ when_no high (when near tail) out

      module _ (here : lift L n (last_lane - x % lanes) ≤ x / lanes) where
        pub side_far : ¬ (x / lanes - lift L n (last_lane - x % lanes) < block_words) → side_word L n x ≡ 0
        side_far out = of_slot _ ∙ when_yes high (when near tail) here ∙ when_no near tail out

        pub side_value : x / lanes - lift L n (last_lane - x % lanes) < block_words
            → side_word L n x ≡ tail_word L (reversed n (last_lane - x % lanes)) (x / lanes - lift L n (last_lane - x % lanes))
        side_value within = of_slot _ ∙ when_yes high (when near tail) here ∙ when_yes near tail within
