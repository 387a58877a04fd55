-- The words after an exchange of the hand with the slot at its pivot, said of residues: block and tail of the slot hold what the
-- hand's did and the other way round, and no other slot changes.
use Prim.Native.Nat.{ℕ, ◌+◌, ◌*◌, ◌%◌, ◌<◌, ◌≤◌, max}
use mathlib.Core.Path.{◌≡◌, sym, ◌∙◌, ap}
use mathlib.Core.Logic.{◌⊎◌, inl, inr, ⊎_elim}
use mathlib.Core.List.{List}
use native.Mathlib.Omega.{arith}
use lib.ListN.{length, get_or}
use Rattle.modular.specs.Prime.{Prime}
use Rattle.modular.specs.Modulo.{modulo}
use Rattle.vector.specs.Stored.{stored, length_stored, stored_inside, stored_outside}
use Rattle.vector.specs.Reduced.{polynomial}
use Rattle.solve_lattice.specs.Room.{sizes_from, product_words, block_words, slot_words, tail_words, most_coefficients}
use Rattle.solve_lattice.specs.Word.{words}
use Rattle.solve_lattice.specs.Noted.{noted, noted_word}
use Rattle.solve_lattice.specs.Memory.{row, ZeroFrom, Ends, Level, slot_size, tail_size, ValidSlot, Memory, places, Valid}
use Rattle.solve_lattice.specs.Found.{found_ends}
use Rattle.residue.specs.Sum.{SmallSum}
use Rattle.solve_lattice.specs.Sums.{sums_room, sums_stored}
use Rattle.solve_lattice.specs.Moves.{HasRoom}
use Rattle.solve_lattice.specs.Range.{ends_most, words_same, words_apart, zero_from_same, words_hand, words_slot}

-- t is the size of the hand's tail; e words of the blocks and m words of the tails are exchanged
pub record Swap (p : ℕ) (M : Memory) (t e m : ℕ) : Type 0 where
  pub valid : Valid p M
  pub room : HasRoom p M
  pub tail : Ends p M.tail 0 tail_words t
  pub blocks : e ≡ max M.hand.size (slot_size M.level (row M.hand.size))
  pub tails : m ≡ max t (tail_size M.level (row M.hand.size))

-- the tail's size as `find_leading` finds it
pub swap_of : {p : ℕ} → 0 < p → {M : Memory} → Valid p M → HasRoom p M
    → (t : ℕ) → t ≡ length (polynomial p M.tail 0 M.hand.tail_size)
    → (e : ℕ) → e ≡ max M.hand.size (slot_size M.level (row M.hand.size))
    → (m : ℕ) → m ≡ max t (tail_size M.level (row M.hand.size)) → Swap p M t e m
swap_of {p} positive {M} valid room t found e blocks m tails = record {
  valid = valid;
  room = room;
  tail = found_ends p positive M.tail tail_words M.hand.tail_size valid.hand.tail_within valid.hand.tail t found;
  blocks = blocks;
  tails = tails;
}

-- the words of the blocks that are exchanged are there
pub blocks_there : {p : ℕ} {M : Memory} → Valid p M → HasRoom p M
    → (e : ℕ) → e ≡ max M.hand.size (slot_size M.level (row M.hand.size))
    → (e ≤ length M.block) × (slot_words * row M.hand.size + e ≤ length M.level)
blocks_there {p} {M} valid room e blocks =
    let within = (valid.level.slot (row M.hand.size) (omega arith)).block.within in
    (omega (arith, valid.hand.room, room.block), omega (arith, valid.level.room, room.block))

-- the hand's block with the slot's words, and the level's words after the exchange of the blocks
abbrev pub block' : Memory → ℕ → List ℕ
block' M e = stored (λ j. get_or M.level (slot_words * row M.hand.size + j) 0) M.block 0 e

abbrev pub slots₁ : ℕ → Memory → ℕ → List ℕ
slots₁ p M e = stored (λ j. get_or M.block j 0 % p) M.level (slot_words * row M.hand.size) e

-- and after that of the tails
abbrev pub tail' : ℕ → Memory → (e m : ℕ) → List ℕ
tail' p M e m = stored (λ j. get_or (slots₁ p M e) (slot_words * row M.hand.size + block_words + j) 0) M.tail 0 m

abbrev pub slots₂ : ℕ → Memory → (e m : ℕ) → List ℕ
slots₂ p M e m = stored (λ j. get_or M.tail j 0 % p) (slots₁ p M e) (slot_words * row M.hand.size + block_words) m

-- and with the slot's numbers
abbrev pub level' : ℕ → Memory → (t e m : ℕ) → Level
level' p M t e m =
    noted (slots₂ p M e m) (row M.hand.size) M.hand.size t ((modulo p).inverse M.hand.leading)

module _ {p : ℕ} {M : Memory} {t e m : ℕ} (E : Swap p M t e m) where
  abbrev q : ℕ
  q = row M.hand.size

  abbrev s : List ℕ
  s = M.level

  pub slot : ValidSlot p M.level (row M.hand.size)
  slot = E.valid.level.slot (row M.hand.size) (omega arith)

  pub tail_small : t ≤ most_coefficients
  tail_small = ends_most M.tail 0 tail_words t most_coefficients E.tail E.room.tail

  pub tails_fit : m ≤ block_words
  tails_fit = omega (arith, E.tails, tail_small, slot.tail_within)

  pub blocks_fit : e ≤ block_words
  blocks_fit = omega (arith, E.blocks, E.room.block, slot.block.within)

  -- the words of the tails are there, and those of the block that the hand takes
  pub tails_there : (l : List ℕ) → length l ≡ length s → (m ≤ length M.tail) × (slot_words * q + block_words + m ≤ length l)
  tails_there l same = (omega (arith, tails_fit, E.valid.hand.tail_room), omega (arith, tails_fit, E.valid.level.room))

  pub block_there : (b : List ℕ) → length b ≡ length M.block → slot_size M.level (row M.hand.size) ≤ length b
  block_there b same = omega (arith, slot.block.within, E.valid.hand.room)

  block_room : e ≤ length M.block
  block_room = omega (arith, blocks_fit, E.valid.hand.room)

  tail_room : m ≤ length M.tail
  tail_room = omega (arith, tails_fit, E.valid.hand.tail_room)

  -- the block that the hand takes can be reduced
  pub block_reducible : (b : List ℕ) → b ≡ block' M e → 0 < p → (j : ℕ) → SmallSum p (get_or b j 0)
  block_reducible b eb positive j =
      let taken : ℕ → ℕ = λ j. get_or M.level (slot_words * row M.hand.size + j) 0 in
      let small : (j : ℕ) → j < e → taken j ≤ p =
      λ j lt. omega (arith, E.valid.level.below (slot_words * row M.hand.size + j) (omega (arith, blocks_fit))) in
      let sums = sums_stored p M.block taken 0 e (places M) small E.valid.hand.sums in
      rw eb (omega (arith, sums_room p (block' M e) (places M) positive sums j))

  noted_kept : (i : ℕ) → i < sizes_from → get_or (level' p M t e m) i 0 ≡ get_or (slots₂ p M e m) i 0
  noted_kept = noted_word (slots₂ p M e m) q M.hand.size t ((modulo p).inverse M.hand.leading)

  -- a word outside of the slot
  pub word_outside : (i : ℕ) → (i < slot_words * q) ⊎ (slot_words * q + tail_words ≤ i) → get_or (slots₂ p M e m) i 0 ≡ get_or s i 0
  word_outside i out =
      stored_outside _ (slots₁ p M e) (slot_words * q + block_words) m i
      (⊎_elim (λ lo. inl (omega arith)) (λ hi. inr (omega (arith, tails_fit))) out)
      ∙ stored_outside _ s (slot_words * q) e i (⊎_elim (λ lo. inl (omega arith)) (λ hi. inr (omega (arith, blocks_fit))) out)

  -- a word of the slot's block
  pub word_block : (j : ℕ) → j < e → get_or (level' p M t e m) (slot_words * q + j) 0 ≡ get_or M.block j 0 % p
  word_block j lt =
      noted_kept (slot_words * q + j) (omega (arith, blocks_fit))
      ∙ stored_outside _ (slots₁ p M e) (slot_words * q + block_words) m (slot_words * q + j) (inl (omega (arith, blocks_fit)))
      ∙ stored_inside _ s (slot_words * q) e j (omega (arith, E.valid.level.room, blocks_fit)) lt

  module _ (prime : Prime p) where
    words_noted : (b : ℕ) → b + block_words ≤ sizes_from
        → (x : ℕ) → words p prime (level' p M t e m) b block_words x ≡ words p prime (slots₂ p M e m) b block_words x
    words_noted b inside x = words_same p prime (level' p M t e m) (slots₂ p M e m) b b block_words x
        (λ lt. ap (λ w. w % p) (noted_kept (b + x) (omega arith)))

    tail_apart : (x : ℕ) → words p prime (slots₁ p M e) (slot_words * q + block_words) block_words x ≡ words p prime s
        (slot_words * q + block_words) block_words x
    tail_apart = words_apart p prime (λ j. get_or M.block j 0 % p) s (slot_words * q) e (slot_words * q + block_words) block_words
        (inr (omega (arith, blocks_fit)))

    behind_hand : ZeroFrom p M.block 0 product_words e
    behind_hand j h lt = E.valid.hand.block.behind j (omega (arith, E.blocks)) lt

    behind_slot : ZeroFrom p s (slot_words * q) block_words e
    behind_slot j h lt = slot.block.behind j (omega (arith, E.blocks)) lt

    behind_tail : ZeroFrom p M.tail 0 tail_words m
    behind_tail j h lt = E.tail.behind j (omega (arith, E.tails)) lt

    behind_slot_tail : ZeroFrom p (slots₁ p M e) (slot_words * q + block_words) block_words m
    behind_slot_tail j h lt = zero_from_same p prime s (slots₁ p M e) (slot_words * q + block_words) (slot_words * q + block_words)
        block_words block_words
        (λ x. sym (tail_apart x)) (tail_size M.level q) slot.tail j (omega (arith, E.tails)) lt

    room₁ : slot_words * q + block_words + block_words ≤ length (slots₁ p M e)
    room₁ = omega (arith, E.valid.level.room, length_stored (λ j. get_or M.block j 0 % p) s (slot_words * q) e)

    -- the slot takes the hand
    pub block_in : (x : ℕ) → words p prime (level' p M t e m) (slot_words * q) block_words x ≡ words p prime
        M.block 0 product_words x
    block_in x =
        words_noted (slot_words * q) (omega arith) x
        ∙ words_apart p prime (λ j. get_or M.tail j 0 % p) (slots₁ p M e) (slot_words * q + block_words) m
        (slot_words * q) block_words (inl (omega arith)) x
        ∙ words_slot p prime M.block s (slot_words * q) e block_words product_words blocks_fit (omega arith) block_room
        (omega (arith, E.valid.level.room)) behind_hand behind_slot x

    pub tail_in : (x : ℕ) → words p prime (level' p M t e m) (slot_words * q + block_words) block_words x ≡ words p prime
        M.tail 0 tail_words x
    tail_in x =
        words_noted (slot_words * q + block_words) (omega arith) x
        ∙ words_slot p prime M.tail (slots₁ p M e) (slot_words * q + block_words) m block_words tail_words tails_fit (omega arith)
        tail_room room₁ behind_tail behind_slot_tail x

    -- the hand takes the slot
    pub block_out : (x : ℕ) → words p prime (block' M e) 0 product_words x ≡ words p prime s (slot_words * q) block_words x
    block_out = words_hand p prime M.block s (slot_words * q) e block_words product_words blocks_fit (omega arith) block_room
        (omega (arith, E.valid.level.room)) behind_hand behind_slot

    pub tail_out : (x : ℕ) → words p prime (tail' p M e m) 0 tail_words x ≡ words p prime s (slot_words * q + block_words) block_words x
    tail_out x =
        words_hand p prime M.tail (slots₁ p M e) (slot_words * q + block_words) m block_words tail_words tails_fit (omega arith)
        tail_room room₁ behind_tail behind_slot_tail x
        ∙ tail_apart x

    -- another slot stays
    pub slot_kept : (b : ℕ) → b + block_words ≤ sizes_from → (b + block_words ≤ slot_words * q) ⊎ (slot_words * q + tail_words ≤ b)
        → (x : ℕ) → words p prime (level' p M t e m) b block_words x ≡ words p prime s b block_words x
    slot_kept b inside apart x =
        words_noted b inside x
        ∙ words_apart p prime (λ j. get_or M.tail j 0 % p) (slots₁ p M e) (slot_words * q + block_words) m b block_words
        (⊎_elim (λ lo. inl (omega arith)) (λ hi. inr (omega (arith, tails_fit))) apart) x
        ∙ words_apart p prime (λ j. get_or M.block j 0 % p) s (slot_words * q) e b block_words
        (⊎_elim (λ lo. inl (omega arith)) (λ hi. inr (omega (arith, blocks_fit))) apart) x
