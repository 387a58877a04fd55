-- A level with row h of its blocks for tails: the second system where there is no solution is that of this level (section 2
-- of docs/mathematics.md). It stands nowhere in memory.
use Rattle.std.specs.Prelude.{ℕ, ◌+◌, ◌-◌, ◌*◌, ◌/◌, ◌%◌, ◌<◌, ◌≤◌, ◌≡◌, length, get_or, replicate}
use Rattle.std.proofs.Common.{sym, ◌∙◌, ap, ap₂, subst, ⊎_elim, arith}
use Rattle.std.proofs.Math.Nat.{zero-mod}
use Rattle.std.proofs.Math.Decide.{dec_lt}
use Rattle.std.proofs.Math.ListN.{length-replicate}
use Rattle.algebra.specs.Expressions.{shift_zero}
use Rattle.algebra.specs.Polynomial.{Polynomial}
use Rattle.modular.specs.Prime.{Prime}
use Rattle.modular.specs.Residue.{residues}
use Rattle.reduction.specs.Slots.{Slots, unweighted, tailed}
use Rattle.reduction.specs.Holds.{Holds}
use Rattle.reduction.specs.Flat.{flat}
use Rattle.vector.specs.Stored.{stored, length_stored, stored_first, below_or_not}
use Rattle.solve_lattice.specs.Word.{residue, words, words_inside, words_behind}
use Rattle.solve_lattice.specs.Memory.{height, ZeroFrom, Level, slot_size, tail_size, ValidSlot, ValidLevel}
use Rattle.solve_lattice.specs.Holding.{HoldsSlots}
use Rattle.solve_lattice.specs.Range.{words_zero}
use Rattle.solve_lattice.specs.Room.{level_words, inverses_from, tail_sizes_from, sizes_from, block_words, slot_words, block_degrees, lanes}
use Rattle.solve_lattice.specs.Room.{last_lane}
use Rattle.solve_second.specs.Words.{either, either_yes, either_no, when, when_yes, when_no, block_word}
use Rattle.solve_second.specs.ValidTransposed.{when_below}
use Rattle.solve_lattice.specs.SameBlocks.{SameLevelBlocks, same_slot}
use Rattle.solve_second.specs.OtherTails.{same_holds}

-- coefficient e of row h in the block of slot q, which has 16
abbrev pub row_word : Level → (h q e : ℕ) → ℕ
row_word L h q e = when (dec_lt e block_degrees) (block_word L q h e)

-- the words of the slots
abbrev rowed_word : Level → (h x : ℕ) → ℕ
rowed_word L h x = either (dec_lt (x % slot_words) block_words) (get_or L x 0) (row_word L h (x / slot_words) (x % slot_words - block_words))

-- the words behind them: sizes, sizes of tails and inverses; a row is as long as its block is high
abbrev rowed_number : Level → ℕ → ℕ
rowed_number L x = either (dec_lt x tail_sizes_from) (get_or L x 0)
    (either (dec_lt x inverses_from) (height (slot_size L (x - tail_sizes_from))) (get_or L x 0))

unfoldable pub with_row : ℕ → Level → Level
with_row h L = stored (λ x. either (dec_lt x sizes_from) (rowed_word L h x) (rowed_number L x)) (replicate level_words 0) 0 level_words

module _ (h : ℕ) (L : Level) where
  rowed : (x : ℕ) → x < level_words → get_or (with_row h L) x 0 ≡ either (dec_lt x sizes_from) (rowed_word L h x) (rowed_number L x)
  unfolding with_row
  rowed x lt = stored_first _ (replicate level_words 0) level_words x (omega (arith, length-replicate {A = ℕ} level_words 0)) lt

  rowed_word_lem : (x : ℕ) → x < sizes_from → get_or (with_row h L) x 0 ≡ rowed_word L h x
  rowed_word_lem x lt = rowed x (omega arith) ∙ either_yes (dec_lt x sizes_from) _ _ lt

  rowed_number_lem : (x : ℕ) → sizes_from ≤ x → x < level_words → get_or (with_row h L) x 0 ≡ rowed_number L x
  rowed_number_lem x ge lt = rowed x lt ∙ either_no (dec_lt x sizes_from) _ _ (λ (g : x < sizes_from). omega arith)

  pub row_tail : (q j : ℕ) → q < lanes → j < block_words → get_or (with_row h L) (slot_words * q + block_words + j) 0 ≡ row_word L h q j
  row_tail q j l lt =
      let x : ℕ = slot_words * q + block_words + j in
      let slot : x / slot_words ≡ q = omega arith in
      let place : x % slot_words - block_words ≡ j = omega arith in
      rowed_word_lem x (omega arith)
      ∙ either_no (dec_lt (x % slot_words) block_words) _ _ (λ (g : x % slot_words < block_words). omega arith)
      ∙ ap₂ (row_word L h) slot place

  pub row_tail_size : (q : ℕ) → q < lanes → tail_size (with_row h L) q ≡ height (slot_size L q)
  row_tail_size q l =
      rowed_number_lem (tail_sizes_from + q) (omega arith) (omega arith)
      ∙ either_no (dec_lt (tail_sizes_from + q) tail_sizes_from) _ _ (λ (g : tail_sizes_from + q < tail_sizes_from). omega arith)
      ∙ either_yes (dec_lt (tail_sizes_from + q) inverses_from) _ _ (omega arith)
      ∙ ap (λ k. height (slot_size L k)) (omega arith)

  pub row_blocks : SameLevelBlocks L (with_row h L)
  row_blocks = record {
    words = λ q j l lt. rowed_word_lem (slot_words * q + j) (omega arith)
        ∙ either_yes (dec_lt ((slot_words * q + j) % slot_words) block_words) _ _ (omega arith);
    sizes = λ q l. rowed_number_lem (sizes_from + q) (omega arith) (omega arith)
        ∙ either_yes (dec_lt (sizes_from + q) tail_sizes_from) _ _ (omega arith);
    inverses = λ q l.
        rowed_number_lem (inverses_from + q) (omega arith) (omega arith)
        ∙ either_no (dec_lt (inverses_from + q) tail_sizes_from) _ _ (λ (g : inverses_from + q < tail_sizes_from). omega arith)
        ∙ either_no (dec_lt (inverses_from + q) inverses_from) _ _ (λ (g : inverses_from + q < inverses_from). omega arith);
  }

  row_length : length (with_row h L) ≡ level_words
  unfolding with_row
  row_length = length_stored _ (replicate level_words 0) 0 level_words ∙ length-replicate {A = ℕ} level_words 0

  row_below : (p : ℕ) → h < lanes → ((i : ℕ) → i < sizes_from → get_or L i 0 < p) → (i : ℕ) → i < sizes_from
      → get_or (with_row h L) i 0 < p
  row_below p lane small i lt = subst (λ w. w < p) (sym (rowed_word_lem i lt)) (word (dec_lt (i % slot_words) block_words))
    where
      word : (d : Dec (i % slot_words < block_words)) → either d (get_or L i 0)
          (row_word L h (i / slot_words) (i % slot_words - block_words)) < p
      word (yes l) =
          subst (λ w. w < p) (sym (either_yes (yes l) (get_or L i 0) (row_word L h (i / slot_words) (i % slot_words - block_words)) l))
          (small i lt)
      word (no l) = subst (λ w. w < p) (sym (either_no (no l) (get_or L i 0)
          (row_word L h (i / slot_words) (i % slot_words - block_words)) l))
          (when_below p (omega (arith, small 0 (omega arith))) (dec_lt (i % slot_words - block_words) block_degrees) _
          (λ near. small _ (omega arith)))

-- behind the height of a block its rows are 0
row_behind : {p : ℕ} {L : Level} → ValidLevel p L → (h q j : ℕ) → q < lanes → height (slot_size L q) ≤ j
    → row_word L h q j % p ≡ 0
row_behind {p} {L} valid h q j l past = go (dec_lt j block_degrees)
  where
    go : (d : Dec (j < block_degrees)) → when d (block_word L q h j) % p ≡ 0
    go (yes near) =
        let place : slot_words * q + lanes * j + (last_lane - h) ≡ slot_words * q + (lanes * j + (last_lane - h)) = omega arith in
        ap (λ w. w % p) (when_yes (yes near) (block_word L q h j) near ∙ ap (λ x. get_or L x 0) place)
        ∙ (valid.slot q l).block.behind (lanes * j + (last_lane - h)) (omega arith) (omega arith)
    go (no far) = ap (λ w. w % p) (when_no (no far) (block_word L q h j) far) ∙ zero-mod p

module _ (h : ℕ) {p : ℕ} {L : Level} (valid : ValidLevel p L) where
  abbrev L' : Level
  L' = with_row h L

  tails : (q j : ℕ) → q < lanes → j < block_words → get_or L' (slot_words * q + block_words + j) 0 ≡ row_word L h q j
  tails = row_tail h L

  slot : (q : ℕ) → q < lanes → ValidSlot p L' q
  slot q l =
      let long = row_tail_size h L q l in
      same_slot (row_blocks h L) q l (valid.slot q l) (omega (arith, long, (valid.slot q l).block.within))
      (λ j ge lt. ap (λ w. w % p) (tails q j l lt) ∙ row_behind valid h q j l (omega (arith, long)))

  pub row_valid : h < lanes → ValidLevel p (with_row h L)
  row_valid lane = record { room = omega (arith, row_length h L); below = row_below h L p lane valid.below; slot = slot }

  module _ (prime : Prime p) {n : ℕ} {U : Slots (Polynomial (residues p prime))} (small : n ≤ lanes) (inside : h < n)
      (holds : HoldsSlots p prime n unweighted L U) where
    module _ (q : ℕ) (l : q < n) (f : 0 < U.size q) where
      far_zero : ZeroFrom p L' (slot_words * q + block_words) block_words block_degrees
      far_zero j ge lt =
          ap (λ w. w % p) (tails q j (omega arith) lt ∙ when_no (dec_lt j block_degrees) _
          (λ (less : j < block_degrees). omega arith)) ∙ zero-mod p

      -- lane 7 - h of the block, and the tail
      lane_word : (e : ℕ) → words p prime L (slot_words * q) block_words (flat lanes h e) ≡ words p prime L'
          (slot_words * q + block_words) block_words e
      lane_word e =
          ⊎_elim
          (λ near.
          let place : slot_words * q + flat lanes h e ≡ slot_words * q + lanes * e + (last_lane - h) = omega arith in
          words_inside p prime L (slot_words * q) block_words (flat lanes h e) (omega arith)
          ∙ ap (λ x. residue p prime (get_or L x 0)) place
          ∙ ap (residue p prime) (sym (tails q e (omega arith) (omega arith) ∙ when_yes (dec_lt e block_degrees) _ near))
          ∙ sym (words_inside p prime L' (slot_words * q + block_words) block_words e (omega arith)))
          (λ more.
          words_behind p prime L (slot_words * q) block_words (flat lanes h e) (omega arith)
          ∙ sym (words_zero p prime L' (slot_words * q + block_words) block_words block_degrees far_zero e more))
          (below_or_not e block_degrees)

      row_held : Holds (residues p prime) (words p prime L' (slot_words * q + block_words) block_words) (U.at q h)
      row_held = record {
        at = λ e. (subst (Holds (residues p prime) (λ d. words p prime L (slot_words * q) block_words (flat lanes h d)))
            (shift_zero (residues p prime) (U.at q h)) ((holds.vector q l f).block.lane h inside)).at e ∙ lane_word e;
      }

    pub row_holds : HoldsSlots p prime n unweighted (with_row h L) (tailed n U (λ q. U.at q h))
    row_holds = same_holds (row_blocks h L) prime small holds (λ q. U.at q h) row_held
