-- How a level is copied to cleared memory, one slot after another: of a block the words that count, and nothing of a tail.
use Rattle.std.specs.Prelude.{ℕ, ◌+◌, ◌*◌, ◌<◌, ◌≤◌, ◌≡◌, ◌⊎◌, length, get_or, set}
use Rattle.std.proofs.Common.{sym, ◌∙◌, ap, subst, inl, inr, ⊎_elim, arith, length-set, get_or-set_same, get_or-set_other}
use Rattle.std.proofs.Math.Decide.{ℕ_discrete}
use Rattle.solve_lattice.specs.Room.{level_words, inverses_from, tail_sizes_from, sizes_from, block_words, slot_words, lanes}
use Rattle.vector.specs.Bound.{AtMost}
use Rattle.vector.specs.Stored.{stored, length_stored, stored_inside, stored_outside, below_or_not}
use Rattle.solve_lattice.specs.Memory.{Level, slot_size, tail_size, slot_inverse}

-- the first n slots of L are copied to L', where all else is 0
pub record Copied (L : Level) (n : ℕ) (L' : Level) : Type 0 where
  pub room : length L' ≡ level_words
  pub blocks : (q j : ℕ) → q < n → j < slot_size L q → get_or L' (slot_words * q + j) 0 ≡ get_or L (slot_words * q + j) 0
  pub others : (q j : ℕ) → q < lanes → j < slot_words → (q < n → slot_size L q ≤ j) → get_or L' (slot_words * q + j) 0 ≡ 0
  pub sizes : (q : ℕ) → q < n → slot_size L' q ≡ slot_size L q
  pub tail_sizes : (q : ℕ) → q < lanes → tail_size L' q ≡ 0
  pub inverses : (q : ℕ) → q < n → slot_inverse L' q ≡ slot_inverse L q

pub copied_start : (L next : Level) → length next ≡ level_words → AtMost 0 next → Copied L 0 next
copied_start L next room zero = record {
  room = room;
  blocks = λ q j h. absurd (omega arith);
  others = λ q j h lt f. omega (arith, zero (slot_words * q + j));
  sizes = λ q h. absurd (omega arith);
  tail_sizes = λ q h. omega (arith, zero (tail_sizes_from + q));
  inverses = λ q h. absurd (omega arith);
}

-- a turn
module _ {L : Level} {n : ℕ} {next : Level} (so_far : Copied L n next) (inside : n < lanes)
    (fits : (q : ℕ) → q < lanes → slot_size L q ≤ block_words) where
  here : slot_size L n ≤ block_words
  here = fits n inside

  abbrev block : ℕ → ℕ
  block j = get_or L (slot_words * n + j) 0

  module _ {next' : Level} (e : next' ≡ stored block next (slot_words * n) (slot_size L n)) where
    abbrev after : Level
    after = set (set next' (sizes_from + n) (slot_size L n)) (inverses_from + n) (slot_inverse L n)

    room' : length next' ≡ level_words
    room' = ap length e ∙ length_stored block next (slot_words * n) (slot_size L n) ∙ so_far.room

    -- all but the slot and its numbers
    word_set : (x : ℕ) → ¬ (x ≡ sizes_from + n) → ¬ (x ≡ inverses_from + n)
        → get_or after x 0 ≡ get_or (stored block next (slot_words * n) (slot_size L n)) x 0
    word_set x a b =
        get_or-set_other (set next' (sizes_from + n) (slot_size L n)) (inverses_from + n) x (slot_inverse L n) 0 b
        ∙ get_or-set_other next' (sizes_from + n) x (slot_size L n) 0 a
        ∙ ap (λ l. get_or l x 0) e

    kept : (x : ℕ) → ¬ (x ≡ sizes_from + n) → ¬ (x ≡ inverses_from + n) → (x < slot_words * n) ⊎ (slot_words * n + slot_size L n ≤ x)
        → get_or after x 0 ≡ get_or next x 0
    kept x a b out = word_set x a b ∙ stored_outside block next (slot_words * n) (slot_size L n) x out

    apart : (q j : ℕ) → q < lanes → j < slot_words → ¬ (q ≡ n) → get_or after (slot_words * q + j) 0 ≡ get_or next (slot_words * q + j) 0
    apart q j h lt other = kept (slot_words * q + j) (λ x. omega arith) (λ x. omega arith)
        (⊎_elim (λ less. inl (omega (arith, here))) (λ more. inr (omega (arith, here))) (below_or_not q n))

    -- words of this slot
    inside_block : (j : ℕ) → j < slot_size L n → get_or after (slot_words * n + j) 0 ≡ block j
    inside_block j lt =
        word_set (slot_words * n + j) (λ x. omega (arith, here)) (λ x. omega (arith, here))
        ∙ stored_inside block next (slot_words * n) (slot_size L n) j (omega (arith, so_far.room, here)) lt

    blocks : (q j : ℕ) → q < n + 1 → j < slot_size L q → slot_size L q ≤ slot_words → Dec (q ≡ n)
        → get_or after (slot_words * q + j) 0 ≡ get_or L (slot_words * q + j) 0
    blocks q j h lt le (yes same) =
        subst (λ x. j < slot_size L x → get_or after (slot_words * x + j) 0 ≡ get_or L (slot_words * x + j) 0) (sym same) (inside_block j)
        lt
    blocks q j h lt le (no other) = apart q j (omega arith) (omega arith) other ∙ so_far.blocks q j (omega arith) lt

    others : (q j : ℕ) → q < lanes → j < slot_words → (q < n + 1 → slot_size L q ≤ j) → Dec (q ≡ n)
        → get_or after (slot_words * q + j) 0 ≡ 0
    others q j l lt h (yes same) =
        subst (λ x. slot_size L x ≤ j → get_or after (slot_words * x + j) 0 ≡ 0) (sym same)
        (λ ge. kept (slot_words * n + j) (λ x. omega arith) (λ x. omega arith) (inr (omega arith))
        ∙ so_far.others n j inside lt (λ l. absurd (omega arith))) (h (omega arith))
    others q j l lt h (no other) = apart q j l lt other ∙ so_far.others q j l lt (λ l. h (omega arith))

    sizes : (q : ℕ) → q < n + 1 → Dec (q ≡ n) → slot_size after q ≡ slot_size L q
    sizes q h (yes same) = subst (λ x. slot_size after x ≡ slot_size L x) (sym same)
        (get_or-set_other (set next' (sizes_from + n) (slot_size L n)) (inverses_from + n) (sizes_from + n) (slot_inverse L n) 0
        (λ x. omega arith)
        ∙ get_or-set_same next' (sizes_from + n) (slot_size L n) 0 (omega (arith, room')))
    sizes q h (no other) = kept (sizes_from + q) (λ x. other (omega arith)) (λ x. omega arith) (inr (omega (arith, here)))
        ∙ so_far.sizes q (omega arith)

    inverses : (q : ℕ) → q < n + 1 → Dec (q ≡ n) → slot_inverse after q ≡ slot_inverse L q
    inverses q h (yes same) = subst (λ x. slot_inverse after x ≡ slot_inverse L x) (sym same)
        (get_or-set_same (set next' (sizes_from + n) (slot_size L n)) (inverses_from + n) (slot_inverse L n) 0
        (omega (arith, room', length-set next' (sizes_from + n) (slot_size L n))))
    inverses q h (no other) = kept (inverses_from + q) (λ x. omega arith) (λ x. other (omega arith)) (inr (omega (arith, here)))
        ∙ so_far.inverses q (omega arith)

    pub copied_turn : Copied L (n + 1) (set (set next' (sizes_from + n) (slot_size L n)) (inverses_from + n) (slot_inverse L n))
    copied_turn = record {
      room = length-set (set next' (sizes_from + n) (slot_size L n)) (inverses_from + n) (slot_inverse L n)
          ∙ length-set next' (sizes_from + n) (slot_size L n)
          ∙ room';
      blocks = λ q j h lt. blocks q j h lt (omega (arith, fits q (omega arith))) (ℕ_discrete q n);
      others = λ q j h lt f. others q j h lt f (ℕ_discrete q n);
      sizes = λ q h. sizes q h (ℕ_discrete q n);
      tail_sizes = λ q h. kept (tail_sizes_from + q) (λ x. omega arith) (λ x. omega arith) (inr (omega (arith, here)))
          ∙ so_far.tail_sizes q h;
      inverses = λ q h. inverses q h (ℕ_discrete q n);
    }
