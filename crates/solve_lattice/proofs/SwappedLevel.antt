-- The level after an exchange of the hand with the slot at its pivot: it stays in order, and the hand's vector is among the slots.
use Prim.Native.Nat.{ℕ, ◌+◌, ◌-◌, ◌*◌, ◌%◌, ◌<◌, ◌≤◌}
use mathlib.Core.Path.{◌≡◌, refl, sym, ◌∙◌, ap, subst}
use mathlib.Core.Logic.{◌⊎◌, inl, inr, ⊎_elim}
use mathlib.Core.List.{List}
use native.Mathlib.Nat.{mod-lt}
use native.Mathlib.Omega.{arith}
use native.Mathlib.Decide.{ℕ_discrete, dec_lt}
use lib.ListN.{length, get_or}
use Rattle.algebra.specs.Polynomial.{Polynomial}
use Rattle.modular.specs.Prime.{Prime}
use Rattle.modular.specs.Modulo.{modulo}
use Rattle.modular.specs.Residue.{residues}
use Rattle.vector.specs.Stored.{stored, length_stored, stored_all}
use Rattle.reduction.specs.Replace.{replace_other, replace_elim}
use Rattle.reduction.specs.Slots.{Slots, put}
use Rattle.reduction.specs.Trace.{State}
use Rattle.reduction.specs.Held.{Held}
use Rattle.solve_lattice.specs.Room.{level_words, inverses_from, tail_sizes_from, sizes_from, product_words, block_words, slot_words}
use Rattle.solve_lattice.specs.Room.{tail_words, lanes, most_coefficients}
use Rattle.solve_lattice.specs.Word.{words}
use Rattle.solve_lattice.specs.Memory.{row, height, ZeroFrom, Ends, Level, slot_size, tail_size, slot_inverse}
use Rattle.solve_lattice.specs.Memory.{ValidSlot, ValidLevel, Memory}
use Rattle.solve_lattice.specs.Noted.{noted_length, noted_other, noted_word, noted_size, noted_tail, noted_inverse}
use Rattle.solve_lattice.specs.Holding.{HoldsSlots, HoldsState}
use Rattle.solve_lattice.specs.Range.{zero_from_same, ends_same}
use Rattle.solve_lattice.specs.Reading.{held_same}
use Rattle.solve_lattice.proofs.SwappedWords.{Swap, slots₁, slots₂, level'}
use Rattle.solve_lattice.proofs.SwappedWords

-- a slot by its three numbers
slot_of : {p : ℕ} {L : Level} (q k t i : ℕ) → slot_size L q ≡ k → tail_size L q ≡ t → slot_inverse L q ≡ i
    → Ends p L (slot_words * q) block_words k → (0 < k → row k ≡ q)
    → (0 < k → i ≡ (modulo p).inverse (get_or L (slot_words * q + (k - 1)) 0))
    → t ≤ most_coefficients → ZeroFrom p L (slot_words * q + block_words) block_words t → ValidSlot p L q
slot_of q k t i ek et ei ends pivot inverts small behind = record {
  block = rw ek ends;
  pivot = rw ek pivot;
  inverse = rw (ek, ei) inverts;
  tail_within = rw et small;
  tail = rw et behind;
}

module _ {p : ℕ} (prime₀ : Prime p) {M : Memory} {t e m : ℕ} (E : Swap p M t e m) where
  abbrev k : ℕ
  k = M.hand.size

  abbrev q : ℕ
  q = row M.hand.size

  abbrev L : Level
  L = M.level

  pub positive : 0 < p
  positive = omega (arith, prime₀.large)

  pub slot : ValidSlot p M.level (row M.hand.size)
  slot = E.valid.level.slot (row M.hand.size) (omega arith)

  -- the numbers of the slot, and of another
  room₂ : level_words ≤ length (slots₂ p M e m)
  room₂ = omega (
    arith,
    E.valid.level.room,
    length_stored (λ j. get_or M.tail j 0 % p) (slots₁ p M e) (slot_words * q + block_words) m,
    length_stored (λ j. get_or M.block j 0 % p) L (slot_words * q) e,
  )

  pub size_here : slot_size (level' p M t e m) q ≡ k
  size_here = noted_size (slots₂ p M e m) q k t _ (omega arith) room₂

  number_other : (x : ℕ) → sizes_from ≤ x → ¬ (x ≡ sizes_from + q) → ¬ (x ≡ tail_sizes_from + q) → ¬ (x ≡ inverses_from + q)
      → get_or (level' p M t e m) x 0 ≡ get_or L x 0
  number_other x h a b c = noted_other (slots₂ p M e m) q k t _ x a b c ∙ SwappedWords.word_outside E x (inr (omega arith))

  pub size_other : (r : ℕ) → r < lanes → ¬ (r ≡ q) → slot_size (level' p M t e m) r ≡ slot_size L r
  size_other r h ne = number_other (sizes_from + r) (omega arith) (λ e. ne (omega arith)) (λ e. omega arith) (λ e. omega arith)

  tail_other : (r : ℕ) → r < lanes → ¬ (r ≡ q) → tail_size (level' p M t e m) r ≡ tail_size L r
  tail_other r h ne = number_other (tail_sizes_from + r) (omega arith) (λ e. omega arith) (λ e. ne (omega arith)) (λ e. omega arith)

  inverse_other : (r : ℕ) → r < lanes → ¬ (r ≡ q) → slot_inverse (level' p M t e m) r ≡ slot_inverse L r
  inverse_other r h ne = number_other (inverses_from + r) (omega arith) (λ e. omega arith) (λ e. omega arith) (λ e. ne (omega arith))

  slot_here : ValidSlot p (level' p M t e m) q
  slot_here = slot_of q k t _ size_here
      (noted_tail (slots₂ p M e m) q k t _ (omega arith) room₂) (noted_inverse (slots₂ p M e m) q k t _ (omega arith) room₂)
      (ends_same p prime₀ M.block (level' p M t e m) 0 (slot_words * q) product_words block_words
      (λ x. sym (SwappedWords.block_in E prime₀ x)) k
      E.room.block E.valid.hand.block)
      (λ some. refl)
      (λ some. ap (modulo p).inverse
      (E.valid.hand.leading some ∙ sym (SwappedWords.word_block E (k - 1) (omega (arith, E.blocks)))))
      (SwappedWords.tail_small E)
      (zero_from_same p prime₀ M.tail (level' p M t e m) 0 (slot_words * q + block_words) tail_words block_words
      (λ x. sym (SwappedWords.tail_in E prime₀ x)) t
      E.tail.behind)

  apart : (r : ℕ) → ¬ (r ≡ q) → (slot_words * r + tail_words ≤ slot_words * q) ⊎ (slot_words * q + tail_words ≤ slot_words * r)
  apart r ne = go (dec_lt r q)
    where
      go : Dec (r < q) → (slot_words * r + tail_words ≤ slot_words * q) ⊎ (slot_words * q + tail_words ≤ slot_words * r)
      go (yes h) = inl (omega arith)
      go (no h) = inr (omega arith)

  -- of another slot the words stay, block and tail
  block_kept : (prime : Prime p) (r : ℕ) → r < lanes → ¬ (r ≡ q)
      → (x : ℕ) → words p prime L (slot_words * r) block_words x ≡ words p prime (level' p M t e m) (slot_words * r) block_words x
  block_kept prime r h ne x = sym (SwappedWords.slot_kept E prime (slot_words * r) (omega arith)
      (⊎_elim (λ lo. inl (omega arith)) (λ hi. inr (omega arith)) (apart r ne)) x)

  tail_kept : (prime : Prime p) (r : ℕ) → r < lanes → ¬ (r ≡ q)
      → (x : ℕ) → words p prime L (slot_words * r + block_words) block_words x ≡ words p prime (level' p M t e m)
      (slot_words * r + block_words) block_words x
  tail_kept prime r h ne x = sym (SwappedWords.slot_kept E prime (slot_words * r + block_words) (omega arith)
      (⊎_elim (λ lo. inl (omega arith)) (λ hi. inr (omega arith)) (apart r ne)) x)

  slot_other : (r : ℕ) → r < lanes → ¬ (r ≡ q) → ValidSlot p (level' p M t e m) r
  slot_other r h ne =
      let old = E.valid.level.slot r h in
      slot_of r (slot_size L r) (tail_size L r) (slot_inverse L r) (size_other r h ne) (tail_other r h ne) (inverse_other r h ne)
      (ends_same p prime₀ L (level' p M t e m) (slot_words * r) (slot_words * r) block_words block_words (block_kept prime₀ r h ne)
      (slot_size L r)
      old.block.within old.block)
      old.pivot
      (λ some. old.inverse some
      ∙ ap (modulo p).inverse (sym (noted_word (slots₂ p M e m) q k t _ _ (omega (arith, old.block.within))
      ∙ SwappedWords.word_outside E (slot_words * r + (slot_size L r - 1))
      (⊎_elim (λ lo. inl (omega (arith, old.block.within))) (λ hi. inr (omega arith)) (apart r ne)))))
      old.tail_within
      (zero_from_same p prime₀ L (level' p M t e m) (slot_words * r + block_words) (slot_words * r + block_words) block_words block_words
      (tail_kept prime₀ r h ne)
      (tail_size L r) old.tail)

  -- what is stored to the slot is reduced
  below_stored : (w s : List ℕ) (b n : ℕ) → b + n ≤ length s → ((i : ℕ) → i < sizes_from → get_or s i 0 < p)
      → (i : ℕ) → i < sizes_from → get_or (stored (λ j. get_or w j 0 % p) s b n) i 0 < p
  below_stored w s b n room below =
      stored_all (λ i x. i < sizes_from → x < p) (λ j. get_or w j 0 % p) s _ b n refl room
      (λ j lt h. mod-lt (get_or w j 0) positive) (λ i out. below i)

  pub below₁ : (i : ℕ) → i < sizes_from → get_or (slots₁ p M e) i 0 < p
  below₁ = below_stored M.block L (slot_words * q) e (omega (arith, SwappedWords.blocks_fit E, E.valid.level.room))
      E.valid.level.below

  below₂ : (i : ℕ) → i < sizes_from → get_or (slots₂ p M e m) i 0 < p
  below₂ = below_stored M.tail (slots₁ p M e) (slot_words * q + block_words) m (omega (
    arith,
    SwappedWords.tails_fit E,
    E.valid.level.room,
    length_stored (λ j. get_or M.block j 0 % p) L (slot_words * q) e,
  )) below₁

  pub level_valid : ValidLevel p (level' p M t e m)
  level_valid = record {
    room = omega (arith, room₂, noted_length (slots₂ p M e m) q k t ((modulo p).inverse M.hand.leading));
    below = λ i h. omega (arith, noted_word (slots₂ p M e m) q k t ((modulo p).inverse M.hand.leading) i h, below₂ i h);
    slot = λ r h. each r h (ℕ_discrete r q);
  }
    where
      each : (r : ℕ) → r < lanes → Dec (r ≡ q) → ValidSlot p (level' p M t e m) r
      each r h (yes same) = subst (ValidSlot p (level' p M t e m)) (sym same) slot_here
      each r h (no ne) = slot_other r h ne

  -- the slots that the level now holds
  module _ (prime : Prime p) (n : ℕ) (ω : ℕ → ℕ) (s : State (Polynomial (residues p prime)))
      (holds : HoldsState p prime n ω M s) where
    abbrev after : Slots (Polynomial (residues p prime))
    after = put s.slots (row M.hand.size) s.hand s.size

    few_rows : n ≤ lanes
    few_rows = holds.hand.block.lanes

    pub level_holds : HoldsSlots p prime n ω (level' p M t e m) (put s.slots (row M.hand.size) s.hand s.size)
    level_holds = record {
      size = λ r. replace_elim (λ r d. r < n → d ≡ height (slot_size (level' p M t e m) r)) s.slots.size
          (row M.hand.size) s.size (λ h. holds.size ∙ ap height (sym size_here)) r
          (λ ne h. holds.slots.size r h ∙ ap height (sym (size_other r (omega (arith, few_rows)) ne)));
      vector = λ r. replace_elim
          (λ r v. r < n → 0 < after.size r → Held (residues p prime) n lanes ω
          (words p prime (level' p M t e m) (slot_words * r) block_words)
          (words p prime (level' p M t e m) (slot_words * r + block_words) block_words) v)
          s.slots.at (row M.hand.size) s.hand
          (λ h f. held_same (λ x. sym (SwappedWords.block_in E prime x)) (λ x. sym (SwappedWords.tail_in E prime x)) holds.hand)
          r
          (λ ne h f. held_same (block_kept prime r (omega (arith, few_rows)) ne) (tail_kept prime r (omega (arith, few_rows)) ne)
          (holds.slots.vector r h (omega (arith, replace_other s.slots.size (row M.hand.size) s.size r ne))));
    }
