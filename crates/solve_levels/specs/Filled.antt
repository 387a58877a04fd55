-- A level with a block put into an empty slot: it is in order, it holds the slots with the block put in, and emptied again it is
-- the level of before.
use Rattle.std.specs.Prelude.{ℕ, ◌+◌, ◌-◌, ◌*◌, ◌%◌, ◌<◌, ◌≤◌, ◌≡◌, ◌⊎◌, List, length, get_or, set}
use Rattle.std.proofs.Common.{sym, ◌∙◌, ap, subst, inl, inr, ⊎_elim, mod-eq_of_lt, mod-lt, zero-add, arith, length-set, get_or-set_same, get_or-set_other, ext_get_or}
use Rattle.std.proofs.Math.Nat.{zero-mod}
use Rattle.std.proofs.Math.Decide.{ℕ_discrete}
use Rattle.algebra.specs.Polynomial.{Polynomial}
use Rattle.modular.specs.Prime.{Prime}
use Rattle.modular.specs.Modulo.{modulo}
use Rattle.modular.specs.Residue.{residues}
use Rattle.vector.specs.Stored.{stored, length_stored, stored_inside, stored_outside, below_or_not}
use Rattle.reduction.specs.Replace.{replace_here, replace_other, extend}
use Rattle.reduction.specs.Slots.{Slots, put}
use Rattle.reduction.specs.Holds.{read, read_holds}
use Rattle.reduction.specs.Flat.{Flat}
use Rattle.reduction.specs.Held.{Held}
use Rattle.solve_lattice.specs.Word.{words, words_behind}
use Rattle.solve_lattice.specs.Room.{lanes, block_words, slot_words, sizes_from, inverses_from, level_words, tail_sizes_from}
use Rattle.solve_lattice.specs.Room.{most_coefficients}
use Rattle.solve_lattice.specs.Memory.{row, height, Ends, Level, slot_size, tail_size, slot_inverse, ValidSlot, ValidLevel}
use Rattle.solve_lattice.specs.Holding.{HoldsSlots}
use Rattle.solve_lattice.specs.Range.{words_same}
use Rattle.solve_lattice.specs.Reading.{flat_same, held_same}
use Rattle.solve_lattice.specs.SameBlocks.{held_extend}

-- size and inverse of slot q set behind the slots of a level
abbrev pub renumbered : Level → (q k i : ℕ) → Level
renumbered L q k i = set (set L (sizes_from + q) k) (inverses_from + q) i

module _ (L : Level) (q k i : ℕ) where
  renumbered_length : length (renumbered L q k i) ≡ length L
  renumbered_length = length-set (set L (sizes_from + q) k) (inverses_from + q) i ∙ length-set L (sizes_from + q) k

  renumbered_other : (x : ℕ) → ¬ (x ≡ sizes_from + q) → ¬ (x ≡ inverses_from + q) → get_or (renumbered L q k i) x 0 ≡ get_or L x 0
  renumbered_other x a b =
      get_or-set_other (set L (sizes_from + q) k) (inverses_from + q) x i 0 b ∙ get_or-set_other L (sizes_from + q) x k 0 a

  module _ (inside : q < lanes) (room : level_words ≤ length L) where
    renumbered_size : slot_size (renumbered L q k i) q ≡ k
    renumbered_size =
        get_or-set_other (set L (sizes_from + q) k) (inverses_from + q) (sizes_from + q) i 0 (λ e. omega arith)
        ∙ get_or-set_same L (sizes_from + q) k 0 (omega arith)

    renumbered_inverse : slot_inverse (renumbered L q k i) q ≡ i
    renumbered_inverse = get_or-set_same (set L (sizes_from + q) k) (inverses_from + q) i 0
        (omega (arith, length-set L (sizes_from + q) k))

-- the first `size` words of the block, reduced, in slot q
abbrev pub filled : ℕ → Level → ℕ → List ℕ → ℕ → Level
filled p L q block size = renumbered (stored (λ j. get_or block j 0 % p) L (slot_words * q) size) q size
    ((modulo p).inverse (get_or block (size - 1) 0 % p))

-- no block in slot q, and this inverse in its place
abbrev pub emptied : Level → ℕ → ℕ → Level
emptied L q inverse = renumbered (stored (λ j. 0) L (slot_words * q) block_words) q 0 inverse

-- what stands in the place of its tail
abbrev pub tail_of : (p : ℕ) (prime : Prime p) → Level → ℕ → Polynomial (residues p prime)
tail_of p prime L q = read (residues p prime) block_words (words p prime L (slot_words * q + block_words) block_words)

module _ {p : ℕ} {L : Level} (valid : ValidLevel p L) (q : ℕ) (inside : q < lanes) (empty : slot_size L q ≡ 0) (block : List ℕ)
    (size : ℕ) (ends : Ends p block 0 block_words size) where
  abbrev F : Level
  F = filled p L q block size

  abbrev word : ℕ → ℕ
  word j = get_or block j 0 % p

  -- the level with the words of the block, before its numbers
  abbrev W : Level
  W = stored (λ j. get_or block j 0 % p) L (slot_words * q) size

  abbrev inverse : ℕ
  inverse = (modulo p).inverse (get_or block (size - 1) 0 % p)

  positive : 0 < p
  positive = omega (arith, valid.below 0 (omega arith))

  room : level_words ≤ length W
  room = omega (arith, valid.room, length_stored word L (slot_words * q) size)

  -- the slot was empty
  nothing : (j : ℕ) → j < block_words → get_or L (slot_words * q + j) 0 ≡ 0
  nothing j lt = sym (mod-eq_of_lt (valid.below (slot_words * q + j) (omega arith)))
      ∙ (valid.slot q inside).block.behind j (omega (arith, empty)) lt

  -- the words of the slots, and the numbers of other slots
  slot_word : (x : ℕ) → x < sizes_from → get_or F x 0 ≡ get_or W x 0
  slot_word x h = renumbered_other W q size inverse x (λ e. omega arith) (λ e. omega arith)

  number_other : (x : ℕ) → sizes_from ≤ x → ¬ (x ≡ sizes_from + q) → ¬ (x ≡ inverses_from + q) → get_or F x 0 ≡ get_or L x 0
  number_other x h a b =
      renumbered_other W q size inverse x a b ∙ stored_outside word L (slot_words * q) size x (inr (omega (arith, ends.within)))

  here : (j : ℕ) → j < size → get_or F (slot_words * q + j) 0 ≡ word j
  here j lt = slot_word (slot_words * q + j) (omega (arith, ends.within))
      ∙ stored_inside word L (slot_words * q) size j (omega (arith, valid.room, ends.within)) lt

  same_residue : (j : ℕ) → j < block_words → get_or block (0 + j) 0 % p ≡ get_or F (slot_words * q + j) 0 % p
  same_residue j lt =
      ⊎_elim
      (λ counts.
      ap (λ i. get_or block i 0 % p) (zero-add j)
      ∙ sym (ap (λ w. w % p) (here j counts) ∙ mod-eq_of_lt (mod-lt (get_or block j 0) positive)))
      (λ past. ends.behind j past lt ∙ sym (ap (λ w. w % p) (slot_word (slot_words * q + j) (omega arith)
      ∙ stored_outside word L (slot_words * q) size (slot_words * q + j) (inr (omega arith)) ∙ nothing j lt) ∙ zero-mod p))
      (below_or_not j size)

  size_here : slot_size F q ≡ size
  size_here = renumbered_size W q size inverse inside room

  size_other : (i : ℕ) → i < lanes → ¬ (i ≡ q) → slot_size F i ≡ slot_size L i
  size_other i h other = number_other (sizes_from + i) (omega arith) (λ e. other (omega arith)) (λ e. omega arith)

  -- the words of other slots, and tails
  apart : (i j : ℕ) → i < lanes → j < slot_words → (i ≡ q → block_words ≤ j)
      → get_or F (slot_words * i + j) 0 ≡ get_or L (slot_words * i + j) 0
  apart i j h lt tail = slot_word (slot_words * i + j) (omega arith)
      ∙ stored_outside word L (slot_words * q) size (slot_words * i + j) (go (ℕ_discrete i q))
    where
      go : Dec (i ≡ q) → (slot_words * i + j < slot_words * q) ⊎ (slot_words * q + size ≤ slot_words * i + j)
      go (yes e) = inr (omega (arith, tail e, ends.within))
      go (no e) = ⊎_elim (λ less. inl (omega arith)) (λ more. inr (omega (arith, ends.within))) (below_or_not i q)

  tail_apart : (i j : ℕ) → i < lanes → j < block_words → get_or F (slot_words * i + block_words + j) 0 ≡ get_or L
      (slot_words * i + block_words + j) 0
  tail_apart i j h lt =
      let place : slot_words * i + block_words + j ≡ slot_words * i + (block_words + j) = omega arith in
      ap (λ x. get_or F x 0) place ∙ apart i (block_words + j) h (omega arith) (λ e. omega arith) ∙ ap (λ x. get_or L x 0) (sym place)

  tail_kept : (i : ℕ) → i < lanes → ValidSlot p L i → (tail_size F i ≤ most_coefficients)
      × ((j : ℕ) → tail_size F i ≤ j → j < block_words → get_or F (slot_words * i + block_words + j) 0 % p ≡ 0)
  tail_kept i h old =
      let same : tail_size F i ≡ tail_size L i = number_other (tail_sizes_from + i) (omega arith) (λ e. omega arith)
      (λ e. omega arith) in
      (omega (arith, old.tail_within), λ j ge lt. ap (λ w. w % p) (tail_apart i j h lt) ∙ old.tail j (omega arith) lt)

  slot_here : 0 < size → row size ≡ q → ValidSlot p F q
  slot_here some at = record {
    block = subst (Ends p F (slot_words * q) block_words) (sym size_here) record {
      within = ends.within;
      last = λ f. subst (λ w. 0 < w) (same_residue (size - 1) (omega (arith, ends.within))) (ends.last f);
      behind = λ j ge lt. sym (same_residue j lt) ∙ ends.behind j ge lt;
    };
    pivot = λ f. ap row size_here ∙ at;
    inverse = λ f.
        renumbered_inverse W q size inverse inside room
        ∙ ap (λ w. (modulo p).inverse w) (sym (ap (λ k. get_or F (slot_words * q + (k - 1)) 0) size_here
        ∙ here (size - 1) (omega arith)));
    tail_within = (tail_kept q inside (valid.slot q inside)).0;
    tail = (tail_kept q inside (valid.slot q inside)).1;
  }

  slot_other : (i : ℕ) → i < lanes → ¬ (i ≡ q) → ValidSlot p F i
  slot_other i h other =
      let old = valid.slot i h in
      let same : slot_size F i ≡ slot_size L i = size_other i h other in
      let last : get_or F (slot_words * i + (slot_size L i - 1)) 0 ≡ get_or L (slot_words * i + (slot_size L i - 1)) 0 =
      apart i (slot_size L i - 1) h (omega (arith, old.block.within)) (λ e. absurd (other e)) in record {
        block = subst (Ends p F (slot_words * i) block_words) (sym same) record {
          within = old.block.within;
          last = λ f. subst (λ w. 0 < w % p) (sym last) (old.block.last f);
          behind = λ j ge lt. ap (λ w. w % p) (apart i j h (omega arith) (λ e. absurd (other e))) ∙ old.block.behind j ge lt;
        };
        pivot = λ f. ap row same ∙ old.pivot (omega arith);
        inverse = λ f.
            number_other (inverses_from + i) (omega arith) (λ e. omega arith) (λ e. other (omega arith))
            ∙ old.inverse (omega arith)
            ∙ ap (λ w. (modulo p).inverse w) (sym (ap (λ k. get_or F (slot_words * i + (k - 1)) 0) same ∙ last));
        tail_within = (tail_kept i h old).0;
        tail = (tail_kept i h old).1;
      }

  pub filled_valid : 0 < size → row size ≡ q → ValidLevel p (filled p L q block size)
  filled_valid some at = record {
    room = omega (arith, room, renumbered_length W q size inverse);
    below = λ x h. subst (λ w. w < p) (sym (slot_word x h))
        (below x h (below_or_not x (slot_words * q)) (below_or_not x (slot_words * q + size)));
    slot = λ i h. go i h (ℕ_discrete i q);
  }
    where
      below : (x : ℕ) → x < sizes_from → (x < slot_words * q) ⊎ (slot_words * q ≤ x)
          → (x < slot_words * q + size) ⊎ (slot_words * q + size ≤ x) → get_or W x 0 < p
      below x h (inl lo) c = omega (arith, stored_outside word L (slot_words * q) size x (inl lo), valid.below x h)
      below x h (inr ge) (inr hi) = omega (arith, stored_outside word L (slot_words * q) size x (inr hi), valid.below x h)
      below x h (inr ge) (inl lt) =
          let place : x ≡ slot_words * q + (x - slot_words * q) = omega arith in
          omega (
            arith,
            ap (λ i. get_or W i 0) place,
            stored_inside word L (slot_words * q) size (x - slot_words * q) (omega (arith, valid.room, ends.within)) (omega arith),
            mod-lt (get_or block (x - slot_words * q) 0) positive,
          )

      go : (i : ℕ) → i < lanes → Dec (i ≡ q) → ValidSlot p F i
      go i h (yes e) = subst (ValidSlot p F) (sym e) (slot_here some at)
      go i h (no e) = slot_other i h e

  -- emptied again, but for its numbers: the words of the slot were 0
  abbrev Z : Level
  Z = stored (λ j. 0) (filled p L q block size) (slot_words * q) block_words

  pub emptied_filled : emptied (filled p L q block size) q (slot_inverse L q) ≡ L
  emptied_filled = ext_get_or 0 _ _ same_length (λ x lt. numbers x (ℕ_discrete x (sizes_from + q)) (ℕ_discrete x (inverses_from + q)))
    where
      zero_room : level_words ≤ length Z
      zero_room = omega (arith, room, renumbered_length W q size inverse, length_stored (λ j. 0) F (slot_words * q) block_words)

      same_length : length (emptied F q (slot_inverse L q)) ≡ length L
      same_length =
          renumbered_length Z q 0 (slot_inverse L q)
          ∙ length_stored (λ j. 0) F (slot_words * q) block_words
          ∙ renumbered_length W q size inverse
          ∙ length_stored word L (slot_words * q) size

      outside : (x : ℕ) → ¬ (x ≡ sizes_from + q) → ¬ (x ≡ inverses_from + q) → (x < slot_words * q) ⊎ (slot_words * q + block_words ≤ x)
          → get_or Z x 0 ≡ get_or L x 0
      outside x a b out =
          stored_outside (λ j. 0) F (slot_words * q) block_words x out
          ∙ renumbered_other W q size inverse x a b
          ∙ stored_outside word L (slot_words * q) size x (⊎_elim inl (λ hi. inr (omega (arith, ends.within))) out)

      words_of : (x : ℕ) → ¬ (x ≡ sizes_from + q) → ¬ (x ≡ inverses_from + q) → (x < slot_words * q) ⊎ (slot_words * q ≤ x)
          → (x < slot_words * q + block_words) ⊎ (slot_words * q + block_words ≤ x) → get_or Z x 0 ≡ get_or L x 0
      words_of x a b (inl lo) h = outside x a b (inl lo)
      words_of x a b (inr ge) (inr hi) = outside x a b (inr hi)
      words_of x a b (inr ge) (inl lt) =
          let place : x ≡ slot_words * q + (x - slot_words * q) = omega arith in
          ap (λ i. get_or Z i 0) place
          ∙ stored_inside (λ j. 0) F (slot_words * q) block_words (x - slot_words * q)
          (omega (arith, room, renumbered_length W q size inverse)) (omega arith)
          ∙ sym (ap (λ i. get_or L i 0) place ∙ nothing (x - slot_words * q) (omega arith))

      numbers : (x : ℕ) → Dec (x ≡ sizes_from + q) → Dec (x ≡ inverses_from + q)
          → get_or (emptied F q (slot_inverse L q)) x 0 ≡ get_or L x 0
      numbers x (yes e) c =
          ap (λ i. get_or (emptied F q (slot_inverse L q)) i 0) e
          ∙ renumbered_size Z q 0 (slot_inverse L q) inside zero_room
          ∙ sym (ap (λ i. get_or L i 0) e ∙ empty)
      numbers x (no a) (yes e) =
          ap (λ i. get_or (emptied F q (slot_inverse L q)) i 0) e
          ∙ renumbered_inverse Z q 0 (slot_inverse L q) inside zero_room
          ∙ sym (ap (λ i. get_or L i 0) e)
      numbers x (no a) (no b) =
          renumbered_other Z q 0 (slot_inverse L q) x a b
          ∙ words_of x a b (below_or_not x (slot_words * q)) (below_or_not x (slot_words * q + block_words))

  -- what it holds
  module _ (prime : Prime p) (n : ℕ) (ω : ℕ → ℕ) (U : Slots (Polynomial (residues p prime)))
      (a : ℕ → Polynomial (residues p prime)) where
    abbrev new_vector : ℕ → Polynomial (residues p prime)
    new_vector = extend n a (tail_of p prime L q)

    abbrev U' : Slots (Polynomial (residues p prime))
    U' = put U q (extend n a (tail_of p prime L q)) (height size)

    pub filled_holds : HoldsSlots p prime n ω L U → Flat (residues p prime) n lanes ω (words p prime block 0 block_words) a
        → HoldsSlots p prime n ω (filled p L q block size)
        (put U q (extend n a (tail_of p prime L q)) (height size))
    filled_holds holds A = record {
      size = λ i h. sizes i h (ℕ_discrete i q);
      vector = λ i h f. vector i h f (ℕ_discrete i q);
    }
      where
        low : (i : ℕ) → i < n → i < lanes
        low i h = omega (arith, A.lanes)

        sizes : (i : ℕ) → i < n → Dec (i ≡ q) → U'.size i ≡ height (slot_size F i)
        sizes i h (yes e) =
            ap U'.size e ∙ replace_here U.size q (height size) ∙ sym (ap (λ x. height (slot_size F x)) e ∙ ap height size_here)
        sizes i h (no e) =
            replace_other U.size q (height size) i e ∙ holds.size i h ∙ ap height (sym (size_other i (low i h) e))

        tails : (i : ℕ) → i < lanes → (x : ℕ) → words p prime L (slot_words * i + block_words) block_words x ≡ words p prime F
            (slot_words * i + block_words) block_words x
        tails i h x = words_same p prime L F (slot_words * i + block_words) (slot_words * i + block_words) block_words x
            (λ lt. ap (λ w. w % p) (sym (tail_apart i x h lt)))

        new : Held (residues p prime) n lanes ω (words p prime F (slot_words * q) block_words)
            (words p prime F (slot_words * q + block_words) block_words)
            new_vector
        new = held_extend
            (flat_same (λ x. words_same p prime block F 0 (slot_words * q) block_words x (same_residue x)) A)
            (record {
              at = λ e. (read_holds (residues p prime) block_words (words p prime L (slot_words * q + block_words) block_words)
                  (λ k ge. words_behind p prime L (slot_words * q + block_words) block_words k ge)).at e ∙ tails q inside e;
            })

        vector : (i : ℕ) → i < n → 0 < U'.size i → Dec (i ≡ q)
            → Held (residues p prime) n lanes ω (words p prime F (slot_words * i) block_words)
            (words p prime F (slot_words * i + block_words) block_words)
            (U'.at i)
        vector i h f (yes e) = subst (λ x. Held (residues p prime) n lanes ω (words p prime F (slot_words * x) block_words)
            (words p prime F (slot_words * x + block_words) block_words) (U'.at x)) (sym e)
            (subst (Held (residues p prime) n lanes ω (words p prime F (slot_words * q) block_words)
            (words p prime F (slot_words * q + block_words) block_words)) (sym (replace_here U.at q new_vector)) new)
        vector i h f (no e) = subst (Held (residues p prime) n lanes ω (words p prime F (slot_words * i) block_words)
            (words p prime F (slot_words * i + block_words) block_words)) (sym (replace_other U.at q new_vector i e))
            (held_same (λ x. words_same p prime L F (slot_words * i) (slot_words * i) block_words x
            (λ lt. ap (λ w. w % p) (sym (apart i x (low i h) (omega arith) (λ r. absurd (e r)))))) (tails i (low i h))
            (holds.vector i h (omega (arith, replace_other U.size q (height size) i e))))
