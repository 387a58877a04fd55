-- A slot with what was found put back: the level stays in order, and holds the slots with that vector, which is reduced.
use Rattle.std.specs.Prelude.{ℕ, suc, ◌+◌, ◌-◌, ◌*◌, ◌%◌, ◌<◌, ◌≤◌, max, ◌≡◌, refl, ◌⊎◌, List, length, get_or}
use Rattle.std.proofs.Common.{sym, ◌∙◌, ap, subst, inl, inr, ⊎_elim, mod-lt, mod-eq_of_lt, zero-add, arith, length-set, get_or-set_same, get_or-set_other}
use Rattle.std.proofs.Math.Nat.{zero-mod}
use Rattle.std.proofs.Math.Decide.{ℕ_discrete, dec_lt}
use Rattle.std.proofs.Math.ListN.{get_or-eq_default}
use Rattle.algebra.specs.Expressions.{shift_zero}
use Rattle.algebra.specs.Polynomial.{Polynomial}
use Rattle.algebra.specs.Size.{size, sized}
use Rattle.modular.specs.Prime.{Prime}
use Rattle.modular.specs.Modulo.{modulo}
use Rattle.modular.specs.Residue.{residues}
use Rattle.vector.specs.Stored.{stored, length_stored, stored_inside, stored_outside, stored_all, below_or_not}
use Rattle.reduction.specs.Replace.{replace_elim}
use Rattle.reduction.specs.Slots.{Slots, unweighted, put, put_sizes}
use Rattle.reduction.specs.Popov.{SlotPopov}
use Rattle.reduction.specs.Holds.{Holds, holds_size}
use Rattle.reduction.specs.Flat.{flat}
use Rattle.reduction.specs.Held.{Held}
use Rattle.solve_lattice.specs.Room.{lanes, block_words, slot_words, tail_words, product_words, most_coefficients}
use Rattle.solve_lattice.specs.Room.{sizes_from, tail_sizes_from, inverses_from}
use Rattle.solve_lattice.specs.Word.{words, residue_zero, words_first}
use Rattle.solve_lattice.specs.Memory.{row, height, ZeroFrom, Ends, Level, slot_size, tail_size, slot_inverse, ValidSlot, ValidLevel}
use Rattle.solve_lattice.specs.Holding.{HoldsSlots}
use Rattle.solve_lattice.specs.Range.{ends_most, words_same, words_zero, words_slot, zero_from_same}
use Rattle.solve_lattice.specs.Reading.{held_same}
use Rattle.solve_lattice.specs.Remainder.{HoldsReduced}
use Rattle.solve_descent.specs.Kernel.{ValidKernel}
use Rattle.solve_popov.specs.Words.{held_zero_from}
use Rattle.solve_popov.specs.Rework.{ReducedFound, slot_stored, HoldsReworked, SlotReworked}

-- the words of d are as many as its coefficients
pub d_size : {p : ℕ} (prime : Prime p) (x : Polynomial (residues p prime)) {d : List ℕ} {count : ℕ} → Ends p d 0 block_words count
    → Holds (residues p prime) (words p prime d 0 block_words) x → count ≡ size (residues p prime) x
d_size {p} prime x {d} {count} ends D = omega (
  arith,
  ends_most d 0 block_words count (size (residues p prime) x) ends (held_zero_from p prime d 0 block_words _ D (omega arith)),
  holds_size (residues p prime) D count (words_zero p prime d 0 block_words count ends.behind),
)

module _ {p : ℕ} (prime₀ : Prime p) {L : Level} (valid : ValidLevel p L) {i : ℕ} (inside : i < lanes) (some : 0 < slot_size L i)
    {d : List ℕ} {count : ℕ} (kernel : ValidKernel p d count) (count_some : 0 < count) (small : count ≤ most_coefficients)
    {block tail : List ℕ} (R : ReducedFound p L i d count block tail) where
  abbrev b : ℕ
  b = slot_words * i

  abbrev m : ℕ
  m = slot_size L i

  -- words of the tail that are written
  abbrev t : ℕ
  t = max (tail_size L i) (count - 1)

  abbrev L₁ : Level
  L₁ = stored (λ j. get_or block j 0 % p) L (slot_words * i) (slot_size L i)

  abbrev L₂ : Level
  L₂ = stored (λ j. get_or tail j 0 % p) (stored (λ j. get_or block j 0 % p) L (slot_words * i) (slot_size L i))
      (slot_words * i + block_words) (max (tail_size L i) (count - 1))

  abbrev L' : Level
  L' = slot_stored p L i block tail (count - 1)

  old : ValidSlot p L i
  old = valid.slot i inside

  few : t ≤ most_coefficients
  few = omega (arith, old.tail_within)

  length₁ : length L₁ ≡ length L
  length₁ = length_stored (λ j. get_or block j 0 % p) L b m

  length₂ : length L₂ ≡ length L
  length₂ = length_stored (λ j. get_or tail j 0 % p) L₁ (b + block_words) t ∙ length₁

  -- words that are not written
  kept₁ : (x : ℕ) → (x < b) ⊎ (b + m ≤ x) → get_or L₁ x 0 ≡ get_or L x 0
  kept₁ x out = stored_outside (λ j. get_or block j 0 % p) L b m x out

  kept₂ : (x : ℕ) → (x < b + block_words) ⊎ (b + block_words + t ≤ x) → get_or L₂ x 0 ≡ get_or L₁ x 0
  kept₂ x out = stored_outside (λ j. get_or tail j 0 % p) L₁ (b + block_words) t x out

  noted : (x : ℕ) → ¬ (x ≡ tail_sizes_from + i) → get_or L' x 0 ≡ get_or L₂ x 0
  noted x ne = get_or-set_other L₂ (tail_sizes_from + i) x (count - 1) 0 ne

  kept : (x : ℕ) → (x < b) ⊎ (b + slot_words ≤ x) → ¬ (x ≡ tail_sizes_from + i) → get_or L' x 0 ≡ get_or L x 0
  kept x out ne =
      noted x ne
      ∙ kept₂ x (⊎_elim (λ lo. inl (omega arith)) (λ hi. inr (omega (arith, few))) out)
      ∙ kept₁ x (⊎_elim (λ lo. inl lo) (λ hi. inr (omega (arith, old.block.within))) out)

  -- those of another slot
  kept_other : (q x : ℕ) → ¬ (q ≡ i) → x < slot_words → q < lanes → get_or L' (slot_words * q + x) 0 ≡ get_or L (slot_words * q + x) 0
  kept_other q x ne lt l = kept (slot_words * q + x) (apart (dec_lt i q)) (λ e. omega arith)
    where
      apart : Dec (i < q) → (slot_words * q + x < b) ⊎ (b + slot_words ≤ slot_words * q + x)
      apart (yes h) = inr (omega arith)
      apart (no h) = inl (omega arith)

  sizes : (q : ℕ) → q < lanes → slot_size L' q ≡ slot_size L q
  sizes q l = kept (sizes_from + q) (inr (omega arith)) (λ e. omega arith)

  inverses : (q : ℕ) → q < lanes → slot_inverse L' q ≡ slot_inverse L q
  inverses q l = kept (inverses_from + q) (inr (omega arith)) (λ e. omega arith)

  tail_size_lem : (q : ℕ) → q < lanes → ¬ (q ≡ i) → tail_size L' q ≡ tail_size L q
  tail_size_lem q l ne = kept (tail_sizes_from + q) (inr (omega arith)) (λ e. ne (omega arith))

  tail_here : tail_size L' i ≡ count - 1
  tail_here = get_or-set_same L₂ (tail_sizes_from + i) (count - 1) 0 (omega (arith, length₂, valid.room))

  -- the last word of the slot, and those behind it
  last_kept : (j : ℕ) → m - 1 ≤ j → j < block_words → get_or L' (b + j) 0 ≡ get_or L (b + j) 0
  last_kept j h lt =
      noted (b + j) (λ e. omega arith)
      ∙ kept₂ (b + j) (inl (omega arith))
      ∙ ⊎_elim
      (λ in_slot.
      stored_inside (λ j. get_or block j 0 % p) L b m j (omega (arith, valid.room, old.block.within)) in_slot
      ∙ ap (λ w. w % p) (R.kept j h lt)
      ∙ mod-eq_of_lt (valid.below (b + j) (omega arith)))
      (λ past. kept₁ (b + j) (inr (omega arith)))
      (below_or_not j m)

  block_behind : ZeroFrom p block 0 product_words m
  block_behind j ge lt =
      ap (λ x. get_or block x 0 % p) (zero-add j)
      ∙ ⊎_elim
      (λ less. ap (λ w. w % p) (R.kept j (omega arith) less) ∙ old.block.behind j ge less)
      (λ more. ap (λ w. w % p) (get_or-eq_default block 0 (omega (arith, R.room))) ∙ zero-mod p)
      (below_or_not j block_words)

  module _ (prime : Prime p) where
    words_block : (x : ℕ) → words p prime block 0 product_words x ≡ words p prime L' (slot_words * i) block_words x
    words_block x = sym (
        words_same p prime L' L₁ b b block_words x (λ lt. ap (λ w. w % p)
        (noted (b + x) (λ e. omega arith) ∙ kept₂ (b + x) (inl (omega arith))))
        ∙ words_slot p prime block L b m block_words product_words old.block.within (omega arith)
        (omega (arith, R.room, old.block.within)) (omega (arith, valid.room)) block_behind old.block.behind x)

    words_tail : (x : ℕ) → words p prime tail 0 tail_words x ≡ words p prime L' (slot_words * i + block_words) block_words x
    words_tail x = sym (
        words_same p prime L' L₂ (b + block_words) (b + block_words) block_words x
        (λ lt. ap (λ w. w % p) (noted (b + block_words + x) (λ e. omega arith)))
        ∙ words_slot p prime tail L₁ (b + block_words) t block_words tail_words (omega (arith, few)) (omega arith)
        (omega (arith, R.tail_room, few)) (omega (arith, length₁, valid.room)) (λ j ge lt. R.short j (omega arith) lt)
        (λ j ge lt. ap (λ w. w % p) (kept₁ (b + block_words + j) (inr (omega (arith, old.block.within))))
        ∙ old.tail j (omega arith) lt) x)

    words_other : (q : ℕ) → q < lanes → ¬ (q ≡ i) → (x : ℕ)
        → words p prime L (slot_words * q) block_words x ≡ words p prime L' (slot_words * q) block_words x
    words_other q l ne x = words_same p prime L L' (slot_words * q) (slot_words * q) block_words x
        (λ lt. ap (λ w. w % p) (sym (kept_other q x ne (omega arith) l)))

    tail_other : (q : ℕ) → q < lanes → ¬ (q ≡ i) → (x : ℕ)
        → words p prime L (slot_words * q + block_words) block_words x ≡ words p prime L' (slot_words * q + block_words) block_words x
    tail_other q l ne x = words_same p prime L L' (slot_words * q + block_words) (slot_words * q + block_words) block_words x (λ lt.
        let place : slot_words * q + (block_words + x) ≡ slot_words * q + block_words + x = omega arith in
        ap (λ w. w % p) (sym (subst (λ y. get_or L' y 0 ≡ get_or L y 0) place (kept_other q (block_words + x) ne (omega arith) l))))

  -- the slot's words in order: those that its size and inverse speak of stay
  block_ends : (q : ℕ) → q < lanes → Dec (q ≡ i) → Ends p L' (slot_words * q) block_words (slot_size L q)
  block_ends q l (yes e) = subst (λ q. Ends p L' (slot_words * q) block_words (slot_size L q)) (sym e) record {
    within = old.block.within;
    last = λ f. subst (λ w. 0 < w % p) (sym (last_kept (m - 1) (omega arith) (omega (arith, old.block.within))))
        (old.block.last f);
    behind = λ j ge lt. ap (λ w. w % p) (last_kept j (omega arith) lt) ∙ old.block.behind j ge lt;
  }
  block_ends q l (no ne) =
      let E = (valid.slot q l).block in record {
        within = E.within;
        last = λ f. subst (λ w. 0 < w % p) (sym (kept_other q (slot_size L q - 1) ne (omega (arith, E.within)) l)) (E.last f);
        behind = λ j ge lt. ap (λ w. w % p) (kept_other q j ne (omega arith) l) ∙ E.behind j ge lt;
      }

  last_word : (q : ℕ) → q < lanes → 0 < slot_size L q → Dec (q ≡ i)
      → get_or L' (slot_words * q + (slot_size L q - 1)) 0 ≡ get_or L (slot_words * q + (slot_size L q - 1)) 0
  last_word q l f (yes e) = subst
      (λ q. get_or L' (slot_words * q + (slot_size L q - 1)) 0 ≡ get_or L (slot_words * q + (slot_size L q - 1)) 0) (sym e)
      (last_kept (m - 1) (omega arith) (omega (arith, old.block.within)))
  last_word q l f (no ne) = kept_other q (slot_size L q - 1) ne (omega (arith, (valid.slot q l).block.within)) l

  tail_within : (q : ℕ) → q < lanes → Dec (q ≡ i) → tail_size L' q ≤ most_coefficients
  tail_within q l (yes e) = omega (arith, ap (tail_size L') e, tail_here)
  tail_within q l (no ne) = omega (arith, tail_size_lem q l ne, (valid.slot q l).tail_within)

  tail_zero : (q : ℕ) → q < lanes → Dec (q ≡ i) → ZeroFrom p L' (slot_words * q + block_words) block_words (tail_size L' q)
  tail_zero q l (yes e) = subst (λ q. ZeroFrom p L' (slot_words * q + block_words) block_words (tail_size L' q)) (sym e)
      (zero_from_same p prime₀ tail L' 0 (slot_words * i + block_words) tail_words block_words (words_tail prime₀) (tail_size L' i)
      (λ j ge lt. R.short j (omega (arith, tail_here)) lt))
  tail_zero q l (no ne) = zero_from_same p prime₀ L L' (slot_words * q + block_words) (slot_words * q + block_words) block_words
      block_words (tail_other prime₀ q l ne) (tail_size L' q)
      (λ j ge lt. (valid.slot q l).tail j (omega (arith, tail_size_lem q l ne)) lt)

  slot : (q : ℕ) → q < lanes → ValidSlot p L' q
  slot q l =
      let S = valid.slot q l in
      let e : slot_size L' q ≡ slot_size L q = sizes q l in record {
        block = subst (Ends p L' (slot_words * q) block_words) (sym e) (block_ends q l (ℕ_discrete q i));
        pivot = λ f. ap row e ∙ S.pivot (omega arith);
        inverse = λ f.
            inverses q l
            ∙ S.inverse (omega arith)
            ∙ ap (modulo p).inverse (sym (ap (λ k. get_or L' (slot_words * q + (k - 1)) 0) e
            ∙ last_word q l (omega arith) (ℕ_discrete q i)));
        tail_within = tail_within q l (ℕ_discrete q i);
        tail = tail_zero q l (ℕ_discrete q i);
      }

  positive : 0 < p
  positive = omega (arith, prime₀.large)

  below₁ : (x : ℕ) → x < sizes_from → get_or L₁ x 0 < p
  below₁ = stored_all (λ x w. x < sizes_from → w < p) (λ j. get_or block j 0 % p) L L₁ b m refl
      (omega (arith, valid.room, old.block.within)) (λ j lt h. mod-lt (get_or block j 0) positive) (λ x out. valid.below x)

  below₂ : (x : ℕ) → x < sizes_from → get_or L₂ x 0 < p
  below₂ = stored_all (λ x w. x < sizes_from → w < p) (λ j. get_or tail j 0 % p) L₁ L₂ (b + block_words) t refl
      (omega (arith, valid.room, length₁, few)) (λ j lt h. mod-lt (get_or tail j 0) positive) (λ x out. below₁ x)

  module _ (prime : Prime p) (n : ℕ) (U : Slots (Polynomial (residues p prime))) (x : Polynomial (residues p prime)) (h : i < n)
      (f : 0 < U.size i) (H : HoldsSlots p prime n unweighted L U)
      (D : Holds (residues p prime) (words p prime d 0 block_words) x) where
    B : HoldsReduced p prime n U i x block tail
    B = R.holds prime n U x h f H D

    many : n ≤ lanes
    many = B.held.block.lanes

    -- no word is left where a slot could take it away
    lane_zero : (j : ℕ) → j < n → ¬ (j ≡ i) → 0 < U.size j → (e : ℕ) → U.size j - 1 ≤ e
        → words p prime block 0 product_words (flat lanes j e) ≡ (residues p prime).ring.zero
    lane_zero j l ne g e ge = go (dec_lt k m)
      where
        k : ℕ
        k = suc (flat lanes j e)

        filled : 0 < slot_size L j
        filled = omega (arith, H.size j l)

        at : row k ≡ j
        at = omega (arith, many)

        fits : slot_size L j ≤ k
        fits = omega (arith, (valid.slot j (omega (arith, many))).pivot filled, H.size j l)

        go : Dec (k < m) → words p prime block 0 product_words (flat lanes j e) ≡ (residues p prime).ring.zero
        go (yes lt) =
            words_first p prime block product_words (flat lanes j e) (omega (arith, old.block.within))
            ∙ residue_zero p prime _ (subst (λ y. get_or block y 0 % p ≡ 0) (omega arith)
            (R.settled k (omega arith) lt (subst (λ q. 0 < slot_size L q) (sym at) filled)
            (subst (λ q. slot_size L q ≤ k) (sym at) fits)))
        go (no not) = words_zero p prime block 0 product_words m block_behind (flat lanes j e) (past (ℕ_discrete k m))
          where
            past : Dec (k ≡ m) → m ≤ flat lanes j e
            past (yes same) = absurd (ne (sym at ∙ ap row same ∙ old.pivot some))
            past (no other) = omega arith

    popov : SlotPopov (sized (residues p prime)) n x U i B.vector
    popov = record {
      block = λ j l ne g.
          let most = holds_size (residues p prime) (subst (Holds (residues p prime) _) (shift_zero (residues p prime) (B.vector j))
          (B.held.block.lane j l)) (U.size j - 1) (lane_zero j l ne g) in
          omega arith;
      tail =
          let most = holds_size (residues p prime) B.held.tail (count - 1)
          (words_zero p prime tail 0 tail_words (count - 1) R.short) in
          omega (arith, d_size prime x kernel.ends D);
    }

    held : (q : ℕ) → q < n → 0 < U.size q
        → Held (residues p prime) n lanes unweighted (words p prime L' (slot_words * q) block_words)
        (words p prime L' (slot_words * q + block_words) block_words) ((put U i B.vector (U.size i)).at q)
    held q l g = replace_elim (λ q v. q < n → 0 < U.size q
        → Held (residues p prime) n lanes unweighted (words p prime L' (slot_words * q) block_words)
        (words p prime L' (slot_words * q + block_words) block_words) v) U.at i B.vector
        (λ _ _. held_same (words_block prime) (words_tail prime) B.held) q
        (λ ne l g. held_same (words_other prime q (omega (arith, many)) ne) (tail_other prime q (omega (arith, many)) ne)
        (H.vector q l g)) l g

    reworked : HoldsReworked p prime n U i x L'
    reworked = record {
      vector = B.vector;
      reduced = B.reduced;
      popov = popov;
      slots = record {
        size = λ q l. sym (put_sizes U i B.vector q) ∙ H.size q l ∙ ap height (sym (sizes q (omega (arith, many))));
        vector = λ q l g. held q l (omega (arith, put_sizes U i B.vector q));
      };
    }

  pub slot_reworked : SlotReworked p L i d (slot_stored p L i block tail (count - 1))
  slot_reworked = record {
    valid = record {
      room = omega (arith, valid.room, length₂, length-set L₂ (tail_sizes_from + i) (count - 1));
      below = λ x h. omega (arith, below₂ x h, noted x (λ e. omega arith));
      slot = slot;
    };
    holds = reworked;
  }
