-- The invariant of `reduce_words`: a word is taken away where a slot can, and all words behind it stay.
use Prim.Native.Nat.{ℕ, suc, ◌+◌, ◌-◌, ◌*◌, ◌/◌, ◌%◌, ◌<◌, ◌≤◌}
use mathlib.Core.Path.{◌≡◌, refl, sym, ◌∙◌, ap, subst, subst₂}
use mathlib.Core.Logic.{inl, inr, ⊎_elim}
use mathlib.Core.List.{List}
use native.Mathlib.Nat.{mod-eq_of_lt, mul-zero, add-zero, zero-add}
use native.Mathlib.Omega.{arith}
use native.Mathlib.Decide.{ℕ_discrete, dec_lt}
use lib.ListN.{length, get_or}
use Rattle.ring.specs.Ring.{Ring, zero_mul}
use Rattle.algebra.specs.Polynomial.{Polynomial, polynomials}
use Rattle.algebra.specs.Sized.{Sized}
use Rattle.algebra.specs.Size.{sized}
use Rattle.modular.specs.Prime.{Prime}
use Rattle.modular.specs.Residue.{residues}
use Rattle.modular.specs.Bits.{bound64}
use Rattle.modular.specs.LargestPrime.{largest_modulus}
use Rattle.residue.specs.Sum.{sum_fits}
use Rattle.vector.specs.Bound.{AtMost}
use Rattle.vector.specs.Stored.{stored, length_stored, stored_inside, stored_outside, below_or_not}
use Rattle.vector.specs.Multiple.{sum_at}
use Rattle.reduction.specs.Pivot.{Pivot, Low, Before, pivot_low, pivot_scale, low_none}
use Rattle.reduction.specs.Slots.{Slots, unweighted}
use Rattle.reduction.specs.Popov.{slot_reduced_none, slot_reduced_more}
use Rattle.reduction.specs.Holds.{monomial, monomial_size}
use Rattle.reduction.specs.Flat.{flat}
use Rattle.reduction.specs.Held.{Held, held_step}
use Rattle.solve_lattice.specs.Room.{product_words, block_words, slot_words, tail_words, lanes, most_products}
use Rattle.solve_lattice.specs.Word.{residue, words}
use Rattle.solve_lattice.specs.Memory.{row, height, ZeroFrom, Level, slot_size, tail_size, ValidSlot, ValidLevel, Sums}
use Rattle.solve_lattice.specs.Holding.{HoldsSlots}
use Rattle.solve_lattice.specs.Range.{words_upper, words_lower, zero_word}
use Rattle.solve_lattice.specs.Reading.{holds_filled}
use Rattle.solve_lattice.specs.Sums.{sums_room, sums_fewer, sums_step}
use Rattle.solve_lattice.specs.Step.{factor_of, HasMultiple}
use Rattle.solve_lattice.specs.Remainder.{Settled, WordFound, TakesWord, HoldsReduced, Reducing}
use Rattle.solve_lattice.proofs.Stepping

-- a multiple of a vector of pivot q and weighted size e, by at most s degrees more, comes before one of q' and d'
module _ {A : Type 0} {R : Ring A} {S : Sized R} {n : ℕ} {ω : ℕ → ℕ} where
  low_scale : (c : A) {u : ℕ → A} {q e q' d' : ℕ} (s : ℕ) → Pivot S n ω u q e → S.size c ≤ suc s → Before q (s + e) q' d'
      → Low S n ω (λ i. R.mul c (u i)) q' d'
  low_scale c {u} {q} {e} {q'} {d'} s P most before = go (ℕ_discrete (S.size c) 0)
    where
      sooner : Before q (s + e) q' d' → Dec ((S.size c + e) - 1 < d') → Before q ((S.size c + e) - 1) q' d'
      sooner b (yes h) = inl h
      sooner (inl b) (no h) = absurd (omega arith)
      sooner (inr b) (no h) = inr (omega arith, b.1)

      go : Dec (S.size c ≡ 0) → Low S n ω (λ i. R.mul c (u i)) q' d'
      go (yes z) = low_none q' d' (λ i h. ap (λ x. R.mul x (u i)) (S.size_none c z) ∙ zero_mul R (u i))
      go (no z) = pivot_low (pivot_scale c (omega arith) P) (sooner before (dec_lt _ _))

-- the order of places is that of pivots
place_before : (k n : ℕ) → 0 < k → k ≤ n → Before (row k) (height k) (row (suc n)) (height (suc n))
place_before k n some le = go (dec_lt (height k) (height (suc n)))
  where
    go : Dec (height k < height (suc n)) → Before (row k) (height k) (row (suc n)) (height (suc n))
    go (yes h) = inl h
    go (no h) = inr (omega arith, omega arith)

-- the places of the step on the tail
module _ {p : ℕ} (prime : Prime p) {L : Level} {block : List ℕ} {k value : ℕ} (S : HasMultiple p L block k value)
    (most : k ≤ block_words) where
  abbrev shift : ℕ
  shift = (k - slot_size L (row k)) / lanes

  abbrev taken : ℕ
  taken = height (tail_size L (row k)) * lanes

  slot : ValidSlot p L (row k)
  slot = S.level.slot (row k) (omega arith)

  whole : k - slot_size L (row k) ≡ shift * lanes
  whole = Stepping.step_shift p prime S (factor_of p L k value) refl

  pub tail_inside : (k - slot_size L (row k)) / lanes + height (tail_size L (row k)) * lanes ≤ tail_words
  tail_inside = omega (arith, whole, slot.tail_within, S.filled)

  pub tail_fits : height (tail_size L (row k)) * lanes ≤ block_words
  tail_fits = omega (arith, slot.tail_within)

  pub tail_behind : ZeroFrom p L (slot_words * row k + block_words) block_words (height (tail_size L (row k)) * lanes)
  tail_behind j h lt = slot.tail j (omega arith) lt

  module _ (a : ℕ) (by : a ≡ factor_of p L k value) where
    pub tail_product : (j : ℕ) → j < height (tail_size L (row k)) * lanes
        → (p - a) * get_or L (slot_words * row k + block_words + j) 0 ≤ p * p
    tail_product j lt = Stepping.step_product p prime S a by (slot_words * row k + block_words + j) (omega (arith, tail_fits))

    pub tail_sum : (tail : List ℕ) → Sums p 1 tail → p ≤ largest_modulus → (j : ℕ) → j < height (tail_size L (row k)) * lanes
        → sum_at tail ((k - slot_size L (row k)) / lanes) L (slot_words * row k + block_words) (p - a) j < bound64
    tail_sum tail sums limit j lt =
        let positive : 0 < p = omega (arith, prime.large) in
        sum_fits p _ limit (omega (arith, sums_room p tail 1 positive sums (shift + j), tail_product j lt))

module _ {p : ℕ} (prime₀ : Prime p) {L : Level} (valid : ValidLevel p L) {block₀ tail₀ : List ℕ} {n : ℕ} (most : n ≤ block_words)
    (room : length block₀ ≡ block_words) (tail_room : length tail₀ ≡ tail_words) where
  pub reducing_start : AtMost p block₀ → AtMost p tail₀ → Reducing p L block₀ tail₀ n n block₀ tail₀
  reducing_start small tail_small = record {
    within = omega arith;
    length_block = refl;
    length_tail = refl;
    sums = λ i. omega (arith, small i);
    tail_sums = λ i. omega (arith, tail_small i);
    kept = λ j h. refl;
    settled = λ j h l. absurd (omega arith);
    holds = λ prime N U i x h e H A. record {
      vector = U.at i;
      held = A;
      reduced = slot_reduced_none (sized (residues p prime)) N x U i;
    };
  }

  module _ {k : ℕ} {block tail : List ℕ} (so_far : Reducing p L block₀ tail₀ n k block tail) (some : 0 < k) where
    pub reducing_multiple : {value : ℕ} → WordFound p L block k value → 0 < value → HasMultiple p L block k value
    reducing_multiple found positive = record {
      level = valid;
      room = omega (arith, so_far.within, so_far.length_block);
      within = omega (arith, so_far.within);
      some = some;
      leading = found.word positive;
      filled = found.filled positive;
      fits = found.fits positive;
    }

    -- the word stays
    pub reducing_skip : Settled p L block k → Reducing p L block₀ tail₀ n (k - 1) block tail
    reducing_skip settled = record {
      within = omega (arith, so_far.within);
      length_block = so_far.length_block;
      length_tail = so_far.length_tail;
      sums = sums_fewer p block (most_products - block_words + k) _ (omega arith) so_far.sums;
      tail_sums = sums_fewer p tail (most_products - block_words + k) _ (omega arith) so_far.tail_sums;
      kept = so_far.kept;
      settled = λ j h l. ⊎_elim (λ lt. subst (Settled p L block) (omega arith) settled) (λ ge. so_far.settled j ge l)
          (below_or_not j (suc k));
      holds = so_far.holds;
    }

    -- the word is taken away
    module _ {value : ℕ} (S : HasMultiple p L block k value) (positive : 0 < value) {block' tail' : List ℕ}
        (T : TakesWord p L block tail k value block' tail') where
      abbrev a : ℕ
      a = T.factor

      few : k ≤ block_words
      few = omega (arith, so_far.within)

      there : shift prime₀ S few + taken prime₀ S few ≤ length tail
      there = omega (arith, tail_inside prime₀ S few, so_far.length_tail)

      -- what is added behind the word is 0
      later : (j : ℕ) → k ≤ j → get_or block' j 0 ≡ get_or block j 0
      later j h = ap (λ w. get_or w j 0) T.words ∙ ⊎_elim inner outer (below_or_not j (d + m))
        where
          d : ℕ
          d = k - slot_size L (row k)

          m : ℕ
          m = height (slot_size L (row k)) * lanes

          f : ℕ → ℕ
          f = sum_at block (k - slot_size L (row k)) L (slot_words * row k) (p - T.factor)

          outer : d + m ≤ j → get_or (stored f block d m) j 0 ≡ get_or block j 0
          outer ge = stored_outside f block d m j (inr ge)

          inner : j < d + m → get_or (stored f block d m) j 0 ≡ get_or block j 0
          inner lt =
              let x : ℕ = j - d in
              let place : d + x ≡ j = omega arith in
              let high : slot_size L (row k) ≤ x = omega (arith, S.fits) in
              let inside : x < block_words = omega (arith, (valid.slot (row k) (omega arith)).block.within) in
              let none : get_or L (slot_words * row k + x) 0 ≡ 0 =
              sym (mod-eq_of_lt (valid.below (slot_words * row k + x) (omega arith)))
              ∙ (valid.slot (row k) (omega arith)).block.behind x high inside in
              subst (λ y. get_or (stored f block d m) y 0 ≡ get_or block y 0) place
              (stored_inside f block d m x (Stepping.step_room p prime₀ S a T.by) (omega arith)
              ∙ ap (λ y. get_or block (d + x) 0 + (p - a) * y) none
              ∙ ap (λ y. get_or block (d + x) 0 + y) (mul-zero (p - a))
              ∙ add-zero (get_or block (d + x) 0))

      gone : get_or block' (k - 1) 0 % p ≡ 0
      gone = ap (λ i. get_or block' i 0 % p) (sym (zero-add (k - 1)))
          ∙ zero_word p prime₀ block' 0 product_words (k - 1) (omega (arith, S.within))
          (Stepping.leading_gone p prime₀ S a T.by block' T.words)

      module _ (prime : Prime p) (N : ℕ) (U : Slots (Polynomial (residues p prime))) (i : ℕ) (x : Polynomial (residues p prime))
          (h : i < N) (size : slot_size L i ≡ suc n) (H : HoldsSlots p prime N unweighted L U)
          (A : Held (residues p prime) N lanes unweighted (words p prime block₀ 0 product_words) (words p prime tail₀ 0 tail_words)
          (U.at i)) where
        B : HoldsReduced p prime N U i x block tail
        B = so_far.holds prime N U i x h size H A

        -- the word is not 0, so its row is one of the first N
        row_inside : row k < N
        row_inside = go (dec_lt (row k) N)
          where
            go : Dec (row k < N) → row k < N
            go (yes h) = h
            go (no h) =
                let place : flat lanes (row k) (height k - 1) ≡ k - 1 = omega arith in
                let zero = zero_word p prime block 0 product_words (k - 1) (omega (arith, S.within))
                (ap (words p prime block 0 product_words) (sym place)
                ∙ B.held.block.beside (row k) (height k - 1) (omega arith) (omega arith)) in
                absurd (omega (arith, S.leading, ap (λ i. get_or block i 0 % p) (zero-add (k - 1))))

        filled : 0 < U.size (row k)
        filled = omega (arith, H.size (row k) row_inside, S.filled)

        abbrev m : Polynomial (residues p prime)
        m = monomial (residues p prime) (residue p prime T.factor) ((k - slot_size L (row k)) / lanes)

        P : Pivot (sized (residues p prime)) N unweighted (U.at (row k)) (row k) (U.size (row k))
        P = holds_filled p prime valid H (row k) row_inside filled

        low_multiple : Low (sized (residues p prime)) N unweighted (λ c. (polynomials (residues p prime)).mul m (U.at (row k) c)) i
            (U.size i)
        low_multiple =
            let d : shift prime S few + U.size (row k) ≡ height k =
            omega (arith, H.size (row k) row_inside, whole prime S few, S.filled, S.fits) in
            let own : row (suc n) ≡ i =
            subst (λ y. row y ≡ i) size ((valid.slot i (omega (arith, B.held.block.lanes))).pivot (omega arith)) in
            let top : height (suc n) ≡ U.size i = sym (H.size i h ∙ ap height size) in
            low_scale m (shift prime S few) P (monomial_size (residues p prime) (residue p prime a) (shift prime S few))
            (subst₂ (Before (row k) (shift prime S few + U.size (row k))) own top
            (subst (λ y. Before (row k) y (row (suc n)) (height (suc n))) (sym d) (place_before k n some so_far.within)))

        less : HoldsReduced p prime N U i x block' tail'
        less = record {
          vector = λ c. (polynomials (residues p prime)).add (B.vector c)
              ((polynomials (residues p prime)).neg ((polynomials (residues p prime)).mul m (U.at (row k) c)));
          held = held_step (residues p prime) (residue p prime a) ((k - slot_size L (row k)) / lanes) B.held
              (H.vector (row k) row_inside filled) (Stepping.step_upper p prime S a T.by block' T.words)
              (Stepping.step_lower p prime S a T.by block' T.words)
              (words_upper p prime tail tail' L _ (slot_words * row k + block_words) _ block_words tail_words a T.tail_words_lem
              (Stepping.step_factor p prime S a T.by) (tail_inside prime S few) there (tail_behind prime S few)
              (tail_fits prime S few))
              (words_lower p prime tail tail' L _ (slot_words * row k + block_words) _ block_words tail_words a T.tail_words_lem
              (Stepping.step_factor p prime S a T.by) (tail_inside prime S few) there (tail_behind prime S few)
              (tail_fits prime S few));
          reduced = slot_reduced_more (sized (residues p prime)) N x B.reduced (row k) row_inside
              (λ e. omega (arith, ap (slot_size L) e, S.fits, so_far.within)) filled m low_multiple (λ c l. refl);
        }

      pub reducing_turn : Reducing p L block₀ tail₀ n (k - 1) block' tail'
      reducing_turn = record {
        within = omega (arith, so_far.within);
        length_block = Stepping.step_length p prime₀ S a T.by block' T.words ∙ so_far.length_block;
        length_tail = ap length T.tail_words_lem ∙ length_stored _ tail _ _ ∙ so_far.length_tail;
        sums = sums_fewer p block' (most_products - block_words + k - 1) _ (omega arith)
            (Stepping.step_sums p prime₀ S a T.by block' T.words (most_products - block_words + k) (omega arith)
            (omega (arith, so_far.within)) so_far.sums);
        tail_sums = sums_fewer p tail' (most_products - block_words + k - 1) _ (omega arith)
            (sums_step p tail tail' _ L (slot_words * row k + block_words) _ (p - a) T.tail_words_lem
            (tail_product prime₀ S few a T.by)
            (most_products - block_words + k) (omega arith) (omega (arith, so_far.within)) so_far.tail_sums);
        kept = λ j h. later j (omega (arith, so_far.within)) ∙ so_far.kept j h;
        settled = λ j h l. ⊎_elim
            (λ lt. subst (Settled p L block') (omega arith) (λ filled' fits'. gone))
            (λ ge f g. ap (λ w. w % p) (later (j - 1) (omega arith)) ∙ so_far.settled j ge l f g)
            (below_or_not j (suc k));
        holds = less;
      }
