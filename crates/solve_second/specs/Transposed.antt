-- L8 in memory: the words that `lay_slots` and `lay_side` store hold the transposed slots of
-- `reduction`, tails 0, and its right side. Every weighted size is the greatest height; the weights show only as lifted lanes.
use Rattle.std.specs.Prelude.{ℕ, ◌+◌, ◌-◌, ◌*◌, ◌%◌, ◌<◌, ◌≤◌, ◌≡◌, List, get_or}
use Rattle.std.proofs.Common.{sym, ◌∙◌, ap, subst, zero-add, arith}
use Rattle.std.proofs.Math.Nat.{zero-mod}
use Rattle.std.proofs.Math.Decide.{dec_lt, ℕ_discrete}
use Rattle.algebra.specs.Field.{Field}
use Rattle.algebra.specs.Polynomial.{Polynomial, polynomials}
use Rattle.algebra.specs.Expressions.{shift, shift_zero}
use Rattle.modular.specs.Prime.{Prime}
use Rattle.modular.specs.Residue.{Residue, residues}
use Rattle.reduction.specs.Replace.{extend_below, extend_at}
use Rattle.reduction.specs.Slots.{Slots, unweighted}
use Rattle.reduction.specs.Holds.{Holds, holds_shift}
use Rattle.reduction.specs.Flat.{Flat, flat}
use Rattle.reduction.specs.Held.{Held}
use Rattle.reduction.specs.Inserting.{cleared}
use Rattle.reduction.specs.Transpose.{back, masked_filled, masked_empty, transposed, second_side, weights}
use Rattle.solve_lattice.specs.Word.{residue, residue_zero, words, words_inside, words_behind, words_first}
use Rattle.solve_lattice.specs.Memory.{height, Level, slot_size, tail_size, ValidLevel}
use Rattle.solve_lattice.specs.Holding.{HoldsSlots}
use Rattle.solve_lattice.specs.Range.{words_zero}
use Rattle.solve_lattice.specs.Room.{product_words, block_words, slot_words, block_degrees, lanes, product_degrees}
use Rattle.solve_descent.specs.Held.{none_held}
use Rattle.solve_second.specs.Greatest.{greatest, greatest_high, greatest_small, greatest_positive}
use Rattle.solve_second.specs.Words.{reversed, transposed_size, size_empty, size_filled}
use Rattle.solve_second.specs.Laid.{SlotsLaid, SecondLaid}
use Rattle.solve_second.specs.Cells.{weight, cell_beside, cell_low, cell_value, cell_behind, cell_tail}
use Rattle.solve_second.specs.Cells.{side_cell_beside, side_cell_empty, side_cell_low, side_cell_far, side_cell_value}

module _ (p : ℕ) (prime : Prime p) where
  abbrev F : Field (Residue p)
  F = residues p prime

  zero_inside : (l : List ℕ) (b n j : ℕ) → (j < n → get_or l (b + j) 0 ≡ 0) → words p prime l b n j ≡ (residues p prime).ring.zero
  zero_inside l b n j e = go (dec_lt j n)
    where
      go : Dec (j < n) → words p prime l b n j ≡ F.ring.zero
      go (yes h) = words_inside p prime l b n j h ∙ residue_zero p prime _ (ap (λ w. w % p) (e h) ∙ zero-mod p)
      go (no h) = words_behind p prime l b n j (omega arith)

  module _ {n : ℕ} (small : n ≤ lanes) {L : Level} (valid : ValidLevel p L) {U : Slots (Polynomial (residues p prime))}
      (holds : HoldsSlots p prime n unweighted L U) where
    abbrev ω : ℕ → ℕ
    ω = weights (polynomials (residues p prime)) n (greatest L n) U

    size_of : (i : ℕ) → i < n → U.size (back n i) ≡ height (slot_size L (back n i))
    size_of i h = holds.size (back n i) (omega arith)

    weight_is : (i : ℕ) → i < n → ω i ≡ weight L n i
    weight_is i h = ap (λ d. greatest L n - d) (size_of i h)

    -- the greatest height
    top_low : greatest L n ≤ block_degrees
    top_low = greatest_small L n small (λ q h. (valid.slot q h).block.within)

    -- coordinate r of slot q of the level, with no weight
    lane_of : (q r : ℕ) → q < n → r < n → 0 < U.size q
        → Holds (residues p prime) (λ e. words p prime L (slot_words * q) block_words (flat lanes r e)) (U.at q r)
    lane_of q r h l f = subst (Holds F (λ e. words p prime L (slot_words * q) block_words (flat lanes r e)))
        (shift_zero F (U.at q r))
        ((holds.vector q h f).block.lane r l)

    module _ {T : Level} (laid : SlotsLaid n L T) where
      module _ (k : ℕ) (h : k < n) (f : 0 < transposed_size L n k) where
        cell_zero : (i e : ℕ) → i < lanes → (e < block_degrees → get_or T (slot_words * k + flat lanes i e) 0 ≡ 0)
            → words p prime T (slot_words * k) block_words (flat lanes i e) ≡ (residues p prime).ring.zero
        cell_zero i e l g = zero_inside T (slot_words * k) block_words (flat lanes i e) (λ lt. g (omega arith))

        cell_past : (i e : ℕ) → i < lanes → greatest L n ≤ e
            → words p prime T (slot_words * k) block_words (flat lanes i e) ≡ (residues p prime).ring.zero
        cell_past i e l past = zero_inside T (slot_words * k) block_words (flat lanes i e)
            (λ lt. cell_behind L n laid k (flat lanes i e) (omega arith) (omega arith) (omega arith))

        lifted : (i : ℕ) → i < n → 0 < U.size (back n i) → (j : ℕ)
            → words p prime L (slot_words * back n i) block_words (flat lanes (back n k) j)
            ≡ words p prime T (slot_words * k) block_words (flat lanes i (ω i + j))
        lifted i l g j = go (dec_lt (ω i + j) (greatest L n))
          where
            q : ℕ
            q = back n i

            d : ℕ
            d = height (slot_size L (back n i))

            high : d ≤ greatest L n
            high = greatest_high L n (back n i) (omega arith)

            go : Dec (ω i + j < greatest L n)
                → words p prime L (slot_words * back n i) block_words (flat lanes (back n k) j) ≡ words p prime T
                (slot_words * k) block_words (flat lanes i (ω i + j))
            go (yes lt) =
                let less : j < block_degrees = omega (arith, top_low) in
                let same : ω i + j - weight L n i ≡ j = omega (arith, weight_is i l) in
                words_inside p prime L (slot_words * back n i) block_words (flat lanes (back n k) j) (omega arith)
                ∙ ap (λ m. residue p prime (get_or L (slot_words * back n i + flat lanes (back n k) m) 0)) (sym same)
                ∙ ap (residue p prime) (sym (cell_value L n laid k i (ω i + j) (omega arith) (omega arith) (omega (arith, top_low))
                f l
                (omega (arith, weight_is i l)) lt))
                ∙ sym (words_inside p prime T (slot_words * k) block_words (flat lanes i (ω i + j)) (omega (arith, top_low)))
            go (no ge) =
                let above : d ≤ j = omega (arith, size_of i l, high) in
                words_zero p prime L (slot_words * back n i) block_words (slot_size L (back n i))
                (valid.slot (back n i) (omega arith)).block.behind
                (flat lanes (back n k) j) (omega arith)
                ∙ sym (cell_past i (ω i + j) (omega arith) (omega arith))

        coordinate : (i : ℕ) → i < n → Dec (U.size (back n i) ≡ 0)
            → Holds (residues p prime) (λ j. words p prime T (slot_words * k) block_words (flat lanes i (ω i + j)))
            ((transposed (polynomials (residues p prime)) n (greatest L n) U).at k i)
        coordinate i l (yes none) = subst (Holds F _) (sym (masked_empty (U.size (back n i)) _ (U.at (back n i) (back n k)) none))
            (none_held p prime (λ j. cell_past i (ω i + j) (omega arith) (omega arith)))
        coordinate i l (no some) =
            subst (Holds F _) (sym (masked_filled (U.size (back n i)) _ (U.at (back n i) (back n k)) (omega arith)))
            (record {
              at = λ j. (lane_of (back n i) (back n k) (omega arith) (omega arith) (omega arith)).at j ∙ lifted i l
                  (omega arith) j;
            })

        transposed_held : Held (residues p prime) n lanes (weights (polynomials (residues p prime)) n (greatest L n) U)
            (words p prime T (slot_words * k) block_words)
            (words p prime T (slot_words * k + block_words) block_words)
            ((cleared (polynomials (residues p prime)) n (transposed (polynomials (residues p prime)) n (greatest L n) U)).at k)
        transposed_held = record {
          block = record {
            lanes = small;
            lane = λ i l. subst (λ v. Holds F (λ e. words p prime T (slot_words * k) block_words (flat lanes i e)) (shift F (ω i) v))
                (sym (extend_below n (C.at k) (polynomials F).zero i l))
                (holds_shift F (ω i) (coordinate i l (ℕ_discrete (U.size (back n i)) 0))
                (λ e low. cell_zero i e (omega arith)
                (λ lt. cell_low L n laid k i e (omega arith) (omega arith) lt f l (omega (arith, weight_is i l)))));
            beside = λ i e out l. cell_zero i e l (λ lt. cell_beside L n laid k i e (omega arith) l lt f out);
          };
          tail = subst (Holds F _) (sym (extend_at n (C.at k) (polynomials F).zero))
              (none_held p prime (λ j. zero_inside T (slot_words * k + block_words) block_words j
              (λ lt. cell_tail L n top_low laid k j (omega arith) lt)));
        }
          where
            C : Slots (Polynomial (residues p prime))
            C = transposed (polynomials (residues p prime)) n (greatest L n) U

      -- with the sizes, all the slots
      pub transposed_slots : HoldsSlots p prime n (weights (polynomials (residues p prime)) n (greatest L n) U) T
          (cleared (polynomials (residues p prime)) n (transposed (polynomials (residues p prime)) n (greatest L n) U))
      transposed_slots = record {
        size = λ k h. size k h (ℕ_discrete (U.size (back n k)) 0);
        vector = λ k h f. transposed_held k h
            (some k h f);
      }
        where
          same : (k : ℕ) → slot_size L (reversed n k) ≡ slot_size L (back n k)
          same k = ap (slot_size L) (omega arith)

          size : (k : ℕ) → (h : k < n) → Dec (U.size (back n k) ≡ 0)
              → (transposed (polynomials F) n (greatest L n) U).size k ≡ height (slot_size T k)
          size k h (yes none) =
              masked_empty (U.size (back n k)) 0 (greatest L n) none
              ∙ sym (ap height (laid.sizes k (omega arith)
              ∙ size_empty L n k h (λ (g : 0 < slot_size L (reversed n k)). omega (arith, same k, size_of k h))))
          size k h (no some) =
              let tall : 0 < greatest L n = greatest_positive L n (back n k) (omega arith) (omega (arith, size_of k h)) in
              let high : height (lanes * greatest L n - k) ≡ greatest L n = omega arith in
              masked_filled (U.size (back n k)) 0 (greatest L n) (omega arith)
              ∙ sym (ap height (laid.sizes k (omega arith) ∙ size_filled L n k h (omega (arith, same k, size_of k h))) ∙ high)

          some : (k : ℕ) → k < n → 0 < (transposed (polynomials F) n (greatest L n) U).size k → 0 < transposed_size L n k
          some k h f =
              let e = size k h (ℕ_discrete (U.size (back n k)) 0) in
              omega (arith, laid.sizes k (omega arith))

    -- the right side
    module _ {T : Level} {b : List ℕ} (laid : SecondLaid n L T b) where
      side_zero : (i e : ℕ) → i < lanes → (e < product_degrees → get_or b (flat lanes i e) 0 ≡ 0)
          → words p prime b 0 product_words (flat lanes i e) ≡ (residues p
          prime).ring.zero
      side_zero i e l g = zero_inside b 0 product_words (flat lanes i e)
          (λ lt. ap (λ x. get_or b x 0) (zero-add (flat lanes i e)) ∙ g (omega arith))

      module _ (i : ℕ) (l : i < n) where
        filled : 0 < U.size (back n i) → 0 < slot_size L (back n i)
        filled f = omega (arith, size_of i l)

        lifted_tail : 0 < U.size (back n i) → (j : ℕ)
            → words p prime L (slot_words * back n i + block_words) block_words j ≡ words p prime b 0 product_words
            (flat lanes i (ω i + j))
        lifted_tail f j = go (dec_lt (ω i + j) product_degrees) (dec_lt j block_words)
          where
            same : ω i + j - weight L n i ≡ j
            same = omega (arith, weight_is i l)

            go : Dec (ω i + j < product_degrees) → Dec (j < block_words)
                → words p prime L (slot_words * back n i + block_words) block_words j ≡ words p prime b 0 product_words
                (flat lanes i (ω i + j))
            go (yes lt) (yes near) =
                words_inside p prime L (slot_words * back n i + block_words) block_words j near
                ∙ ap (λ m. residue p prime (get_or L (slot_words * back n i + block_words + m) 0)) (sym same)
                ∙ ap (residue p prime) (sym (side_cell_value L n laid i (ω i + j) (omega arith) lt l (filled f)
                (omega (arith, weight_is i l)) (omega (arith, same))))
                ∙ sym (words_first p prime b product_words (flat lanes i (ω i + j)) (omega arith))
            go (yes lt) (no far) =
                words_behind p prime L (slot_words * back n i + block_words) block_words j (omega arith)
                ∙ sym (side_zero i (ω i + j) (omega arith) (λ g. side_cell_far L n laid i (ω i + j) (omega arith) lt l (filled f)
                (omega (arith, weight_is i l)) (omega (arith, same))))
            go (no ge) near =
                words_zero p prime L (slot_words * back n i + block_words) block_words (tail_size L (back n i))
                (valid.slot (back n i) (omega arith)).tail j
                (omega (arith, top_low, (valid.slot (back n i) (omega arith)).tail_within))
                ∙ sym (words_behind p prime b 0 product_words (flat lanes i (ω i + j)) (omega arith))

        side_coordinate : Dec (U.size (back n i) ≡ 0) → Holds (residues p prime)
            (λ j. words p prime b 0 product_words (flat lanes i (ω i + j)))
            (second_side (polynomials (residues p prime)) n (greatest L n) U i)
        side_coordinate (yes none) = subst (Holds F _) (sym (masked_empty (U.size (back n i)) _ (U.at (back n i) n) none))
            (none_held p prime (λ j. side_zero i (ω i + j) (omega arith)
            (λ lt. side_cell_empty L n laid i (ω i + j) (omega arith) lt l (omega (arith, size_of i l)))))
        side_coordinate (no some) =
            subst (Holds F _) (sym (masked_filled (U.size (back n i)) _ (U.at (back n i) n) (omega arith)))
            (record { at = λ j. (holds.vector (back n i) (omega arith) (omega arith)).tail.at j ∙ lifted_tail (omega arith) j })

        second_side_below : (e : ℕ) → e < ω i → words p prime b 0 product_words (flat lanes i e) ≡ (residues p prime).ring.zero
        second_side_below e low = side_zero i e (omega arith) (λ lt. go (ℕ_discrete (slot_size L (back n i)) 0) lt)
          where
            go : Dec (slot_size L (back n i) ≡ 0) → e < product_degrees → get_or b (flat lanes i e) 0 ≡ 0
            go (yes none) lt = side_cell_empty L n laid i e (omega arith) lt l none
            go (no some) lt = side_cell_low L n laid i e (omega arith) lt l (omega arith) (omega (arith, weight_is i l))

      pub side_held : Flat (residues p prime) n lanes (weights (polynomials (residues p prime)) n (greatest L n) U)
          (words p prime b 0 product_words) (second_side (polynomials (residues p prime)) n (greatest L n) U)
      side_held = record {
        lanes = small;
        lane = λ i l. holds_shift F (ω i) (side_coordinate i l (ℕ_discrete (U.size (back n i)) 0)) (second_side_below i l);
        beside = λ i e out l. side_zero i e l (λ lt. side_cell_beside L n laid i e l lt out);
      }
