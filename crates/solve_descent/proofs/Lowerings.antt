-- `lower_quotients`: its lane, its factors, and what its steps give together.
use Prim.Native.Nat.{ℕ, zero, suc, ◌+◌, ◌-◌, ◌*◌, ◌%◌, ◌<◌, ◌≤◌}
use mathlib.Core.Path.{◌≡◌, sym, ◌∙◌, ap}
use mathlib.Core.List.{List}
use native.Mathlib.Nat.{mod-eq_of_lt}
use native.Mathlib.Omega.{arith}
use native.Mathlib.Decide.{dec_lt}
use lib.ListN.{length, get_or, set, get_or-eq_default}
use lib.Seq.{get_or-set_same, get_or-set_other}
use Rattle.algebra.specs.Series.{unit}
use Rattle.algebra.specs.Polynomial.{Polynomial, polynomials, coefficients, coefficients_one}
use Rattle.algebra.specs.Size.{size, coefficients_beyond}
use Rattle.modular.specs.Prime.{Prime}
use Rattle.modular.specs.Residue.{residues}
use Rattle.vector.specs.Stored.{stored, length_stored, stored_inside, stored_outside, stored_all, stored_all_first}
use Rattle.reduction.specs.Replace.{replace, replace_elim}
use Rattle.reduction.specs.Holds.{Holds}
use Rattle.reduction.specs.Flat.{flat}
use Rattle.solve_lattice.specs.Word.{residue, residue_one, words, words_inside, words_behind, words_first}
use Rattle.solve_lattice.specs.Range.{words_same}
use Rattle.solve_lattice.specs.Reading.{holds_same}
use Rattle.solve_lattice.specs.Quotients.{HoldsQuotient}
use Rattle.solve_lattice.specs.Room.{product_words, block_words, lanes, last_lane, most_coefficients}
use Rattle.solve_descent.specs.Multiple.{SubtractsMultiple}
use Rattle.solve_descent.specs.Lowering.{Lowers}

-- y is the lane of slot q
module _ {p : ℕ} (quotients y₀ : List ℕ) {y : List ℕ} (q : ℕ) (below : (i : ℕ) → get_or quotients i 0 < p)
    (taken : y ≡ stored (λ e. get_or quotients (lanes * e + (last_lane - q)) 0) y₀ 0 block_words) (room : length y₀ ≡ block_words) where
  pub lane_below : (i : ℕ) → get_or y i 0 < p
  lane_below = stored_all_first (λ i w. w < p) _ y₀ y block_words taken (omega arith) (λ j lt. below (lanes * j + (last_lane - q)))
      (λ i far. omega (arith, get_or-eq_default y₀ 0 {n = i} (omega arith), below 0))

  pub lane_holds : q < lanes → (prime : Prime p) (x : Polynomial (residues p prime)) → HoldsQuotient p prime quotients q x
      → size (residues p prime) x ≤ most_coefficients → Holds (residues p prime) (words p prime y 0 block_words) x
  lane_holds lane prime x A small = record { at = λ j. go j (dec_lt j block_words) }
    where
      go : (j : ℕ) → Dec (j < block_words) → coefficients (residues p prime) x j ≡ words p prime y 0 block_words j
      go j (yes lt) =
          let place : flat lanes q j ≡ lanes * j + (last_lane - q) = omega arith in
          A.at j
          ∙ words_first p prime quotients product_words (flat lanes q j) (omega arith)
          ∙ ap (λ i. residue p prime (get_or quotients i 0)) place
          ∙ sym (words_inside p prime y 0 block_words j lt
          ∙ ap (residue p prime) (ap (λ l. get_or l (0 + j) 0) taken ∙ stored_inside _ y₀ 0 block_words j (omega arith) lt))
      go j (no ge) = coefficients_beyond (residues p prime) x j (omega arith)
          ∙ sym (words_behind p prime y 0 block_words j (omega arith))

-- the factors, with 1 for slot q
module _ {p : ℕ} (prime : Prime p) (factors : List ℕ) (q : ℕ) (room : length factors ≡ block_words) (lane : q < lanes) where
  other_word : (i e : ℕ) → (flat lanes i e ≡ last_lane - q → ⊥)
      → words p prime factors 0 product_words (flat lanes i e) ≡ words p prime (set factors (last_lane - q) 1) 0 product_words
      (flat lanes i e)
  other_word i e ne = words_same p prime factors (set factors (last_lane - q) 1) 0 0 product_words (flat lanes i e)
      (λ lt. ap (λ w. w % p) (sym (get_or-set_other factors (last_lane - q) (0 + flat lanes i e) 1 0 (λ s. ne (omega arith)))))

  own_word : (f : Polynomial (residues p prime)) → HoldsQuotient p prime factors q f → size (residues p prime) f ≤ 1
      → HoldsQuotient p prime (set factors (last_lane - q) 1) q (polynomials (residues p prime)).one
  own_word f A small = record { at = λ e. coefficients_one (residues p prime) e ∙ go e }
    where
      go : (e : ℕ) → unit (residues p prime).ring e ≡ words p prime (set factors (last_lane - q) 1) 0 product_words (flat lanes q e)
      go zero =
          let here : flat lanes q 0 ≡ last_lane - q = omega arith in
          sym (words_first p prime (set factors (last_lane - q) 1) product_words (flat lanes q 0) (omega arith)
          ∙ residue_one p prime _ (ap (λ w. w % p) (ap (λ i. get_or (set factors (last_lane - q) 1) i 0) here
          ∙ get_or-set_same factors (last_lane - q) 1 0 (omega arith)) ∙ mod-eq_of_lt prime.large))
      go (suc e) =
          sym (coefficients_beyond (residues p prime) f (suc e) (omega arith))
          ∙ A.at (suc e)
          ∙ other_word q (suc e) (λ s. omega arith)

  pub factors_hold : (n : ℕ) → n ≤ lanes → (f : ℕ → Polynomial (residues p prime))
      → ((i : ℕ) → i < n → HoldsQuotient p prime factors i (f i)) → q < n → size (residues p prime) (f q) ≤ 1 → (i : ℕ) → i < n
      → HoldsQuotient p prime (set factors (last_lane - q) 1) i (replace f q (polynomials (residues p prime)).one i)
  factors_hold n few_rows f A inside small i lt =
      replace_elim (HoldsQuotient p prime (set factors (last_lane - q) 1)) f q (polynomials (residues p prime)).one
      (own_word (f q) (A q inside) small) i
      (λ ne. holds_same (λ e. other_word i e (λ s. ne (omega arith))) (A i lt))

-- all steps together
pub quotients_lowered : {p : ℕ} → Prime p → (quotients factors output y₀ : List ℕ) {y quotients' output' : List ℕ} (place q : ℕ)
    → q < lanes → ((i : ℕ) → get_or quotients i 0 < p) → length factors ≡ block_words → place + block_words ≤ length output
    → ((i : ℕ) → get_or output i 0 < p) → length y₀ ≡ block_words
    → y ≡ stored (λ e. get_or quotients (lanes * e + (last_lane - q)) 0) y₀ 0 block_words
    → output' ≡ stored (λ j. get_or y (0 + j) 0) output place block_words
    → SubtractsMultiple p quotients y (set factors (last_lane - q) 1) quotients'
    → Lowers p q quotients factors output place quotients' output'
quotients_lowered {p} prime₀ quotients factors output y₀ {y} {quotients'} {output'} place q lane below factors_room
    output_room output_below lane_Room taken copied T = record {
      quotients_below = T.below;
      same_output = ap length copied ∙ length_stored _ output place block_words;
      output_below = stored_all (λ i w. w < p) _ output output' place block_words copied output_room
          (λ j lt. lane_below quotients y₀ q below taken lane_Room (0 + j)) (λ i out. output_below i);
      others = λ i out. ap (λ w. get_or w i 0) copied ∙ stored_outside _ output place block_words i out;
      holds = λ prime n few_rows inside c f C D small constant.
          let A = lane_holds quotients y₀ q below taken lane_Room lane prime (c q) (C q inside) small in record {
            coordinate = holds_same (λ j. words_same p prime y output' 0 place block_words j (λ lt. ap (λ w. w % p)
                (sym (ap (λ l. get_or l (place + j) 0) copied ∙ stored_inside _ output place block_words j output_room lt)))) A;
            lowered = λ i lt. T.holds prime (c q) A small i (omega arith) (c i) _ (C i lt)
                (factors_hold prime factors q factors_room lane n few_rows f D inside constant i lt);
          };
    }
