-- `combine_blocks`: what t holds in the end. By L3 no coefficient has more terms than count.
use Prim.Native.Nat.{ℕ, ◌*◌, ◌<◌, ◌≤◌}
use mathlib.Core.Path.{◌≡◌, sym, ◌∙◌, ap, subst}
use mathlib.Core.List.{List}
use native.Mathlib.Nat.{mul-le-mul_right}
use native.Mathlib.Omega.{arith}
use native.Mathlib.Decide.{ℕ_discrete}
use lib.ListN.{length, get_or}
use Rattle.ring.specs.Ring.{Ring, mul_zero}
use Rattle.ring.specs.Sum.{sum, sum_none}
use Rattle.algebra.specs.Polynomial.{Polynomial, polynomials, coefficients, coefficients_zero}
use Rattle.algebra.specs.Expressions.{shift_zero}
use Rattle.algebra.specs.Sized.{size_of_zero}
use Rattle.algebra.specs.Size.{size, sized}
use Rattle.modular.specs.Prime.{Prime}
use Rattle.modular.specs.Modulo.{modulo}
use Rattle.modular.specs.Residue.{residues}
use Rattle.vector.specs.Bound.{AtMost}
use Rattle.vector.specs.Stored.{stored}
use Rattle.reduction.specs.Slots.{Slots, unweighted}
use Rattle.reduction.specs.Independence.{coefficient_size}
use Rattle.reduction.specs.Holds.{Holds, read, read_holds, holds_unique}
use Rattle.reduction.specs.Flat.{Flat, flat}
use Rattle.solve_lattice.specs.Memory.{Level, slot_size, ValidLevel}
use Rattle.solve_lattice.specs.Word.{words, words_behind}
use Rattle.solve_lattice.specs.Holding.{HoldsSlots}
use Rattle.solve_lattice.specs.Reading.{holds_filled}
use Rattle.solve_lattice.specs.Coefficients.{HoldsCoefficients}
use Rattle.solve_lattice.specs.Room.{product_words, block_words, slot_words, block_degrees, lanes, product_degrees}
use Rattle.solve_descent.specs.Degrees.{FewDegrees}
use Rattle.solve_descent.specs.Combination.{TakesCombination}
use Rattle.solve_descent.specs.Blocks.{most_terms, block_terms, CombinesBlocks}
use Rattle.solve_descent.specs.Held.{none_held, zeros_held}
use Rattle.solve_descent.proofs.Lanes.{quotient_size}
use Rattle.solve_descent.proofs.Negating.{factor_negated, cleared_all}
use Rattle.solve_descent.proofs.Combinations.{more_filled}

module _ {p : ℕ} (L : Level) (valid : ValidLevel p L) {n : ℕ} (rows : n ≤ lanes) {quotients : List ℕ} {degrees : ℕ}
    (D : FewDegrees p quotients degrees) (quotients_length : length quotients ≡ product_words) (below : (i : ℕ)
    → get_or quotients i 0 < p)
    {negated cleared t t' : List ℕ} (none : AtMost 0 t)
    (negates : negated ≡ stored (λ j. (modulo p).neg (get_or quotients j 0)) quotients 0 (lanes * degrees))
    (C : TakesCombination p lanes product_words negated (λ q. block_terms degrees (slot_size L q)) L (λ q. slot_words * q) n t t')
    (clears : cleared ≡ stored (λ j. 0) negated 0 (lanes * degrees)) where
  module _ (prime : Prime p) (U : Slots (Polynomial (residues p prime))) (v : ℕ → Polynomial (residues p prime))
      (S : HoldsSlots p prime n unweighted L U) (Q : HoldsCoefficients p prime n U v quotients)
      (small : (i : ℕ) → i < n → size (residues p prime) (v i) ≤ product_degrees) where
    abbrev R : Ring (Polynomial (residues p prime))
    R = polynomials (residues p prime)

    abbrev c : ℕ → Polynomial (residues p prime)
    c = Q.span.coefficient

    few : (q : ℕ) → q < n → block_terms degrees (slot_size L q) ≤ product_degrees
    few q h = omega (arith, D.most)

    -- L3
    enough_most : (q : ℕ) → q < n → size (residues p prime) (c q) ≤ most_terms (slot_size L q)
    enough_most q h = go (ℕ_discrete (size (residues p prime) (c q)) 0) (ℕ_discrete (U.size q) 0)
      where
        go : Dec (size (residues p prime) (c q) ≡ 0) → Dec (U.size q ≡ 0)
            → size (residues p prime) (c q) ≤ most_terms (slot_size L q)
        go (yes e) f = omega arith
        go (no e) (yes f) = absurd (e (size_of_zero (sized (residues p prime)) (c q) (Q.span.empty q h f)))
        go (no e) (no f) = omega (
          arith,
          S.size q h,
          coefficient_size (holds_filled p prime valid S) (omega arith) Q.span product_degrees (λ k l. omega (arith, small k l))
              q h
              (omega arith),
        )

    enough : (q : ℕ) → q < n → size (residues p prime) (c q) ≤ block_terms degrees (slot_size L q)
    enough q h = omega (arith, enough_most q h, quotient_size p prime quotients q (omega arith) (c q) (Q.holds q h) D)

    -- lane i of slot q, be the slot filled or not
    abbrev lane : ℕ → ℕ → Polynomial (residues p prime)
    lane i q = read (residues p prime) block_degrees (λ e. words p prime L (slot_words * q) block_words (flat lanes i e))

    lane_held : (i q : ℕ) → Holds (residues p prime) (λ e. words p prime L (slot_words * q) block_words (flat lanes i e)) (lane i q)
    lane_held i q = read_holds (residues p prime) block_degrees _
        (λ e ge. words_behind p prime L (slot_words * q) block_words (flat lanes i e) (omega arith))

    -- lane i of t, where z is what the filled slots have there
    lane_combined : (i : ℕ) → i < lanes → (z : ℕ → Polynomial (residues p prime))
        → ((q : ℕ) → q < n → 0 < U.size q → lane i q ≡ z q)
        → Holds (residues p prime) (λ e. words p prime t' 0 product_words (flat lanes i e)) (sum R n (λ q. R.mul (c q) (z q)))
    lane_combined i lt z same = subst (Holds (residues p prime) (λ e. words p prime t' 0 product_words (flat lanes i e)))
        (more_filled prime rows Q (λ q. block_terms degrees (slot_size L q)) few enough (lane i) z same negated
        (λ q h. factor_negated D quotients_length below negates prime q (block_terms degrees (slot_size L q)) (omega arith)
        (omega arith)))
        (C.holds prime i lt R.zero (lane i) (λ q h. lane_held i q) (zeros_held p prime t none product_words (flat lanes i)))

    combined_held : Flat (residues p prime) n lanes unweighted (words p prime t' 0 product_words) v
    combined_held = record {
      lanes = rows;
      lane = λ i h. subst (Holds (residues p prime) (λ e. words p prime t' 0 product_words (flat lanes i e)))
          (sym (Q.span.equal i h) ∙ sym (shift_zero (residues p prime) (v i)))
          (lane_combined i (omega arith) (λ q. U.at q i)
          (λ q l some. holds_unique (residues p prime) (lane_held i q) ((S.vector q l some).block.lane i h)
          ∙ shift_zero (residues p prime) (U.at q i)));
      beside = λ i e out lt.
          sym ((lane_combined i lt (λ q. R.zero) (λ q h some. holds_unique (residues p prime) (lane_held i q)
          (none_held p prime (λ k. (S.vector q h some).block.beside i k out lt)))).at e)
          ∙ ap (λ x. coefficients (residues p prime) x e) (sum_none R n (λ q. R.mul (c q) R.zero) (λ q h. mul_zero R (c q)))
          ∙ coefficients_zero (residues p prime) e;
    }

  pub blocks_combined : CombinesBlocks p L n quotients cleared t'
  blocks_combined = record {
    bound = λ i. omega (arith, C.bound 0 none i, mul-le-mul_right (product_degrees * (p * p)) rows);
    cleared = cleared_all D quotients_length below negates clears;
    holds = combined_held;
  }
