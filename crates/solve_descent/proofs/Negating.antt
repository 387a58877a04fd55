-- The quotients counted, negated and cleared.
use Prim.Native.Nat.{ℕ, min, ◌+◌, ◌-◌, ◌*◌, ◌/◌, ◌%◌, ◌<◌, ◌≤◌}
use mathlib.Core.Path.{◌≡◌, sym, ◌∙◌, ap}
use mathlib.Core.Logic.{inr, ⊎_elim}
use mathlib.Core.List.{List}
use native.Mathlib.Nat.{mod-eq_of_lt, zero-add}
use native.Mathlib.Omega.{arith}
use lib.ListN.{length, get_or, get_or-eq_default}
use Rattle.algebra.specs.Polynomial.{polynomials}
use Rattle.modular.specs.Prime.{Prime}
use Rattle.modular.specs.Modulo.{modulo}
use Rattle.modular.specs.Residue.{residues}
use Rattle.residue.specs.Below.{neg_below}
use Rattle.vector.specs.Bound.{AtMost}
use Rattle.vector.specs.Reduced.{polynomial}
use Rattle.vector.specs.Stored.{stored, length_stored, stored_inside, stored_outside, below_or_not, stored_all_first}
use Rattle.solve_lattice.specs.Memory.{Ends}
use Rattle.solve_lattice.specs.Word.{residue, residue_minus}
use Rattle.solve_lattice.specs.Found.{found_ends}
use Rattle.solve_lattice.specs.Room.{product_words, lanes, last_lane}
use Rattle.solve_descent.specs.Read.{read_neg}
use Rattle.solve_descent.specs.Product.{strided}
use Rattle.solve_descent.specs.Combination.{first_quotient}
use Rattle.solve_descent.specs.Degrees.{FewDegrees}

module _ {p : ℕ} (positive : 0 < p) (l : List ℕ) (size : ℕ) (found : size ≡ length (polynomial p l 0 product_words)) where
  E : Ends p l 0 product_words size
  E = found_ends p positive l product_words product_words (omega arith) (λ j ge lt. absurd (omega arith)) size found

  pub degrees_found : {k : ℕ} → k ≡ size / lanes + min 1 (size % lanes) → FewDegrees p l k
  degrees_found is = record { most = omega (arith, E.within); behind = λ j ge lt. E.behind j (omega arith) lt }

module _ {p : ℕ} {l : List ℕ} {k : ℕ} (D : FewDegrees p l k) (length_is : length l ≡ product_words) (below : (i : ℕ)
    → get_or l i 0 < p) where
  -- words that do not count are 0
  word_none : (i : ℕ) → lanes * k ≤ i → get_or l i 0 ≡ 0
  word_none i ge =
      ⊎_elim
      (λ lt.
      ap (λ z. get_or l z 0) (sym (zero-add i))
      ∙ sym (mod-eq_of_lt (below (0 + i)))
      ∙ D.behind i ge lt)
      (λ past. get_or-eq_default l 0 (omega arith))
      (below_or_not i product_words)

  module _ {m : List ℕ} (stores : m ≡ stored (λ j. (modulo p).neg (get_or l j 0)) l 0 (lanes * k)) where
    word_negated : (j : ℕ) → j < lanes * k → get_or m j 0 ≡ (modulo p).neg (get_or l j 0)
    word_negated j lt =
        ap (λ z. get_or m z 0) (sym (zero-add j))
        ∙ ap (λ x. get_or x (0 + j) 0) stores
        ∙ stored_inside _ l 0 (lanes * k) j (omega (arith, D.most)) lt

    word_kept : (j : ℕ) → lanes * k ≤ j → get_or m j 0 ≡ get_or l j 0
    word_kept j ge = ap (λ x. get_or x j 0) stores ∙ stored_outside _ l 0 (lanes * k) j (inr (omega arith))

    pub negated_length : length m ≡ product_words
    negated_length = ap length stores ∙ length_stored _ l 0 (lanes * k) ∙ length_is

    pub negated_below : Prime p → (i : ℕ) → get_or m i 0 < p
    negated_below prime = stored_all_first (λ i w. w < p) _ l m (lanes * k) stores (omega (arith, D.most))
        (λ j lt. neg_below p prime.large (get_or l j 0)) (λ i ge. below i)

    pub factor_negated : (prime : Prime p) (q n : ℕ) → q < lanes → n ≤ k
        → first_quotient p prime m n q ≡ (polynomials (residues p prime)).neg (first_quotient p prime l n q)
    factor_negated prime q n row few = read_neg (residues p prime) n (strided p prime l (last_lane - q) lanes)
        (strided p prime m (last_lane - q) lanes)
        (λ j lt.
        ap (residue p prime) (word_negated (last_lane - q + j * lanes) (omega arith)
        ∙ ap (modulo p).neg (sym (mod-eq_of_lt (below (last_lane - q + j * lanes)))))
        ∙ residue_minus p prime (get_or l (last_lane - q + j * lanes) 0))

    pub cleared_all : {m' : List ℕ} → m' ≡ stored (λ j. 0) m 0 (lanes * k) → AtMost 0 m'
    cleared_all clears = stored_all_first (λ i w. w ≤ 0) (λ j. 0) m _ (lanes * k) clears (omega (arith, negated_length, D.most))
        (λ j lt. omega arith) (λ i ge. omega (arith, word_kept i ge, word_none i ge))
