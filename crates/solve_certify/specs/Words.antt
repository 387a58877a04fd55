-- Words that are stored or negated, and fewer words of the same polynomial: what they hold.
use Rattle.std.specs.Prelude.{ℕ, ◌+◌, ◌-◌, ◌<◌, ◌≤◌, ◌≡◌, List, length, get_or}
use Rattle.std.proofs.Common.{sym, ◌∙◌, ap, ⊎_elim, mod-eq_of_lt, arith}
use Rattle.ring.specs.Ring.{neg_zero}
use Rattle.algebra.specs.Polynomial.{Polynomial, polynomials, coefficients_neg}
use Rattle.modular.specs.Prime.{Prime}
use Rattle.modular.specs.Modulo.{modulo}
use Rattle.modular.specs.Residue.{residues}
use Rattle.vector.specs.Stored.{stored, stored_inside, below_or_not}
use Rattle.vector.specs.Bound.{at_most_stored}
use Rattle.reduction.specs.Holds.{Holds}
use Rattle.solve_lattice.specs.Word.{residue, residue_minus, words, words_inside, words_behind}
use Rattle.solve_lattice.specs.Memory.{ZeroFrom}
use Rattle.solve_lattice.specs.Range.{words_shorter}

-- words below p stored among words below p
pub stored_below : (p : ℕ) (f : ℕ → ℕ) (l : List ℕ) (d m : ℕ) → 0 < p → ((j : ℕ) → j < m → f j < p) → ((i : ℕ) → get_or l i 0 < p)
    → (i : ℕ) → get_or (stored f l d m) i 0 < p
stored_below p f l d m some small below i = omega (
  arith,
  at_most_stored (p - 1) f l d m (λ j lt. omega (arith, small j lt)) (λ k. omega (arith, below k)) i,
)

module _ (p : ℕ) (prime : Prime p) where
  -- k words are enough for a polynomial whose other words are 0
  pub held_fewer : (l : List ℕ) (b n k : ℕ) {x : Polynomial (residues p prime)}
      → Holds (residues p prime) (words p prime l b n) x → k ≤ n → ZeroFrom p l b n k
      → Holds (residues p prime) (words p prime l b k) x
  held_fewer l b n k A le zero = record { at = λ j. A.at j ∙ words_shorter p prime l b n k le zero j }

  -- the first m words are negated where they stand: n of them, from i on
  module _ (s : List ℕ) (below : (i : ℕ) → get_or s i 0 < p) (m : ℕ) where
    abbrev opposite : List ℕ
    opposite = stored (λ j. (modulo p).neg (get_or s j 0)) s 0 m

    pub holds_negated : (i n : ℕ) {x : Polynomial (residues p prime)} → m ≤ length s → i + n ≤ m
        → Holds (residues p prime) (words p prime s i n) x
        → Holds (residues p prime) (words p prime (stored (λ j. (modulo p).neg (get_or s j 0)) s 0 m) i n)
        ((polynomials (residues p prime)).neg x)
    holds_negated i n {x} room inside A = record {
      at = λ j. coefficients_neg (residues p prime) x j ∙ ap (residues p prime).ring.neg (A.at j) ∙ word j;
    }
      where
        word : (j : ℕ) → (residues p prime).ring.neg (words p prime s i n j) ≡ words p prime opposite i n j
        word j =
            ⊎_elim
            (λ lt.
            let place : i + j ≡ 0 + (i + j) = omega arith in
            ap (residues p prime).ring.neg (words_inside p prime s i n j lt)
            ∙ sym (words_inside p prime opposite i n j lt
            ∙ ap (λ k. residue p prime (get_or opposite k 0)) place
            ∙ ap (residue p prime) (stored_inside (λ j. (modulo p).neg (get_or s j 0)) s 0 m (i + j) (omega arith) (omega arith)
            ∙ ap (modulo p).neg (sym (mod-eq_of_lt (below (i + j)))))
            ∙ residue_minus p prime (get_or s (i + j) 0)))
            (λ ge.
            ap (residues p prime).ring.neg (words_behind p prime s i n j ge)
            ∙ neg_zero (residues p prime).ring
            ∙ sym (words_behind p prime opposite i n j ge))
            (below_or_not j n)
