-- The first n words of f stored negated, in words that were below p: the polynomial read from them is minus that of f.
use Rattle.std.specs.Prelude.{ℕ, ◌+◌, ◌-◌, ◌*◌, ◌%◌, ◌<◌, ◌≤◌, ◌≡◌, List, length, get_or}
use Rattle.std.proofs.Common.{sym, ◌∙◌, ap, arith}
use Rattle.std.proofs.Math.Decide.{dec_lt}
use Rattle.ring.specs.Ring.{neg_zero}
use Rattle.algebra.specs.Polynomial.{Polynomial, polynomials, coefficients, equal_coefficients, coefficients_neg}
use Rattle.modular.specs.Prime.{Prime}
use Rattle.modular.specs.Modulo.{modulo}
use Rattle.modular.specs.Residue.{residues}
use Rattle.residue.specs.Below.{neg_below}
use Rattle.vector.specs.Bound.{AtMost, at_most_stored}
use Rattle.vector.specs.Stored.{stored, length_stored, stored_inside}
use Rattle.reduction.specs.Holds.{Holds, read, read_at, read_beyond}
use Rattle.solve_lattice.specs.Word.{residue, residue_minus, words, words_behind, words_first}
use Rattle.solve_descent.specs.Product.{strided}

module _ {p : ℕ} (prime₀ : Prime p) (h h' f : List ℕ) (n : ℕ)
    (stores : h' ≡ stored (λ j. (modulo p).neg (get_or f j 0 % p)) h 0 n) where
  pub negated_length : length h' ≡ length h
  negated_length = ap length stores ∙ length_stored _ h 0 n

  pub negated_below : AtMost 0 h → (i : ℕ) → get_or h' i 0 < p
  negated_below none i = omega (
    arith,
    prime₀.large,
    ap (λ l. get_or l i 0) stores,
    at_most_stored (p - 1) (λ j. (modulo p).neg (get_or f j 0 % p)) h 0 n
        (λ j lt. omega (arith, neg_below p prime₀.large (get_or f j 0 % p))) (λ j. omega (arith, none j)) i,
  )

  module _ (room : n ≤ length h) (prime : Prime p) (x : Polynomial (residues p prime))
      (A : Holds (residues p prime) (words p prime f 0 n) x) where
    coefficient : (j : ℕ) → Dec (j < n)
        → coefficients (residues p prime) (read (residues p prime) n (strided p prime h' 0 1)) j
        ≡ (residues p prime).ring.neg (words p prime f 0 n j)
    coefficient j (yes lt) =
        let place : 0 + j * 1 ≡ 0 + j = omega arith in
        read_at (residues p prime) n (strided p prime h' 0 1) j lt
        ∙ ap (λ i. residue p prime (get_or h' i 0)) place
        ∙ ap (λ l. residue p prime (get_or l (0 + j) 0)) stores
        ∙ ap (residue p prime) (stored_inside _ h 0 n j (omega arith) lt)
        ∙ residue_minus p prime (get_or f j 0)
        ∙ ap (residues p prime).ring.neg (sym (words_first p prime f n j lt))
    coefficient j (no ge) =
        read_beyond (residues p prime) n (strided p prime h' 0 1) j (omega arith)
        ∙ sym (ap (residues p prime).ring.neg (words_behind p prime f 0 n j (omega arith)) ∙ neg_zero (residues p prime).ring)

    pub negated_read : read (residues p prime) n (strided p prime h' 0 1) ≡ (polynomials (residues p prime)).neg x
    negated_read = equal_coefficients (residues p prime) _ _ (λ j.
        coefficient j (dec_lt j n)
        ∙ ap (residues p prime).ring.neg (sym (A.at j))
        ∙ sym (coefficients_neg (residues p prime) x j))
