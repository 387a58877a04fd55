-- What a range of words holds, read as one lane, and where it is 0.
use Rattle.std.specs.Prelude.{ℕ, ◌+◌, ◌%◌, ◌≡◌, List, get_or}
use Rattle.std.proofs.Common.{sym, ◌∙◌, ap, arith}
use Rattle.std.proofs.Math.Nat.{zero-mod}
use Rattle.algebra.specs.Polynomial.{polynomials, coefficients_zero}
use Rattle.modular.specs.Prime.{Prime}
use Rattle.modular.specs.Residue.{Residue, residues}
use Rattle.vector.specs.Bound.{AtMost}
use Rattle.reduction.specs.Holds.{Holds}
use Rattle.reduction.specs.Flat.{flat}
use Rattle.solve_lattice.specs.Word.{words}
use Rattle.solve_lattice.specs.Range.{words_zero}

-- one lane is the whole range
pub one_lane : (e : ℕ) → flat 1 0 e ≡ e
one_lane e = omega arith

module _ (p : ℕ) (prime : Prime p) where
  pub none_held : {H : ℕ → Residue p} → ((e : ℕ) → H e ≡ (residues p prime).ring.zero) → Holds (residues p prime) H
      (polynomials (residues p prime)).zero
  none_held z = record { at = λ e. coefficients_zero (residues p prime) e ∙ sym (z e) }

  -- words that are all 0 hold zero
  pub zeros_held : (l : List ℕ) → AtMost 0 l → (N : ℕ) (f : ℕ → ℕ)
      → Holds (residues p prime) (λ e. words p prime l 0 N (f e)) (polynomials (residues p prime)).zero
  zeros_held l none N f = none_held (λ e. words_zero p prime l 0 N 0 (λ j ge lt. zero_word j) (f e) (omega arith))
    where
      nothing : (j : ℕ) → get_or l (0 + j) 0 ≡ 0
      nothing j = omega (arith, none (0 + j))

      zero_word : (j : ℕ) → get_or l (0 + j) 0 % p ≡ 0
      zero_word j = ap (λ w. w % p) (nothing j) ∙ zero-mod p
