-- Words that are copied, and words that hold a polynomial of few coefficients.
use Rattle.std.specs.Prelude.{ℕ, ◌+◌, ◌-◌, ◌%◌, ◌≤◌, ◌≡◌, List, length, get_or}
use Rattle.std.proofs.Common.{sym, ◌∙◌, ap, arith}
use Rattle.algebra.specs.Polynomial.{Polynomial}
use Rattle.algebra.specs.Size.{size, coefficients_beyond}
use Rattle.modular.specs.Prime.{Prime}
use Rattle.modular.specs.Residue.{residues}
use Rattle.vector.specs.Stored.{stored, stored_inside}
use Rattle.reduction.specs.Holds.{Holds}
use Rattle.solve_lattice.specs.Word.{words}
use Rattle.solve_lattice.specs.Memory.{ZeroFrom}
use Rattle.solve_lattice.specs.Range.{words_same, zero_word}

module _ (p : ℕ) (prime : Prime p) where
  -- those behind the coefficients of the polynomial that they hold are 0
  pub held_zero_from : (l : List ℕ) (b n k : ℕ) {x : Polynomial (residues p prime)}
      → Holds (residues p prime) (words p prime l b n) x → size (residues p prime) x ≤ k → ZeroFrom p l b n k
  held_zero_from l b n k {x} A small j h lt =
      zero_word p prime l b n j lt (sym (A.at j) ∙ coefficients_beyond (residues p prime) x j (omega arith))

  -- m words of s from a on are copied to the place d of l: n of them, from b on, stand from c on
  module _ (s l : List ℕ) (a d m : ℕ) where
    abbrev copied : List ℕ
    copied = stored (λ j. get_or s (a + j) 0) l d m

    pub words_copied : (b c n : ℕ) → d + m ≤ length l → b + d ≡ a + c → d ≤ c → c + n ≤ d + m → (x : ℕ)
        → words p prime s b n x ≡ words p prime (stored (λ j. get_or s (a + j) 0) l d m) c n x
    words_copied b c n room places from inside x = words_same p prime s copied b c n x (λ lt.
        let source : b + x ≡ a + (c - d + x) = omega arith in
        let target : c + x ≡ d + (c - d + x) = omega arith in
        ap (λ k. get_or s k 0 % p) source
        ∙ sym (ap (λ k. get_or copied k 0 % p) target
        ∙ ap (λ w. w % p) (stored_inside (λ j. get_or s (a + j) 0) l d m (c - d + x) room (omega arith))))
