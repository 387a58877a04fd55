-- A product taken off words in lanes: what it does to the polynomials that the lanes hold, and how large the words get.
use Rattle.std.specs.Prelude.{ℕ, ◌+◌, ◌*◌, ◌<◌, ◌≤◌, ◌≡◌, List, length, get_or}
use Rattle.algebra.specs.Polynomial.{Polynomial, polynomials}
use Rattle.modular.specs.Prime.{Prime}
use Rattle.modular.specs.Residue.{Residue, residues}
use Rattle.vector.specs.Bound.{AtMost}
use Rattle.reduction.specs.Holds.{Holds, read}
use Rattle.reduction.specs.Flat.{flat}
use Rattle.solve_lattice.specs.Word.{residue, words}

-- what a word may be, at most, that products are taken off
abbrev pub dividend_most : ℕ
dividend_most = 281474976710656

module _ (p : ℕ) (prime : Prime p) where
  -- coefficient k of f is at b + k·v
  abbrev pub strided : List ℕ → ℕ → ℕ → ℕ → Residue p
  strided f b v k = residue p prime (get_or f (b + k * v) 0)

  -- the polynomial x - y·u
  abbrev pub less : Polynomial (residues p prime) → Polynomial (residues p prime) → Polynomial (residues p prime)
      → Polynomial (residues p prime)
  less x y u = (polynomials (residues p prime)).add x
      ((polynomials (residues p prime)).neg ((polynomials (residues p prime)).mul y u))

-- lane i of w lanes, in the first N words of h, in m words of s from a on; what lies behind the last multiple stays
pub record TakesProduct (p w : ℕ) (h f : List ℕ) (b v n : ℕ) (s : List ℕ) (a m : ℕ) (h' : List ℕ) : Type 0 where
  pub same_length : length h' ≡ length h
  pub bound : (c : ℕ) → AtMost c h → AtMost (c + n * (p * p)) h'
  pub behind : (i : ℕ) → n * w + m ≤ i + w → get_or h' i 0 ≡ get_or h i 0
  pub holds : (N : ℕ) → n * w + m ≤ N + w → N ≤ length h → (prime : Prime p) (i : ℕ) → i < w
      → (x u : Polynomial (residues p prime)) → Holds (residues p prime) (λ e. words p prime h 0 N (flat w i e)) x
      → Holds (residues p prime) (λ e. words p prime s a m (flat w i e)) u
      → Holds (residues p prime) (λ e. words p prime h' 0 N (flat w i e))
      (less p prime x (read (residues p prime) n (strided p prime f b v)) u)
