-- A tail made monic: divided by its leading coefficient.
use Rattle.std.specs.Prelude.{ℕ, ◌<◌, ◌≡◌, List, length, get_or}
use Rattle.solve_lattice.specs.Room.{block_words, tail_words}
use Rattle.algebra.specs.Polynomial.{Polynomial, polynomials}
use Rattle.algebra.specs.Size.{size}
use Rattle.modular.specs.Prime.{Prime}
use Rattle.modular.specs.Residue.{residues}
use Rattle.reduction.specs.Polynomials.{associate}
use Rattle.reduction.specs.Holds.{Holds}
use Rattle.solve_lattice.specs.Memory.{Ends}
use Rattle.solve_lattice.specs.Word.{words}

pub record MadeMonic (p : ℕ) (tail out : List ℕ) (found : ℕ) : Type 0 where
  pub room : length out ≡ block_words
  pub below : (i : ℕ) → get_or out i 0 < p
  pub ends : Ends p out 0 block_words found
  pub holds : (prime : Prime p) (x : Polynomial (residues p prime)) (some : 0 < size (residues p prime) x)
      → Holds (residues p prime) (words p prime tail 0 tail_words) x
      → Holds (residues p prime) (words p prime out 0 block_words)
      ((polynomials (residues p prime)).mul (associate (residues p prime) x some).unit x)
