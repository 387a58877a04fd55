-- A multiple of factors taken off quotients, both in lanes: what each lane then holds.
use Rattle.std.specs.Prelude.{ℕ, ◌<◌, ◌≤◌, ◌≡◌, List, length, get_or}
use Rattle.algebra.specs.Polynomial.{Polynomial}
use Rattle.algebra.specs.Size.{size}
use Rattle.modular.specs.Prime.{Prime}
use Rattle.modular.specs.Residue.{residues}
use Rattle.reduction.specs.Holds.{Holds}
use Rattle.solve_lattice.specs.Word.{words}
use Rattle.solve_lattice.specs.Quotients.{HoldsQuotient}
use Rattle.solve_lattice.specs.Room.{block_words, lanes, most_coefficients}
use Rattle.solve_descent.specs.Product.{less}

-- What it holds is said for a polynomial x in y of at most 121 coefficients.
pub record SubtractsMultiple (p : ℕ) (quotients y factors quotients' : List ℕ) : Type 0 where
  pub same_length : length quotients' ≡ length quotients
  pub below : (i : ℕ) → get_or quotients' i 0 < p
  pub holds : (prime : Prime p) (x : Polynomial (residues p prime)) → Holds (residues p prime) (words p prime y 0 block_words) x
      → size (residues p prime) x ≤ most_coefficients → (i : ℕ) → i < lanes → (c f : Polynomial (residues p prime))
      → HoldsQuotient p prime quotients i c → HoldsQuotient p prime factors i f
      → HoldsQuotient p prime quotients' i (less p prime c x f)
