-- A column of the way down by quotients: its coordinate, and the quotients of what is left.
use Rattle.std.specs.Prelude.{ℕ, ◌+◌, ◌<◌, ◌≤◌, ◌≡◌, ◌⊎◌, List, length, get_or}
use Rattle.algebra.specs.Polynomial.{Polynomial, polynomials}
use Rattle.algebra.specs.Size.{size}
use Rattle.modular.specs.Prime.{Prime}
use Rattle.modular.specs.Residue.{residues}
use Rattle.reduction.specs.Replace.{replace}
use Rattle.reduction.specs.Holds.{Holds}
use Rattle.solve_lattice.specs.Word.{words}
use Rattle.solve_lattice.specs.Quotients.{HoldsQuotient}
use Rattle.solve_lattice.specs.Room.{block_words, lanes, most_coefficients}
use Rattle.solve_descent.specs.Product.{less}

-- the coordinate is the quotient of slot q, and the column has the factors f and, in slot q, 1
pub record HoldsLowered (p : ℕ) (prime : Prime p) (n q : ℕ) (c f : ℕ → Polynomial (residues p prime))
    (quotients output : List ℕ) (place : ℕ) : Type 0 where
  pub coordinate : Holds (residues p prime) (words p prime output place block_words) (c q)
  pub lowered : (i : ℕ) → i < n → HoldsQuotient p prime quotients i
      (less p prime (c i) (c q) (replace f q (polynomials (residues p prime)).one i))

-- What they hold is said for a coordinate of at most 121 coefficients, and for factors that have 0, or another constant, for slot
-- q, which was empty.
pub record Lowers (p q : ℕ) (quotients factors output : List ℕ) (place : ℕ) (quotients' output' : List ℕ) : Type 0 where
  pub quotients_below : (i : ℕ) → get_or quotients' i 0 < p
  pub same_output : length output' ≡ length output
  pub output_below : (i : ℕ) → get_or output' i 0 < p
  pub others : (i : ℕ) → (i < place) ⊎ (place + block_words ≤ i) → get_or output' i 0 ≡ get_or output i 0
  pub holds : (prime : Prime p) (n : ℕ) → n ≤ lanes → q < n → (c f : ℕ → Polynomial (residues p prime))
      → ((i : ℕ) → i < n → HoldsQuotient p prime quotients i (c i))
      → ((i : ℕ) → i < n → HoldsQuotient p prime factors i (f i))
      → size (residues p prime) (c q) ≤ most_coefficients → size (residues p prime) (f q) ≤ 1
      → HoldsLowered p prime n q c f quotients' output' place
