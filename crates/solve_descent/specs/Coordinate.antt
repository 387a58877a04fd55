-- What `find_coordinate` leaves in y: minus a combination of tails, less a multiple of the kernel. With such tails, a `Turn` of
-- `reduction` is made.
use Rattle.std.specs.Prelude.{ℕ, suc, ◌-◌, ◌*◌, ◌<◌, List}
use Rattle.algebra.specs.Polynomial.{Polynomial, polynomials}
use Rattle.modular.specs.Prime.{Prime}
use Rattle.modular.specs.Residue.{residues}
use Rattle.vector.specs.Bound.{AtMost}
use Rattle.reduction.specs.Replace.{extend}
use Rattle.reduction.specs.Slots.{Slots}
use Rattle.reduction.specs.Span.{InSpan}
use Rattle.reduction.specs.Holds.{Holds}
use Rattle.solve_lattice.specs.Memory.{Level, ZeroFrom}
use Rattle.solve_lattice.specs.Word.{words}
use Rattle.solve_lattice.specs.Holding.{HoldsSlots}
use Rattle.solve_lattice.specs.Coefficients.{HoldsCoefficients}
use Rattle.solve_lattice.specs.Room.{block_words, tail_words, coordinate_products}
use Rattle.solve_descent.specs.Product.{less}

-- v, with a tail, in the span of the slots U; u is the kernel
pub record Coordinate (p : ℕ) (prime : Prime p) (n : ℕ) (U : Slots (Polynomial (residues p prime)))
    (v : ℕ → Polynomial (residues p prime))
    (u : Polynomial (residues p prime)) (y : List ℕ) : Type 0 where
  pub tails : Polynomial (residues p prime)
  pub span : InSpan (polynomials (residues p prime)) n (suc n) U (extend n v tails)
  pub multiple : Polynomial (residues p prime)
  pub holds : Holds (residues p prime) (words p prime y 0 tail_words)
      ((polynomials (residues p prime)).neg (less p prime tails multiple u))

pub record FindsCoordinate (p : ℕ) (L : Level) (n : ℕ) (kernel : List ℕ) (size : ℕ) (quotients y : List ℕ) : Type 0 where
  pub bound : AtMost (coordinate_products * (p * p)) y
  pub short : 0 < size → ZeroFrom p y 0 tail_words (size - 1)
  pub finds : (prime : Prime p) (ω : ℕ → ℕ) (U : Slots (Polynomial (residues p prime))) (v : ℕ → Polynomial (residues p prime))
      (u : Polynomial (residues p prime)) → HoldsSlots p prime n ω L U → HoldsCoefficients p prime n U v quotients
      → Holds (residues p prime) (words p prime kernel 0 block_words) u → Coordinate p prime n U v u y
