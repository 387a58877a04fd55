-- The sum of quotient times block over the slots of a level: the vector that the quotients are the coefficients of.
use Rattle.std.specs.Prelude.{ℕ, ◌-◌, ◌*◌, ◌/◌, ◌<◌, ◌≤◌, min, List}
use Rattle.solve_lattice.specs.Room.{product_words, combination_products, lanes, product_degrees}
use Rattle.algebra.specs.Polynomial.{Polynomial}
use Rattle.algebra.specs.Size.{size}
use Rattle.modular.specs.Prime.{Prime}
use Rattle.modular.specs.Residue.{residues}
use Rattle.vector.specs.Bound.{AtMost}
use Rattle.reduction.specs.Slots.{Slots, unweighted}
use Rattle.reduction.specs.Flat.{Flat}
use Rattle.solve_lattice.specs.Memory.{Level}
use Rattle.solve_lattice.specs.Word.{words}
use Rattle.solve_lattice.specs.Holding.{HoldsSlots}
use Rattle.solve_lattice.specs.Coefficients.{HoldsCoefficients}

-- L3: so many terms a coefficient of a vector of 136 degrees has at a block of that size, none where the slot is empty
abbrev pub most_terms : ℕ → ℕ
most_terms size = product_degrees - (size - 1) / lanes - product_degrees * (1 - size)

-- and no more than the longest quotient has
abbrev pub block_terms : ℕ → ℕ → ℕ
block_terms degrees size = min degrees (most_terms size)

pub record CombinesBlocks (p : ℕ) (L : Level) (n : ℕ) (quotients quotients' t : List ℕ) : Type 0 where
  pub bound : AtMost (combination_products * (p * p)) t
  pub cleared : AtMost 0 quotients'
  pub holds : (prime : Prime p) (U : Slots (Polynomial (residues p prime))) (v : ℕ → Polynomial (residues p prime))
      → HoldsSlots p prime n unweighted L U → HoldsCoefficients p prime n U v quotients
      → ((i : ℕ) → i < n → size (residues p prime) (v i) ≤ product_degrees)
      → Flat (residues p prime) n lanes unweighted (words p prime t 0 product_words) v
