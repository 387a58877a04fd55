-- What long division asks of the divisor's words, and what it leaves in the words of quotient and remainder.
use Rattle.std.specs.Prelude.{◌≡◌, List, ℕ, ◌+◌, ◌≤◌, length, get_or, take}
use Rattle.algebra.specs.Coefficients.{leading, divide}
use Rattle.modular.specs.Modulo.{modulo}
use Rattle.modular.specs.Canonical.{Canonical}
use Rattle.residue.specs.Sum.{SmallSum}
use Rattle.vector.specs.Bound.{AtMost}
use Rattle.vector.specs.Reduced.{polynomial}

-- the first e + 1 words are a polynomial, and the inverse is that of its leading coefficient
pub record Divisor (p : ℕ) (d : List ℕ) (e inverse : ℕ) : Type 0 where
  pub room : e + 1 ≤ length d
  pub canonical : Canonical p (take (e + 1) d)
  pub small : AtMost p d
  pub inverts : inverse ≡ (modulo p).inverse (leading (modulo p) (take (e + 1) d))

-- n words of q are the quotient of f by d and n words of h its remainder, all of them small enough for a reduction
pub record LongDivided (p : ℕ) (f : List ℕ) (n : ℕ) (d q h : List ℕ) : Type 0 where
  pub quotient : polynomial p q 0 n ≡ (divide (modulo p) f d).quotient
  pub remainder : polynomial p h 0 n ≡ (divide (modulo p) f d).remainder
  pub small_quotient : (i : ℕ) → SmallSum p (get_or q i 0)
  pub small_remainder : (i : ℕ) → SmallSum p (get_or h i 0)
