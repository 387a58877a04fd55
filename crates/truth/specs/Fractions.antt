-- Vectors of fractions as values (document 01, "The system"): "m polynomials M and one polynomial e that is not zero, .. meaning y
-- = M/e". "A polynomial times y leaves only polynomials exactly when e divides its product with each entry of M", and whether it
-- does, y's denominator, and whether y solves a system are the same however y is written.
use Rattle.std.specs.Prelude.{ℕ, ◌<◌, ◌≡◌, List, [], ◌∷◌, map, length, get_or}
use Rattle.algebra.specs.Coefficients.{mul}
use Rattle.modular.specs.Modulo.{modulo}
use Rattle.truth.specs.Solution.{AllCanonical}

-- a/e = f/g in every entry: a·g = f·e
pub record SameFractions (p : ℕ) (M : List (List ℕ)) (e : List ℕ) (F : List (List ℕ)) (g : List ℕ) : Type 0 where
  pub count : length M ≡ length F
  pub entries : (j : ℕ) → j < length M → mul (modulo p) (get_or M j []) g ≡ mul (modulo p) (get_or F j []) e

-- the numerators of c·y
abbrev pub times_each : ℕ → List ℕ → List (List ℕ) → List (List ℕ)
times_each p c M = map (mul (modulo p) c) M

-- "A polynomial times y leaves only polynomials": c·y is a vector of polynomials, F/1
abbrev pub LeavesPolynomials : ℕ → List ℕ → List (List ℕ) → List ℕ → Type 0
LeavesPolynomials p c M e = (F : List (List ℕ)) × AllCanonical p F × SameFractions p (times_each p c M) e F (1 ∷ [])
