-- The values of a solution certificate, as polynomials.
use Rattle.std.specs.Prelude.{ℕ, ◌≡◌, List, length}
use Rattle.modular.specs.Canonical.{Canonical}
use Rattle.words.specs.System.{System}
use Rattle.truth.specs.Solution.{AllCanonical}

-- d, N, w and Z are polynomials modulo p, of any degree, as many as the system asks
pub record ProperSolution (s : System) (d : List ℕ) (N : List (List ℕ)) (w : List ℕ) (Z : List (List ℕ)) : Type 0 where
  pub denominator : Canonical s.modulus d
  pub numerators : AllCanonical s.modulus N
  pub count : length N ≡ s.columns
  pub certifying_denominator : Canonical s.modulus w
  pub certifying_numerators : AllCanonical s.modulus Z
