-- What makes a certificate right (document 01, "The system").
use Rattle.std.specs.Prelude.{ℕ, ◌<◌, ◌≡◌, List, []}
use Rattle.algebra.specs.Coefficients.{mul, divide, quotient, monic, gcd}
use Rattle.modular.specs.Modulo.{modulo}
use Rattle.words.specs.System.{System, side_entry}
use Rattle.words.specs.Certificate.{Certificate}
use Rattle.words.specs.Certificate.Certificate.{solution, absence}
use Rattle.truth.specs.Solution.{row_of, column_of, side_of, DividesModulo, Monic}

-- "w divided by the greatest common divisor of w and Z·b, made monic"
unfoldable pub certified : System → List ℕ → List (List ℕ) → List ℕ
unfolding side_of modulo divide monic gcd
certified s w Z = monic (modulo s.modulus) (quotient (modulo s.modulus) w (gcd (modulo s.modulus) w (side_of s Z)))

pub record RightSolution (s : System) (d : List ℕ) (N : List (List ℕ)) (w : List ℕ) (Z : List (List ℕ)) : Type 0 where
  -- "d and w are monic"
  pub monic : Monic s.modulus d
  pub certifying_monic : Monic s.modulus w
  -- "A·N = d·b in every row"
  pub rows : (i : ℕ) → i < s.rows → row_of s N i ≡ mul (modulo s.modulus) d (side_entry s i)
  -- "every entry of Z·A is divisible by w"
  pub columns : (j : ℕ) → j < s.columns → DividesModulo s.modulus w (column_of s Z j)
  -- "w divided by the greatest common divisor of w and Z·b, made monic, is d"
  pub denominators : certified s w Z ≡ d

-- "n polynomials q with q·A zero in every column and q·b not zero"
pub record RightAbsence (s : System) (q : List (List ℕ)) : Type 0 where
  pub columns : (j : ℕ) → j < s.columns → column_of s q j ≡ []
  pub side : ¬ (side_of s q ≡ [])

unfoldable pub Right : System → Certificate → Type 0
Right s (solution d N w Z) = RightSolution s d N w Z
Right s (absence q) = RightAbsence s q
