-- Demand 3's truth, of words: whatever the words are and however they came about, an accepted certificate tells the truth.
use Rattle.std.specs.Prelude.{ℕ, List}
use Rattle.words.specs.System.{System}
use Rattle.words.specs.Certificate.{Certificate}
use Rattle.words.specs.Certificate.Certificate.{solution, absence}
use Rattle.truth.specs.Solution.{RationalSolution, Denominator, LeastDenominator}

-- what a solution says: N/d solves the system, d is its denominator, and the least one
pub record SolutionTrue (s : System) (d : List ℕ) (N : List (List ℕ)) : Type 0 where
  pub solves : RationalSolution s N d
  pub denominator : Denominator s.modulus N d d
  pub least : LeastDenominator s d

-- what a certificate says
unfoldable pub True : System → Certificate → Type 0
True s (solution d N w Z) = SolutionTrue s d N
True s (absence q) = (M : List (List ℕ)) (e : List ℕ) → ¬ RationalSolution s M e
