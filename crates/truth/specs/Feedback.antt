-- Delay and feedback (document 02, item 2): of a polynomial by its divisors, of a solution by its denominator, and the least that
-- the solutions of a system have.
use Rattle.std.specs.Prelude.{ℕ, ◌≤◌, ◌≡◌, List}
use Rattle.algebra.specs.Coefficients.{one, mul, shift}
use Rattle.modular.specs.Modulo.{modulo}
use Rattle.modular.specs.Canonical.{Canonical}
use Rattle.modular.specs.Delay.{degree, delay, feedback}
use Rattle.words.specs.System.{System}
use Rattle.words.specs.Certificate.{Certificate}
use Rattle.words.specs.Certificate.Certificate.{solution, absence}
use Rattle.truth.specs.Solution.{RationalSolution, DividesModulo, Clears, Denominator}

-- x^k modulo p
abbrev pub power_of_x : ℕ → ℕ → List ℕ
power_of_x p k = shift (modulo p) k (one (modulo p))

-- d has k factors x, and "after all such factors are taken out" it is f: d = x^k·f, and x does not divide f
pub record TakenOut (p : ℕ) (d : List ℕ) (k : ℕ) (f : List ℕ) : Type 0 where
  pub canonical : Canonical p f
  pub product : d ≡ mul (modulo p) (power_of_x p k) f
  pub no_more : ¬ DividesModulo p (power_of_x p 1) f

-- M/e solves the system with feedback n and delay k: its denominator has k factors x, and what is left of it has degree n
pub record SolutionWith (s : System) (M : List (List ℕ)) (e : List ℕ) (n k : ℕ) : Type 0 where
  pub solves : RationalSolution s M e
  pub denominator : List ℕ
  pub own : Denominator s.modulus M e denominator
  pub left : List ℕ
  pub taken : TakenOut s.modulus denominator k left
  pub degree_is : degree left ≡ n

-- feedback n and delay k are the least: "No rational solution has less of either"
pub record LeastOfEither (s : System) (n k : ℕ) : Type 0 where
  pub no_less : (M : List (List ℕ)) (e : List ℕ) (i j : ℕ) → SolutionWith s M e i j → (n ≤ i) × (k ≤ j)
  -- nor has any polynomial but zero that, times a solution, leaves only polynomials, of which its denominator is one
  pub no_less_clearing : (M : List (List ℕ)) (e : List ℕ) → RationalSolution s M e → (c : List ℕ) → Canonical s.modulus c
      → Clears s.modulus c M e → (j : ℕ) (f : List ℕ) → TakenOut s.modulus c j f
      → (n ≤ degree f) × (k ≤ j)
  -- one solution has both
  pub numerators : List (List ℕ)
  pub over : List ℕ
  pub reached : SolutionWith s numerators over n k

-- of a certificate: its own solution has the feedback and the delay of the denominator that it states, and these are the least; or
-- there is no solution that could have any
unfoldable pub SaysLeast : System → Certificate → Type 0
SaysLeast s (solution d N w Z) = SolutionWith s N d (feedback d) (delay d) × LeastOfEither s (feedback d) (delay d)
SaysLeast s (absence q) = (M : List (List ℕ)) (e : List ℕ) → ¬ RationalSolution s M e
