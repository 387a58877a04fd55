-- The conditions for a certified solution and for a certified absence of solutions (document 002, section 1, for the ring of
-- polynomials modulo p), and demand 2's own: "any stated denominator is monic, and the solution's is in lowest terms". Nothing is
-- computed here: no greatest common divisor and no remainder.
use Rattle.std.specs.Prelude.{ℕ, ◌<◌, ◌≡◌, List, [], ◌∷◌, length, get_or}
use Rattle.modular.specs.Canonical.{Canonical}
use Rattle.words.specs.System.{System}
use Rattle.words.specs.Certificate.{Certificate}
use Rattle.words.specs.Certificate.Certificate.{solution, absence}
use Rattle.truth.specs.Solution.{column_of, side_of, RationalSolution, DividesModulo, Clears, Monic, Denominator}
use Rattle.truth.specs.Listed.{listed}
use Rattle.truth.specs.Fractions.{SameFractions}

-- the row Z·A
unfoldable pub product_of : System → List (List ℕ) → List (List ℕ)
unfolding listed column_of
product_of s Z = listed s.columns (column_of s Z)

-- the fractions M/e are polynomials: 1 clears them
abbrev pub Whole : ℕ → List (List ℕ) → List ℕ → Type 0
Whole p M e = Clears p (1 ∷ []) M e

-- definition 1 of 002, of M/e: the monic generator of the ideal of all polynomials that, times M/e, leave only polynomials. It is
-- document 01's `Denominator` (`generates-iff`).
pub record Generates (p : ℕ) (M : List (List ℕ)) (e c : List ℕ) : Type 0 where
  pub canonical : Canonical p c
  pub monic : Monic p c
  pub clears : Clears p c M e
  pub divides : (f : List ℕ) → Canonical p f → Clears p f M e → DividesModulo p c f

-- M/e is in lowest terms: no monic polynomial but 1 divides e and every entry of M
unfoldable pub LowestTerms : ℕ → List (List ℕ) → List ℕ → Type 0
LowestTerms p M e = (c : List ℕ) → Canonical p c → Monic p c → DividesModulo p c e
    → ((j : ℕ) → j < length M → DividesModulo p c (get_or M j []))
    → c ≡ 1 ∷ []

-- (y, z) with y = N/d and z = Z/w
pub record CertifiedSolution (s : System) (d : List ℕ) (N : List (List ℕ)) (w : List ℕ) (Z : List (List ℕ)) : Type 0 where
  -- "Ay = b"
  pub solves : RationalSolution s N d
  -- z is a vector of fractions, and zA is over R
  pub certifying : ¬ (w ≡ [])
  pub whole : Whole s.modulus (product_of s Z) w
  -- "zb and y have the same denominator"
  pub denominator : List ℕ
  pub of_solution : Denominator s.modulus N d denominator
  pub of_side : Denominator s.modulus (side_of s Z ∷ []) w denominator

-- with demand 2's "any stated denominator is monic, and the solution's is in lowest terms"
pub record StatedSolution (s : System) (d : List ℕ) (N : List (List ℕ)) (w : List ℕ) (Z : List (List ℕ)) : Type 0 where
  pub certified : CertifiedSolution s d N w Z
  pub monic : Monic s.modulus d
  pub certifying_monic : Monic s.modulus w
  pub lowest : LowestTerms s.modulus N d

-- M/e is the vector (0, .., 0)
abbrev pub ZeroFractions : ℕ → List (List ℕ) → List ℕ → Type 0
ZeroFractions p M e = SameFractions p M e (listed (length M) (λ j. [])) (1 ∷ [])

-- ("no solution", q) with q = Q/e
pub record CertifiedAbsence (s : System) (Q : List (List ℕ)) (e : List ℕ) : Type 0 where
  pub certifying : ¬ (e ≡ [])
  -- "qA = (0, .., 0)"
  pub columns : ZeroFractions s.modulus (product_of s Q) e
  -- and qb is not 0
  pub side : ¬ ZeroFractions s.modulus (side_of s Q ∷ []) e

-- an absence card states no denominator: its q is q/1
unfoldable pub Certified : System → Certificate → Type 0
Certified s (solution d N w Z) = StatedSolution s d N w Z
Certified s (absence q) = CertifiedAbsence s q (1 ∷ [])
