-- Which certificate: of all right certificates of a system the one that the solver gives, said of their values. There is only one,
-- whatever limits it is held to (`chosen-unique`), and every system within the limits has it (`certificate-exists`; both in
-- `solve_meaning`).
-- The degree of a polynomial is its length less one, so that "of smaller degree" is "shorter".
use Rattle.std.specs.Prelude.{ℕ, ◌+◌, ◌<◌, ◌≤◌, ◌≡◌, List, [], length, get_or}
use Rattle.algebra.specs.Coefficients.{add, mul}
use Rattle.modular.specs.Modulo.{modulo}
use Rattle.modular.specs.Canonical.{Canonical}
use Rattle.words.specs.System.{System, side_entry}
use Rattle.words.specs.Certificate.{Certificate}
use Rattle.words.specs.Certificate.Certificate.{solution, absence}
use Rattle.truth.specs.Solution.{AllCanonical, Denominator, row_of, side_of}
use Rattle.truth.specs.Right.{RightSolution, RightAbsence, Right}
use Rattle.truth.specs.ProperSolution.{ProperSolution}

-- ---- N

-- a relation of the columns: A·v = 0, and entry j of v is the last that is not zero
pub record ColumnRelation (s : System) (v : List (List ℕ)) (j : ℕ) : Type 0 where
  pub canonical : AllCanonical s.modulus v
  pub count : length v ≡ s.columns
  pub rows : (i : ℕ) → i < s.rows → row_of s v i ≡ []
  pub nonzero : ¬ (get_or v j [] ≡ [])
  pub last : (k : ℕ) → j < k → k < s.columns → get_or v k [] ≡ []

-- each entry of N is shorter than the last entry of every relation that ends there
abbrev pub ReducedModuloRelations : System → List (List ℕ) → Type 0
ReducedModuloRelations s N =
    (j : ℕ) → j < s.columns → (v : List (List ℕ)) → ColumnRelation s v j → length (get_or N j []) < length (get_or v j [])

-- ---- pivots: places of vectors A·u + c·b, with polynomials u and c of any degree

-- entry k of A·u + c·b
unfoldable pub combination_of : System → List (List ℕ) → List ℕ → ℕ → List ℕ
unfolding row_of add mul modulo
combination_of s u c k = add (modulo s.modulus) (row_of s u k) (mul (modulo s.modulus) c (side_entry s k))

-- A·u + c·b has its pivot at i: entry i is the first of the longest, and not zero
pub record PivotAt (s : System) (u : List (List ℕ)) (c : List ℕ) (i : ℕ) : Type 0 where
  pub parts : AllCanonical s.modulus u
  pub count : length u ≡ s.columns
  pub part : Canonical s.modulus c
  pub inside : i < s.rows
  pub nonzero : ¬ (combination_of s u c i ≡ [])
  pub before : (k : ℕ) → k < i → length (combination_of s u c k) < length (combination_of s u c i)
  pub longest : (k : ℕ) → k < s.rows → length (combination_of s u c k) ≤ length (combination_of s u c i)

-- i is a pivot of A
pub record ColumnPivot (s : System) (i : ℕ) : Type 0 where
  pub parts : List (List ℕ)
  pub pivot : PivotAt s parts [] i

-- i is a pivot of A with b
pub record SystemPivot (s : System) (i : ℕ) : Type 0 where
  pub parts : List (List ℕ)
  pub part : List ℕ
  pub pivot : PivotAt s parts part i

-- ---- w and Z, of the fractions z = Z/w

-- z·b is 1/d but for a polynomial t: d·(Z·b) = w + t·d·w
pub record Inverts (s : System) (d w : List ℕ) (Z : List (List ℕ)) : Type 0 where
  pub whole : List ℕ
  pub canonical : Canonical s.modulus whole
  pub equal : mul (modulo s.modulus) d (side_of s Z)
      ≡ add (modulo s.modulus) w (mul (modulo s.modulus) whole (mul (modulo s.modulus) d w))

-- z_i is of smaller degree than 1/v_i, for some v = A·u + c·b with its pivot at i
pub record ShortEntry (s : System) (w : List ℕ) (Z : List (List ℕ)) (i : ℕ) : Type 0 where
  pub at : SystemPivot s i
  pub short : length (get_or Z i []) + length (combination_of s at.parts at.part i) ≤ length w

-- ---- certificates

pub record ChosenSolution (s : System) (d : List ℕ) (N : List (List ℕ)) (w : List ℕ) (Z : List (List ℕ)) : Type 0 where
  -- polynomials modulo p, of any degree, as many as the system asks
  pub proper : ProperSolution s d N w Z
  pub count : length Z ≡ s.rows
  pub right : RightSolution s d N w Z
  -- N: each entry is shorter than what relations of the columns can change there
  pub reduced : ReducedModuloRelations s N
  -- z: z·b is 1/d but for a polynomial, each entry that is not zero is short, and w is the denominator
  pub inverts : Inverts s d w Z
  pub short : (i : ℕ) → i < s.rows → ¬ (get_or Z i [] ≡ []) → ShortEntry s w Z i
  pub lowest : Denominator s.modulus Z w w

pub record ChosenAbsence (s : System) (q : List (List ℕ)) : Type 0 where
  pub proper : AllCanonical s.modulus q
  pub count : length q ≡ s.rows
  pub right : RightAbsence s q
  -- b adds one pivot to those of A; elsewhere q is zero but at pivots of A
  pub at : ℕ
  pub added : SystemPivot s at
  pub new : ¬ ColumnPivot s at
  pub support : (i : ℕ) → i < s.rows → ¬ (i ≡ at) → ¬ (get_or q i [] ≡ []) → ColumnPivot s i
  -- the entry of q there is the denominator of q divided by it
  pub lowest : Denominator s.modulus q (get_or q at []) (get_or q at [])

unfoldable pub Chosen : System → Certificate → Type 0
Chosen s (solution d N w Z) = ChosenSolution s d N w Z
Chosen s (absence q) = ChosenAbsence s q

pub chosen_right : (s : System) (c : Certificate) → Chosen s c → Right s c
unfolding Chosen Right
chosen_right s (solution d N w Z) C = C.right
chosen_right s (absence q) C = C.right
