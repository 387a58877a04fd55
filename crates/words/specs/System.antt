-- A system: its values, and the limits that they keep. Its written form, which may hold several right sides, is in `Systems`.
use Rattle.std.specs.Prelude.{ℕ, ◌+◌, ◌*◌, ◌≤◌, Bool, ◌&&◌, List, [], get_or, leb}
use Rattle.modular.specs.LargestPrime.{largest_modulus}
use Rattle.modular.specs.Prime.{Prime}
use Rattle.words.specs.Limits.{Limits}
use Rattle.words.specs.Polynomial.{VectorWithin}

-- ---- values

-- A·y = b over the polynomials modulo p: n rows, m columns, A row by row, b
pub record System : Type 0 where
  pub modulus : ℕ
  pub rows : ℕ
  pub columns : ℕ
  pub matrix : List (List ℕ)
  pub side : List (List ℕ)

-- A's polynomial at row i, column j
abbrev pub entry : System → ℕ → ℕ → List ℕ
entry s i j = get_or s.matrix (i * s.columns + j) []

-- b's polynomial at row i
abbrev pub side_entry : System → ℕ → List ℕ
side_entry s i = get_or s.side i []

-- p, n and m: what a certificate must know of its system
pub record Shape : Type 0 where
  pub modulus : ℕ
  pub rows : ℕ
  pub columns : ℕ

abbrev pub shape : System → Shape
shape s = record { modulus = s.modulus; rows = s.rows; columns = s.columns }

-- ---- limits: "Rows and columns: 1 to 8 each. p: any prime from 2 to 65,521. Sheet polynomials: degree at most 15."

pub record ShapeWithin (limits : Limits) (h : Shape) : Type 0 where
  pub prime : Prime h.modulus
  pub modulus : h.modulus ≤ largest_modulus
  pub rows : (1 ≤ h.rows) × (h.rows ≤ limits.rows)
  pub columns : (1 ≤ h.columns) × (h.columns ≤ limits.columns)

pub record SystemWithin (limits : Limits) (s : System) : Type 0 where
  pub shape : ShapeWithin limits (shape s)
  pub matrix : VectorWithin s.modulus limits.system_coefficients (s.rows * s.columns) s.matrix
  pub side : VectorWithin s.modulus limits.system_coefficients s.rows s.side

-- the same as a test of the numbers of rows and columns
abbrev pub one_to : ℕ → ℕ → Bool
one_to most n = leb 1 n && leb n most

abbrev pub counts_within : Limits → Shape → Bool
counts_within limits h = one_to limits.rows h.rows && one_to limits.columns h.columns
