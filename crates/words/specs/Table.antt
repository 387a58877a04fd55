-- Document 01's table "Turned back", rows 1 to 9 and 21 to 29, as a table: what is due at a place, the first row that a word breaks
-- there, and what is due behind it. No value is read here; that the readers refuse just by this table, and at the first word that
-- breaks a row, is shown in `RefusedLaws`.
use Rattle.std.specs.Prelude.{ℕ, zero, suc, ◌+◌, ◌≤◌, ◌≡◌, Bool, true, false, not, ◌&&◌, ◌||◌, List, [], ◌∷◌, length, take, drop, eqb, leb, ltb}
use Rattle.std.proofs.Math.Option.{Option, none, some}
use Rattle.modular.specs.Prime.{prime?}
use Rattle.words.specs.Limits.{Limits}
use Rattle.words.specs.Word.{kind, payload}
use Rattle.words.specs.Frame.{Due}
use Rattle.words.specs.System.{Shape, counts_within}
use Rattle.words.specs.Systems.{head_in, systems_due}
use Rattle.words.specs.Certificate.{form_when, certificate_due}

-- ---- what is due

pub data Expected : Type 0 where
  head : Expected
  -- modulo p, at most so many coefficients each: the start of a polynomial, behind which so many polynomials are left
  start : (p limit left : ℕ) → Expected
  -- a coefficient, behind which so many more are due in its polynomial (none: it is the last), and so many polynomials
  coefficient : (p limit more left : ℕ) → Expected
  end : Expected
  nothing : Expected

-- so many polynomials, then the end
unfoldable pub polynomials_due : (p limit left : ℕ) → Expected
polynomials_due p limit zero = end
polynomials_due p limit (suc left) = start p limit left

-- so many coefficients, then so many polynomials
unfoldable pub coefficients_due : (p limit more left : ℕ) → Expected
coefficients_due p limit zero left = polynomials_due p limit left
coefficients_due p limit (suc more) left = coefficient p limit more left

-- ---- the rows

-- a row: its number where its condition holds, else what the rows below it say
abbrev pub table_row : Bool → ℕ → Option ℕ → Option ℕ
table_row true number below = some number
table_row false number below = below

-- of a sheet or a card: the rows for its head, and what a head says is due
pub record HeadTable : Type 0 where
  pub number : ℕ → Option ℕ
  pub due : ℕ → Due

-- The first row that a word breaks, by what is due there; the word is the so many-th of all. Behind a card's head the numbers are
-- greater by 20.
unfoldable pub number_at : HeadTable → (by : ℕ) → Expected → (count w : ℕ) → Option ℕ
number_at T by head count w = T.number w
number_at T by (start p limit left) count w =
    table_row (not (eqb (kind w) 2)) (5 + by)  -- kind 2 due, another found
    (table_row (ltb limit (payload w)) (6 + by)  -- more than 16 coefficients; on a card 121
    none)
number_at T by (coefficient p limit more left) count w =
    table_row (not (eqb (kind w) 3)) (5 + by)  -- kind 3 due, another found
    (table_row (leb p (payload w)) (7 + by)  -- coefficient p or more
    (table_row (eqb more 0 && eqb (payload w) 0) (8 + by)  -- last coefficient 0
    none))
number_at T by end count w =
    table_row (not (eqb (kind w) 4)) (5 + by)  -- kind 4 due, another found
    (table_row (not (eqb (payload w) count)) (9 + by)  -- end payload wrong
    none)
number_at T by nothing count w = some (9 + by)  -- words follow

-- where the words end: a word is missing, if anything is due
unfoldable pub missing_at : (by : ℕ) → Expected → Option ℕ
missing_at by head = some (4 + by)
missing_at by (start p limit left) = some (4 + by)
missing_at by (coefficient p limit more left) = some (4 + by)
missing_at by end = some (4 + by)
missing_at by nothing = none

-- what is due behind a word that breaks no row
unfoldable pub after : HeadTable → Expected → ℕ → Expected
after T head w = polynomials_due (T.due w).modulus (T.due w).limit (T.due w).count
after T (start p limit left) w = coefficients_due p limit (payload w) left
after T (coefficient p limit more left) w = coefficients_due p limit more left
after T end w = nothing
after T nothing w = nothing

-- what is due behind words, the first of which meets what is due before them
unfoldable pub due_after : HeadTable → Expected → List ℕ → Expected
due_after T e [] = e
due_after T e (w ∷ ws) = due_after T (after T e w) ws

-- ---- the first fault

-- none of these words breaks a row; so many stand before them
unfoldable pub Passed : HeadTable → (by before : ℕ) → Expected → List ℕ → Type 0
Passed T by before e [] = Unit {0}
Passed T by before e (w ∷ ws) = (number_at T by e (suc before) w ≡ none) × Passed T by (suc before) (after T e w) ws

-- the row that the first of these words breaks, or that one is missing
unfoldable pub first_at : HeadTable → (by before : ℕ) → Expected → List ℕ → Option ℕ
first_at T by before e [] = missing_at by e
first_at T by before e (w ∷ ws) = number_at T by e (suc before) w

-- "the first word at fault decides, its conditions tried in the order of the table"
pub record ByTable (T : HeadTable) (by : ℕ) (ws : List ℕ) (number place : ℕ) : Type 0 where
  pub within : place ≤ length ws
  pub before : Passed T by 0 head (take place ws)
  pub row : first_at T by place (due_after T head (take place ws)) (drop place ws) ≡ some number

-- ---- polynomials alone: what is due is a word of theirs

abbrev pub OfPolynomials : Expected → Type 0
OfPolynomials head = ⊥
OfPolynomials (start p limit left) = Unit {0}
OfPolynomials (coefficient p limit more left) = Unit {0}
OfPolynomials end = ⊥
OfPolynomials nothing = ⊥

-- where no head is due, and none says what is due
abbrev pub headless : HeadTable
headless = record { number = λ w. none; due = λ w. record { modulus = 0; limit = 0; count = 0 } }

-- the first word at fault of so many polynomials modulo p, each of at most so many coefficients; places count from the first word
pub record PolynomialsByTable (p limit count : ℕ) (ws : List ℕ) (number place : ℕ) : Type 0 where
  pub within : place ≤ length ws
  pub before : Passed headless 0 0 (polynomials_due p limit count) (take place ws)
  pub due : OfPolynomials (due_after headless (polynomials_due p limit count) (take place ws))
  pub row : first_at headless 0 place (due_after headless (polynomials_due p limit count) (take place ws)) (drop place ws)
      ≡ some number

-- ---- the heads

-- 1: kind not 1, or bits 24 to 27, the number of right sides less one, above 7; 2: p not prime; 3: n or m outside 1 to 8
unfoldable pub system_head_number : Limits → ℕ → Option ℕ
system_head_number limits w =
    table_row (not (eqb (kind w) 1 && leb (head_in w).sides limits.sides)) 1
    (table_row (not (prime? (head_in w).shape.modulus)) 2
    (table_row (not (counts_within limits (head_in w).shape)) 3
    none))

-- 21: kind not 5 or payload not 1 or 2
unfoldable pub certificate_head_number : ℕ → Option ℕ
certificate_head_number w = table_row (not (eqb (kind w) 5 && (eqb (payload w) 1 || eqb (payload w) 2))) 21 none

abbrev pub system_table : Limits → HeadTable
system_table limits = record { number = system_head_number limits; due = λ w. systems_due limits (head_in w) }

abbrev pub certificate_table : Limits → Shape → HeadTable
certificate_table limits h =
    record { number = certificate_head_number; due = λ w. certificate_due limits h (form_when (eqb (payload w) 1)) }
