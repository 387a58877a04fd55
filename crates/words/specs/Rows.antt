-- The first two columns of document 01's table "Turned back", for each entry: which numbers its refusals have, and at which places.
-- Under which condition each is given is said in `Table`, and of 31 to 36 with the check.
use Rattle.std.specs.Prelude.{ℕ, suc, ◌+◌, ◌≤◌, ◌<◌, ◌≡◌, ◌⊎◌, List, [], ◌∷◌, ◌++◌, length, get_or}
use Rattle.words.specs.Outcome.{Outcome}
use Rattle.words.specs.Outcome.Outcome.{refused}
use Rattle.words.specs.System.{Shape}
use Rattle.words.specs.Systems.{head_in}

-- the numbers `lowest` to `highest`, at the places from `first` on and below `below`
pub record Row : Type 0 where
  pub lowest : ℕ
  pub highest : ℕ
  pub first : ℕ
  pub below : ℕ

abbrev pub row_with : (lowest highest first below : ℕ) → Row
row_with lowest highest first below = record { lowest = lowest; highest = highest; first = first; below = below }

-- one number, at place 0
abbrev pub at_0 : ℕ → Row
at_0 number = row_with number number 0 1

pub record InRow (r : Row) (number place : ℕ) : Type 0 where
  pub from : r.lowest ≤ number
  pub to : number ≤ r.highest
  pub after : r.first ≤ place
  pub before : place < r.below

-- in one of the rows
unfoldable pub InRows : List Row → (number place : ℕ) → Type 0
InRows [] number place = ⊥
InRows (r ∷ rows) number place = InRow r number place ⊎ InRows rows number place

-- all refusals are
pub record RefusesBy {A : Type 0} (rows : List Row) (o : Outcome A) : Type 0 where
  pub in_rows : (number place : ℕ) → o ≡ refused number place → InRows rows number place

-- ---- words: the head's numbers at 0; 4 at the number of words; 5 to 9 at a word behind the head. On a card all greater by 20.

abbrev pub words_rows : (lowest highest by count : ℕ) → List Row
words_rows lowest highest by count =
    row_with lowest highest 0 1 ∷ row_with (4 + by) (4 + by) count (suc count) ∷ row_with (5 + by) (9 + by) 1 count ∷ []

-- 4 to 8 of the words from a polynomial's start on
abbrev pub polynomial_rows : (count : ℕ) → List Row
polynomial_rows count = row_with 4 4 count (suc count) ∷ row_with 5 8 0 count ∷ []

-- 1 to 9 of a sheet's words
abbrev pub system_rows : List ℕ → List Row
system_rows ws = words_rows 1 3 0 (length ws)

-- and 40, of one line
abbrev pub line_rows : List ℕ → List Row
line_rows ws = system_rows ws ++ at_0 40 ∷ []

-- 21 and 24 to 29 of a certificate's
abbrev pub certificate_rows : List ℕ → List Row
certificate_rows cs = words_rows 21 21 20 (length cs)

-- ---- values: "31: d (place 0, tried first) or w (place 1)"; "32: first such row"; "33", "35: first such column"; "34", "36: 0"

abbrev pub value_rows : Shape → List Row
value_rows h =
    row_with 31 31 0 2 ∷ row_with 32 32 0 h.rows ∷ row_with 33 33 0 h.columns ∷ at_0 34 ∷ row_with 35 35 0 h.columns ∷ at_0 36
    ∷ []

-- ---- entries

-- a sheet's file: 10 and the sheet's; the same of one line
abbrev pub file_rows : List ℕ → List Row
file_rows words = at_0 10 ∷ system_rows words

abbrev pub line_file_rows : List ℕ → List Row
line_file_rows words = at_0 10 ∷ line_rows words

-- the solver: 11 behind the line's; on files behind 10 and the line's
abbrev pub solver_rows : List ℕ → List Row
solver_rows ws = line_rows ws ++ at_0 11 ∷ []

abbrev pub solver_file_rows : List ℕ → List Row
solver_file_rows words = line_file_rows words ++ at_0 11 ∷ []

-- the check on words
abbrev pub check_rows : List ℕ → List ℕ → List Row
check_rows ws cs = line_rows ws ++ certificate_rows cs ++ value_rows (head_in (get_or ws 0 0)).shape

-- the check that keeps limits beside those of reading: 41, "place 0 for the sheet, tried first, and 1 for the card", "before 31"
abbrev pub kept_rows : Shape → List Row
kept_rows h = row_with 41 41 0 2 ∷ value_rows h

abbrev pub check_kept_rows : List ℕ → List ℕ → List Row
check_kept_rows ws cs = line_rows ws ++ certificate_rows cs ++ kept_rows (head_in (get_or ws 0 0)).shape

-- the check on files, of their words
abbrev pub check_file_rows : List ℕ → List ℕ → List Row
check_file_rows ws cs = at_0 10 ∷ check_rows ws cs

-- the lookup
abbrev pub lookup_rows : List ℕ → List ℕ → List Row
lookup_rows ws cs = system_rows ws ++ certificate_rows cs ++ at_0 12 ∷ []
