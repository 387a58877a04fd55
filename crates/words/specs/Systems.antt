-- What a sheet holds: a matrix and one or more right sides, that is, systems which share a matrix (document 01, "Words"; document
-- 02, item 1: "Two lines, one matrix"). Their values, the limits that they keep, the written form, the reading of it, and the
-- system of one line.
use Rattle.std.specs.Prelude.{ℕ, ◌+◌, ◌-◌, ◌*◌, ◌/◌, ◌%◌, ◌≤◌, not, ◌&&◌, List, [], ◌∷◌, ◌++◌, length, take, drop, eqb, leb, ltb}
use Rattle.modular.specs.Bits.{bound4, bound16}
use Rattle.modular.specs.Prime.{prime?}
use Rattle.words.specs.Limits.{Limits, system_count}
use Rattle.words.specs.Word.{kind, word}
use Rattle.words.specs.Outcome.{Outcome, refuse, followed_by}
use Rattle.words.specs.Outcome.Outcome.{accepted}
use Rattle.words.specs.Reading.{Reading, turn_back, and_then, outcome}
use Rattle.words.specs.Reading.Reading.{read, fault}
use Rattle.words.specs.Polynomial.{VectorWithin, polynomial_words, polynomials_words, coefficients_from, polynomial_from}
use Rattle.words.specs.Polynomial.{polynomials_from}
use Rattle.words.specs.Frame.{Due, Framed, framed_words, end_from, body_from, framed_from}
use Rattle.words.specs.System.{System, Shape, ShapeWithin, counts_within}

-- ---- values

-- what the head holds: p, n, m and the number of right sides
pub record Head : Type 0 where
  pub shape : Shape
  pub sides : ℕ

-- A row by row, and the right sides one after another, n polynomials each
pub record Systems : Type 0 where
  pub head : Head
  pub matrix : List (List ℕ)
  pub side_entries : List (List ℕ)

abbrev pub systems_head : Systems → Head
systems_head s = s.head

-- the system of line k, with A and right side k: "right sides count from 0"
unfoldable pub line : Systems → ℕ → System
line s k = record {
  modulus = s.head.shape.modulus;
  rows = s.head.shape.rows;
  columns = s.head.shape.columns;
  matrix = s.matrix;
  side = take s.head.shape.rows (drop (k * s.head.shape.rows) s.side_entries);
}

-- a system alone: one right side
unfoldable pub single : System → Systems
single s = record {
  head = record { shape = record { modulus = s.modulus; rows = s.rows; columns = s.columns }; sides = 1 };
  matrix = s.matrix;
  side_entries = s.side;
}

-- ---- limits

pub record HeadWithin (limits : Limits) (h : Head) : Type 0 where
  pub shape : ShapeWithin limits h.shape
  pub sides : (1 ≤ h.sides) × (h.sides ≤ limits.sides)

pub record SystemsWithin (limits : Limits) (s : Systems) : Type 0 where
  pub head : HeadWithin limits s.head
  pub matrix : VectorWithin s.head.shape.modulus limits.system_coefficients (s.head.shape.rows * s.head.shape.columns)
      s.matrix
  pub side_entries : VectorWithin s.head.shape.modulus limits.system_coefficients (s.head.sides * s.head.shape.rows)
      s.side_entries

-- ---- written form: "A sheet is head, A row by row, b, end."; the right sides "stand one after another behind A"

-- in a head: one row more, one column more and one right side more are so much more: 2^16, 2^20, 2^24. Each of the three has four
-- bits.
abbrev pub row_unit : ℕ
row_unit = 65536

abbrev pub column_unit : ℕ
column_unit = 1048576

abbrev pub side_unit : ℕ
side_unit = 16777216

-- kind 1: p in bits 0 to 15, n in bits 16 to 19, m in bits 20 to 23; "bits 24 to 27 of the sheet head now hold the number of right
-- sides less one"
unfoldable pub head_word : Head → ℕ
head_word h = word 1
    (h.shape.modulus + h.shape.rows * row_unit + h.shape.columns * column_unit + (h.sides - 1) * side_unit)

abbrev pub systems_entries : Systems → List (List ℕ)
systems_entries s = s.matrix ++ s.side_entries

unfoldable pub systems_words : Systems → List ℕ
unfolding head_word framed_words polynomials_words polynomial_words
systems_words s = framed_words (head_word s.head) (systems_entries s)

-- ---- reading

unfoldable pub head_in : ℕ → Head
head_in w = record {
  shape = record { modulus = w % bound16; rows = w / row_unit % bound4; columns = w / column_unit % bound4 };
  sides = w / side_unit % bound4 + 1;
}

unfoldable pub systems_head_from : Limits → List ℕ → Reading Head
systems_head_from limits [] = fault 4 []  -- "An empty sheet is 4 at 0"
systems_head_from limits (w ∷ ws) =
    turn_back (not (eqb (kind w) 1 && leb (head_in w).sides limits.sides)) 1 (w ∷ ws)  -- 1: "a wrong kind or those bits above 7"
    (turn_back (not (prime? (head_in w).shape.modulus)) 2 (w ∷ ws)  -- 2: p not prime
    (turn_back (not (counts_within limits (head_in w).shape)) 3 (w ∷ ws)  -- 3: n or m outside 1 to 8
    (read (head_in w) ws)))

-- what is due behind a head: A and the right sides
abbrev pub systems_due : Limits → Head → Due
systems_due limits h = record {
  modulus = h.shape.modulus;
  limit = limits.system_coefficients;
  count = system_count h.shape.rows h.shape.columns h.sides;
}

unfoldable pub systems_of : Framed Head → Systems
systems_of v = record {
  head = v.head;
  matrix = take (v.head.shape.rows * v.head.shape.columns) v.entries;
  side_entries = drop (v.head.shape.rows * v.head.shape.columns) v.entries;
}

-- 4 to 9: in the body
unfoldable pub systems_from : Limits → List ℕ → Reading Systems
systems_from limits ws = and_then (framed_from 0 (systems_head_from limits) (systems_due limits) ws) (λ v rest. read (systems_of v) rest)

-- The whole: the values, or number and place. It opens all that the reading is made of, so that examples compute; laws go through
-- `systems_from_shown` instead.
unfoldable pub read_systems : Limits → List ℕ → Outcome Systems
unfolding systems_from systems_head_from head_in prime? systems_of
    framed_from body_from end_from polynomials_from polynomial_from coefficients_from
read_systems limits ws = outcome (length ws) (systems_from limits ws)

-- ---- one line: what the solver and the check, which "are told which right side is meant", read

-- 40: "a right side that the sheet doesn't have, place 0, after the sheet has been read"
abbrev pub line_of : ℕ → Systems → Outcome System
line_of k s = refuse (not (ltb k s.head.sides)) 40 0 (accepted (line s k))

unfoldable pub read_line : Limits → ℕ → List ℕ → Outcome System
unfolding read_systems line
read_line limits k ws = followed_by (read_systems limits ws) (line_of k)
