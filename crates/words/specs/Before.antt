-- Sheets before document 02, item 1, as document 01 has them: "A sheet is head, A row by row, b, end", with bits 24 to 27 of the
-- head zero. Nothing reads by this any more; that "sheets of before read as they did" is shown against it (`BeforeLaws`).
use Rattle.std.specs.Prelude.{ℕ, ◌+◌, ◌*◌, ◌/◌, ◌%◌, ◌≡◌, not, ◌&&◌, ◌||◌, List, [], ◌∷◌, length, take, drop, eqb, ltb}
use Rattle.modular.specs.Bits.{bound4, bound16}
use Rattle.modular.specs.Prime.{prime?}
use Rattle.words.specs.Limits.{Limits, words_for}
use Rattle.words.specs.Word.{kind}
use Rattle.words.specs.Outcome.{Outcome, refuse}
use Rattle.words.specs.Reading.{Reading, turn_back, and_then, outcome}
use Rattle.words.specs.Reading.Reading.{read, fault}
use Rattle.words.specs.Polynomial.{coefficients_from, polynomial_from, polynomials_from}
use Rattle.words.specs.Frame.{Due, Framed, end_from, body_from, framed_from}
use Rattle.words.specs.System.{System, Shape, counts_within}
use Rattle.words.specs.Systems.{row_unit, column_unit, side_unit}
use Rattle.words.specs.Bytes.{words_of, broken, word_bytes}

-- bits 24 to 27 of the first word are zero
abbrev pub ZeroBits : List ℕ → Type 0
ZeroBits [] = Unit {0}
ZeroBits (w ∷ ws) = w / side_unit % bound4 ≡ 0

unfoldable pub head_shape : ℕ → Shape
head_shape w = record { modulus = w % bound16; rows = w / row_unit % bound4; columns = w / column_unit % bound4 }

unfoldable pub head_from : Limits → List ℕ → Reading Shape
head_from limits [] = fault 4 []  -- "An empty sheet is 4 at 0"
head_from limits (w ∷ ws) =
    turn_back (not (eqb (kind w) 1 && eqb (w / side_unit % bound4) 0)) 1 (w ∷ ws)  -- 1: kind not 1 or bits 24 to 27 not zero
    (turn_back (not (prime? (head_shape w).modulus)) 2 (w ∷ ws)  -- 2: p not prime
    (turn_back (not (counts_within limits (head_shape w))) 3 (w ∷ ws)  -- 3: n or m outside 1 to 8
    (read (head_shape w) ws)))

abbrev pub due_behind : Limits → Shape → Due
due_behind limits h =
    record { modulus = h.modulus; limit = limits.system_coefficients; count = h.rows * h.columns + h.rows }

unfoldable pub system_of : Framed Shape → System
system_of v = record {
  modulus = v.head.modulus;
  rows = v.head.rows;
  columns = v.head.columns;
  matrix = take (v.head.rows * v.head.columns) v.entries;
  side = drop (v.head.rows * v.head.columns) v.entries;
}

unfoldable pub before_from : Limits → List ℕ → Reading System
before_from limits ws = and_then (framed_from 0 (head_from limits) (due_behind limits) ws) (λ v rest. read (system_of v) rest)

unfoldable pub read_before : Limits → List ℕ → Outcome System
unfolding before_from head_from head_shape prime? system_of framed_from body_from end_from polynomials_from polynomial_from coefficients_from
read_before limits ws = outcome (length ws) (before_from limits ws)

-- "Longest sheet 1,226 words"
abbrev pub longest_before : Limits → ℕ
longest_before limits = words_for (limits.rows * limits.columns + limits.rows) limits.system_coefficients

-- 10: "file of bytes not a multiple of four, or over 4,904"
unfoldable pub read_before_file : Limits → List ℕ → Outcome System
unfolding read_before words_of
read_before_file limits bytes =
    refuse (broken bytes || ltb (word_bytes * longest_before limits) (length bytes)) 10 0 (read_before limits (words_of bytes))
