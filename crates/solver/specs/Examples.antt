-- What there is to solve, by computation, in one table with one proposition over its rows.
use Rattle.std.specs.Prelude.{ℕ, ◌≡◌, refl, List, [], ◌∷◌, map, replicate}
use Rattle.modular.specs.Prime.{prime?}
use Rattle.words.specs.Limits.{office}
use Rattle.words.specs.Outcome.{Outcome}
use Rattle.words.specs.Outcome.Outcome.{accepted, refused}
use Rattle.words.specs.System.{System}
use Rattle.words.specs.Systems.{read_line}
use Rattle.words.specs.Bytes.{words_of, bytes_of, read_line_file}
use Rattle.solver.specs.Solving.{system_to_solve, file_to_solve}

record Example : Type 0 where
  gives : Outcome System
  expected : Outcome System

abbrev row : Outcome System → Outcome System → Example
row gives expected = record { gives = gives; expected = expected }

-- case 1 of document 01: p = 2, A = (x), b = 1
abbrev S : List ℕ
S = 0x10110002 ∷ 0x20000002 ∷ 0x30000000 ∷ 0x30000001 ∷ 0x20000001 ∷ 0x30000001 ∷ 0x40000007 ∷ []

abbrev case_1 : System
case_1 = record { modulus = 2; rows = 1; columns = 1; matrix = (0 ∷ 1 ∷ []) ∷ []; side = (1 ∷ []) ∷ [] }

-- with x as a second right side
abbrev S2 : List ℕ
S2 =
    0x11110002 ∷ 0x20000002 ∷ 0x30000000 ∷ 0x30000001 ∷ 0x20000001 ∷ 0x30000001 ∷ 0x20000002 ∷ 0x30000000 ∷ 0x30000001 ∷ 0x4000000a
    ∷ []

abbrev second : System
second = record { modulus = 2; rows = 1; columns = 1; matrix = (0 ∷ 1 ∷ []) ∷ []; side = (0 ∷ 1 ∷ []) ∷ [] }

abbrev examples : List Example
examples =
    -- 11: "S with 2,197", and one word more
    row (system_to_solve office 0 2197 S) (refused 11 0)
    ∷ row (system_to_solve office 0 2198 S) (accepted case_1)
    -- "The solver reads the sheet, then looks at 11"
    ∷ row (system_to_solve office 0 0 (0x10110004 ∷ [])) (refused 2 0)
    -- "An empty sheet is 4 at 0"
    ∷ row (system_to_solve office 0 0 []) (refused 4 0)
    -- 10: "five bytes"
    ∷ row (file_to_solve office 0 0 (replicate 5 0)) (refused 10 0)
    -- 11 on bytes, four to a word
    ∷ row (file_to_solve office 0 8791 (bytes_of S)) (refused 11 0)
    ∷ row (file_to_solve office 0 8792 (bytes_of S)) (accepted case_1)
    -- "right sides count from 0"
    ∷ row (system_to_solve office 0 2198 S2) (accepted case_1)
    ∷ row (system_to_solve office 1 2198 S2) (accepted second)
    ∷ row (file_to_solve office 1 8792 (bytes_of S2)) (accepted second)
    -- 40: "a right side that the sheet doesn't have, place 0, after the sheet has been read and before 11"
    ∷ row (system_to_solve office 2 2198 S2) (refused 40 0)
    ∷ row (system_to_solve office 1 0 S) (refused 40 0)
    ∷ row (system_to_solve office 1 0 (0x10110004 ∷ [])) (refused 2 0)
    ∷ row (file_to_solve office 8 0 (bytes_of S2)) (refused 40 0)
    ∷ row (file_to_solve office 1 0 (replicate 5 0)) (refused 10 0)
    ∷ []

examples_hold : map (λ e. e.gives) examples ≡ map (λ e. e.expected) examples
unfolding read_line read_line_file bytes_of words_of prime?
examples_hold = refl
