-- The definition computes: what the panel says of buffers at its limits and one beyond, in the order of document 02, item 4.
use Rattle.std.specs.Prelude.{ℕ, ◌≡◌, refl, List, [], ◌∷◌, ◌++◌, map, take, replicate}
use Rattle.modular.specs.Prime.{prime?}
use Rattle.words.specs.Outcome.{Outcome}
use Rattle.words.specs.Outcome.Outcome.{accepted, refused}
use Rattle.words.specs.Systems.{systems_words}
use Rattle.words.specs.Certificate.{certificate_words}
use Rattle.words.specs.Certificate.Certificate.{solution, absence}
use Rattle.words.specs.Bytes.{words_of, bytes_of}
use Rattle.verifier.specs.File.{panel_verdict}

-- x to a power: one coefficient more than that
abbrev power : ℕ → List ℕ
power n = replicate n 0 ++ 1 ∷ []

-- p = 2, one row; A, and the right sides
abbrev system_with : (columns sides : ℕ) → List (List ℕ) → List (List ℕ) → List ℕ
system_with columns sides A bs =
    systems_words (record {
      head = record { shape = record { modulus = 2; rows = 1; columns = columns }; sides = sides };
      matrix = A;
      side_entries = bs;
    })

-- case 1: A = (x), b = 1; d = x, N = (1), w = x, Z = (1)
abbrev system1 : List ℕ
system1 = system_with 1 1 (power 1 ∷ []) (power 0 ∷ [])

abbrev certificate_with : (d : List ℕ) → List ℕ
certificate_with d = certificate_words (solution d (power 0 ∷ []) (power 1) (power 0 ∷ []))

-- A zero, b = 1: no solution, by q = 1
abbrev zeros : ℕ → List ℕ
zeros columns = system_with columns 1 (replicate columns []) (power 0 ∷ [])

abbrev none : List ℕ
none = certificate_words (absence (power 0 ∷ []))

record Row : Type 0 where
  system : List ℕ
  certificate : List ℕ
  due : Outcome (Unit {0})

abbrev row : List ℕ → List ℕ → Outcome (Unit {0}) → Row
row f g due = record { system = f; certificate = g; due = due }

abbrev rows : List Row
rows =
    row (bytes_of system1) (bytes_of (certificate_with (power 1))) (accepted tt)
    -- 10 of either buffer, before all else
    ∷ row (take 27 (bytes_of system1)) [] (refused 10 0)
    ∷ row [] (0 ∷ []) (refused 10 0)
    -- no length is too long: the first word behind the end is at fault
    ∷ row (bytes_of (system1 ++ replicate 40 0)) (bytes_of (certificate_with (power 1))) (refused 9 7)
    ∷ row (bytes_of system1) (bytes_of (certificate_with (power 1) ++ replicate 40 0)) (refused 29 12)
    -- 4 columns, and 5
    ∷ row (bytes_of (zeros 4)) (bytes_of none) (accepted tt)
    ∷ row (bytes_of (zeros 5)) (bytes_of none) (refused 41 0)
    -- two right sides; the card is read first
    ∷ row (bytes_of (system_with 1 2 (power 1 ∷ []) (power 0 ∷ power 0 ∷ []))) (bytes_of (certificate_with (power 1))) (refused 41 0)
    ∷ row (bytes_of (system_with 1 2 (power 1 ∷ []) (power 0 ∷ power 0 ∷ []))) [] (refused 24 0)
    -- 8 coefficients, 9, and 17, which the office does not read
    ∷ row (bytes_of (system_with 1 1 (power 7 ∷ []) (power 0 ∷ []))) (bytes_of (certificate_with (power 1))) (refused 32 0)
    ∷ row (bytes_of (system_with 1 1 (power 8 ∷ []) (power 0 ∷ []))) (bytes_of (certificate_with (power 1))) (refused 41 0)
    ∷ row (bytes_of (system_with 1 1 (power 16 ∷ []) (power 0 ∷ []))) (bytes_of (certificate_with (power 1))) (refused 6 1)
    -- of the card 29 coefficients, and 30; both too large
    ∷ row (bytes_of system1) (bytes_of (certificate_with (power 28))) (refused 32 0)
    ∷ row (bytes_of system1) (bytes_of (certificate_with (power 29))) (refused 41 1)
    ∷ row (bytes_of (system_with 1 1 (power 8 ∷ []) (power 0 ∷ []))) (bytes_of (certificate_with (power 29))) (refused 41 0)
    ∷ []

panel_examples : map (λ r. panel_verdict r.system r.certificate) rows ≡ map (λ r. r.due) rows
unfolding panel_verdict words_of bytes_of systems_words certificate_words prime?
panel_examples = refl
