-- The definitions compute: case 1 from arrays to words, the same with a second right side, and each refusal of the writers once,
-- with the order of two.
use Rattle.std.specs.Prelude.{◌≡◌, refl, ℕ, List, [], ◌∷◌, ◌++◌, replicate}
use Rattle.words.specs.Limits.{office}
use Rattle.words.specs.Outcome.{Outcome}
use Rattle.words.specs.Outcome.Outcome.{accepted, refused}
use Rattle.words.specs.Systems.{Systems}
use Rattle.words.specs.Certificate.{Certificate}
use Rattle.words.specs.Certificate.Certificate.{solution, absence}
use Rattle.words.specs.Certificate.Form.{solving}
use Rattle.modular.specs.Prime.{prime?}
use Rattle.writer.specs.Writing.{write_systems, write_certificate, lent_after}
use Rattle.writer.specs.Values.{shape_with, head_with, system_in_arrays, certificate_in}

-- ---- case 1: p = 2, A = (x), b = 1

system1 : Systems
system1 = record { head = head_with 2 1 1 1; matrix = (0 ∷ 1 ∷ []) ∷ []; side_entries = (1 ∷ []) ∷ [] }

-- and a second right side, x
system2 : Systems
system2 = record { head = head_with 2 1 1 2; matrix = (0 ∷ 1 ∷ []) ∷ []; side_entries = (1 ∷ []) ∷ (0 ∷ 1 ∷ []) ∷ [] }

certificate1 : Certificate
certificate1 = solution (0 ∷ 1 ∷ []) ((1 ∷ []) ∷ []) (0 ∷ 1 ∷ []) ((1 ∷ []) ∷ [])

system1_in : system_in_arrays office (head_with 2 1 1 1) (2 ∷ 1 ∷ []) (0 ∷ 1 ∷ replicate 14 0 ++ 1 ∷ []) ≡ system1
unfolding system_in_arrays system1
system1_in = refl

-- each polynomial 16 numbers behind the one before
system2_in : system_in_arrays office (head_with 2 1 1 2) (2 ∷ 1 ∷ 2 ∷ [])
    (0 ∷ 1 ∷ replicate 14 0 ++ 1 ∷ replicate 15 0 ++ 0 ∷ 1 ∷ []) ≡ system2
unfolding system_in_arrays system2
system2_in = refl

-- beyond an array there is 0: two zero polynomials
certificate_in_lem : certificate_in (shape_with 2 1 1) solving (2 ∷ 1 ∷ []) (0 ∷ 1 ∷ replicate 126 0 ++ 1 ∷ [])
    ≡ solution (0 ∷ 1 ∷ []) ((1 ∷ []) ∷ []) [] ([] ∷ [])
unfolding certificate_in
certificate_in_lem = refl

system1_written : write_systems office 2178 system1
    ≡ accepted (0x10110002 ∷ 0x20000002 ∷ 0x30000000 ∷ 0x30000001 ∷ 0x20000001 ∷ 0x30000001 ∷ 0x40000007 ∷ [])
unfolding write_systems system1 prime?
system1_written = refl

-- the head says one right side more, and its words stand behind those of the first
system2_words : List ℕ
system2_words =
    0x11110002
    ∷ 0x20000002 ∷ 0x30000000 ∷ 0x30000001
    ∷ 0x20000001 ∷ 0x30000001
    ∷ 0x20000002 ∷ 0x30000000 ∷ 0x30000001
    ∷ 0x4000000A
    ∷ []

system2_written : write_systems office 2178 system2 ≡ accepted system2_words
unfolding write_systems system2 system2_words prime?
system2_written = refl

certificate1_words : List ℕ
certificate1_words =
    0x50000001
    ∷ 0x20000002 ∷ 0x30000000 ∷ 0x30000001
    ∷ 0x20000001 ∷ 0x30000001
    ∷ 0x20000002 ∷ 0x30000000 ∷ 0x30000001
    ∷ 0x20000001 ∷ 0x30000001
    ∷ 0x4000000C
    ∷ []

certificate1_written : write_certificate office 2198 (shape_with 2 1 1) certificate1 ≡ accepted certificate1_words
unfolding write_certificate certificate1 certificate1_words prime?
certificate1_written = refl

-- lent words behind what is written keep their values; on a refusal all do
lent_behind : lent_after (accepted (1 ∷ 2 ∷ [])) (7 ∷ 8 ∷ 9 ∷ []) ≡ 1 ∷ 2 ∷ 9 ∷ []
unfolding lent_after
lent_behind = refl

lent_refused : lent_after (refused 11 0) (7 ∷ 8 ∷ 9 ∷ []) ≡ 7 ∷ 8 ∷ 9 ∷ []
unfolding lent_after
lent_refused = refl

-- ---- refusals of a matrix of n rows and one column with some right sides, with one polynomial of A and those of the right sides

refused_of : ℕ → ℕ → ℕ → ℕ → List ℕ → List (List ℕ) → Outcome (List ℕ)
refused_of lent p n sides f bs =
    write_systems office lent (record { head = head_with p n 1 sides; matrix = f ∷ []; side_entries = bs })

-- 1, for no right side and for nine, before 2; 2 before 3; 3
heads_refused : refused_of 2177 4 9 0 (2 ∷ []) []
    ∷ refused_of 2177 4 9 9 (2 ∷ []) []
    ∷ refused_of 2177 4 9 8 (2 ∷ []) []
    ∷ refused_of 2177 2 9 8 (2 ∷ []) []
    ∷ []
    ≡ refused 1 0 ∷ refused 1 0 ∷ refused 2 0 ∷ refused 3 0 ∷ []
unfolding refused_of write_systems prime?
heads_refused = refl

-- 6; 7; 8; 7 in the right side; the first of two faults; 8 in the second right side; 11, of one right side too; a fault before 11
systems_refused : refused_of 2178 2 1 1 (replicate 17 1) ([] ∷ [])
    ∷ refused_of 2178 2 1 1 (2 ∷ []) ([] ∷ [])
    ∷ refused_of 2178 2 1 1 (1 ∷ 0 ∷ []) ([] ∷ [])
    ∷ refused_of 2178 2 1 1 (0 ∷ 1 ∷ []) ((1 ∷ 3 ∷ []) ∷ [])
    ∷ refused_of 2178 2 1 1 (0 ∷ []) ((1 ∷ 3 ∷ []) ∷ [])
    ∷ refused_of 2178 2 1 2 (0 ∷ 1 ∷ []) ((1 ∷ []) ∷ (1 ∷ 0 ∷ []) ∷ [])
    ∷ refused_of 2177 2 1 1 [] ([] ∷ [])
    ∷ refused_of 2177 2 1 1 [] ((2 ∷ []) ∷ [])
    ∷ []
    ≡ refused 6 1
    ∷ refused 7 2
    ∷ refused 8 3
    ∷ refused 7 6
    ∷ refused 8 2
    ∷ refused 8 8
    ∷ refused 11 0
    ∷ refused 7 3
    ∷ []
unfolding refused_of write_systems prime?
systems_refused = refl

-- ---- refusals of an absence

-- 2 before 3; 3; 26; 27; 28; 11, where 121 coefficients are fine
certificates_refused : write_certificate office 2198 (shape_with 4 9 1) (absence [])
    ∷ write_certificate office 2198 (shape_with 2 1 9) (absence [])
    ∷ write_certificate office 2197 (shape_with 2 1 1) (absence (replicate 122 1 ∷ []))
    ∷ write_certificate office 2197 (shape_with 2 1 1) (absence ((2 ∷ []) ∷ []))
    ∷ write_certificate office 2197 (shape_with 2 1 1) (absence ((0 ∷ []) ∷ []))
    ∷ write_certificate office 2197 (shape_with 2 1 1) (absence (replicate 121 1 ∷ []))
    ∷ []
    ≡ refused 2 0 ∷ refused 3 0 ∷ refused 26 1 ∷ refused 27 2 ∷ refused 28 2 ∷ refused 11 0 ∷ []
unfolding write_certificate prime?
certificates_refused = refl
