-- The definitions compute: of case 1's files what each call tells, of case 5's the other kind, and the same of a matrix with two
-- right sides.
use Rattle.std.specs.Prelude.{◌≡◌, refl, List, [], ◌∷◌, map, ℕ}
use Rattle.modular.specs.Prime.{prime?}
use Rattle.words.specs.Limits.{office}
use Rattle.words.specs.Outcome.{Outcome, mapped}
use Rattle.words.specs.Outcome.Outcome.{accepted, refused}
use Rattle.words.specs.Polynomial.{polynomials_words}
use Rattle.words.specs.Systems.{Systems, systems_words}
use Rattle.words.specs.Certificate.{certificate_form, certificate_entries}
use Rattle.words.specs.Bytes.{words_of, bytes_of, read_systems_file}
use Rattle.write_frame.specs.Trial.{refuse_coefficients, refuse_polynomials}
use Rattle.writer.specs.Writing.{write_systems}
use Rattle.writer.specs.Values.{head_with}
use Rattle.link_values.specs.Files.{file_shape, read_files, file_kind, of_numbered, file_lookup, write_systems_file}

-- p = 2, A = (x), so many right sides
systems_with : ℕ → List (List ℕ) → Systems
systems_with sides bs = record { head = head_with 2 1 1 sides; matrix = (0 ∷ 1 ∷ []) ∷ []; side_entries = bs }

-- b = 1
system1 : Systems
system1 = systems_with 1 ((1 ∷ []) ∷ [])

system_file1 : List ℕ
system_file1 = bytes_of (0x10110002 ∷ 0x20000002 ∷ 0x30000000 ∷ 0x30000001 ∷ 0x20000001 ∷ 0x30000001 ∷ 0x40000007 ∷ [])

certificate_file1 : List ℕ
certificate_file1 = bytes_of
    (0x50000001
    ∷ 0x20000002 ∷ 0x30000000 ∷ 0x30000001
    ∷ 0x20000001 ∷ 0x30000001
    ∷ 0x20000002 ∷ 0x30000000 ∷ 0x30000001
    ∷ 0x20000001 ∷ 0x30000001
    ∷ 0x4000000C
    ∷ [])

-- 1 and then 0
systems2 : Systems
systems2 = systems_with 2 ((1 ∷ []) ∷ [] ∷ [])

systems_file2 : List ℕ
systems_file2 = bytes_of
    (0x11110002 ∷ 0x20000002 ∷ 0x30000000 ∷ 0x30000001 ∷ 0x20000001 ∷ 0x30000001 ∷ 0x20000000 ∷ 0x40000008 ∷ [])

-- p = 2, A = (0), b = 1: absent, q = 1
system_file5 : List ℕ
system_file5 = bytes_of (0x10110002 ∷ 0x20000000 ∷ 0x20000001 ∷ 0x30000001 ∷ 0x40000005 ∷ [])

certificate_file5 : List ℕ
certificate_file5 = bytes_of (0x50000002 ∷ 0x20000001 ∷ 0x30000001 ∷ 0x40000004 ∷ [])

-- a row: what is told, and what is to be
record Told : Type 0 where
  told : Outcome (List ℕ)
  due : Outcome (List ℕ)

number : Outcome ℕ → Outcome (List ℕ)
number o = mapped (λ n. n ∷ []) o

looked_in : List ℕ → ℕ → ℕ → Outcome (List ℕ)
looked_in system_file of k = file_lookup office system_file certificate_file1 (of_numbered of) k

looked : ℕ → ℕ → Outcome (List ℕ)
looked = looked_in system_file1

rows : List Told
rows =
    record { told = number (file_shape office system_file1); due = accepted (0x110002 ∷ []) }
    ∷ record { told = number (file_kind office system_file1 certificate_file1); due = accepted (1 ∷ []) }
    ∷ record { told = number (file_kind office system_file5 certificate_file5); due = accepted (2 ∷ []) }
    ∷ record { told = looked 0 0; due = accepted (0 ∷ 1 ∷ []) }
    ∷ record { told = looked 0 1; due = accepted (1 ∷ []) }
    ∷ record { told = looked 0 2; due = refused 12 0 }
    ∷ record { told = looked 1 0; due = accepted (0 ∷ 1 ∷ []) }
    ∷ record { told = looked 1 1; due = accepted (1 ∷ []) }
    ∷ record { told = looked 1 4; due = refused 12 0 }
    ∷ record { told = write_systems_file office 8712 system1; due = accepted system_file1 }
    ∷ record { told = write_systems_file office 8711 system1; due = refused 11 0 }
    ∷ []

case_1_told : map (λ (r : Told). r.told) rows ≡ map (λ (r : Told). r.due) rows
unfolding rows number looked looked_in system1 systems_with system_file1 certificate_file1 system_file5 certificate_file5 bytes_of words_of
    read_systems_file
    read_files
    certificate_form certificate_entries
    write_systems refuse_polynomials refuse_coefficients systems_words polynomials_words prime?
case_1_told = refl

-- with two right sides: one more in bits 24 to 27 of the shape, and the second right side behind the first; a certificate's kind
-- does not depend on them. Last, numbers of right sides that are not 1 to 8.
sides_rows : List Told
sides_rows =
    record { told = number (file_shape office systems_file2); due = accepted (0x1110002 ∷ []) }
    ∷ record { told = number (file_kind office systems_file2 certificate_file1); due = accepted (1 ∷ []) }
    ∷ record { told = looked_in systems_file2 0 1; due = accepted (1 ∷ []) }
    ∷ record { told = looked_in systems_file2 0 2; due = accepted [] }
    ∷ record { told = looked_in systems_file2 0 3; due = refused 12 0 }
    ∷ record { told = looked_in systems_file2 1 0; due = accepted (0 ∷ 1 ∷ []) }
    ∷ record { told = write_systems_file office 8712 systems2; due = accepted systems_file2 }
    ∷ record { told = write_systems_file office 8711 systems2; due = refused 11 0 }
    ∷ record { told = write_systems_file office 0 (systems_with 0 []); due = refused 1 0 }
    ∷ record { told = write_systems_file office 0 (systems_with 9 []); due = refused 1 0 }
    ∷ []

two_sides_told : map (λ (r : Told). r.told) sides_rows ≡ map (λ (r : Told). r.due) sides_rows
unfolding sides_rows number looked_in systems2 systems_with systems_file2 certificate_file1 bytes_of words_of read_systems_file read_files
    certificate_form certificate_entries
    write_systems refuse_polynomials refuse_coefficients systems_words polynomials_words prime?
two_sides_told = refl
