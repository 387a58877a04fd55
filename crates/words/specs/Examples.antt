-- The definitions compute: the example inputs of document 01's table "Turned back", case 1 as words, and the longest forms.
use Rattle.std.specs.Prelude.{◌≡◌, refl, ℕ, ◌*◌, List, [], ◌∷◌, map}
use Rattle.words.specs.Limits.{office, panel, longest_system, longest_certificate}
use Rattle.words.specs.Outcome.Outcome.{accepted, refused}
use Rattle.words.specs.Systems.{Systems, systems_words, read_systems, single, line, read_line}
use Rattle.words.specs.Certificate.{Certificate, certificate_words, read_certificate}
use Rattle.words.specs.Certificate.Certificate.{solution}
use Rattle.words.specs.Bytes.{read_systems_file, word_bytes}

-- ---- case 1

case1 : Systems
case1 = single (record { modulus = 2; rows = 1; columns = 1; matrix = (0 ∷ 1 ∷ []) ∷ []; side = (1 ∷ []) ∷ [] })

system1 : List ℕ
system1 = 0x10110002 ∷ 0x20000002 ∷ 0x30000000 ∷ 0x30000001 ∷ 0x20000001 ∷ 0x30000001 ∷ 0x40000007 ∷ []

certificate1 : List ℕ
certificate1 =
    0x50000001 ∷ 0x20000002 ∷ 0x30000000 ∷ 0x30000001 ∷ 0x20000001 ∷ 0x30000001 ∷ 0x20000002 ∷ 0x30000000 ∷ 0x30000001
    ∷ 0x20000001 ∷ 0x30000001 ∷ 0x4000000C ∷ []

answer1 : Certificate
answer1 = solution (0 ∷ 1 ∷ []) ((1 ∷ []) ∷ []) (0 ∷ 1 ∷ []) ((1 ∷ []) ∷ [])

system1_written : systems_words case1 ≡ system1
unfolding systems_words case1 single system1
system1_written = refl

system1_read : read_systems office system1 ≡ accepted case1
unfolding read_systems case1 single system1
system1_read = refl

certificate1_written : certificate_words answer1 ≡ certificate1
unfolding certificate_words answer1 certificate1
certificate1_written = refl

certificate1_read : read_certificate office case1.head.shape certificate1 ≡ accepted answer1
unfolding read_certificate case1 single answer1 certificate1
certificate1_read = refl

-- ---- the table: rows 1 to 9, with the empty sheet first and words that follow last

systems : List (List ℕ)
systems =
    []
    ∷ (0x00110002 ∷ [])
    ∷ (0x10110004 ∷ [])
    ∷ (0x10010002 ∷ [])
    ∷ (0x10110002 ∷ [])
    ∷ (0x10110002 ∷ 0x30000001 ∷ [])
    ∷ (0x10110002 ∷ 0x20000011 ∷ [])
    ∷ (0x10110002 ∷ 0x20000001 ∷ 0x30000002 ∷ [])
    ∷ (0x10110002 ∷ 0x20000001 ∷ 0x30000000 ∷ [])
    ∷ (0x10110002 ∷ 0x20000002 ∷ 0x30000000 ∷ 0x30000001 ∷ 0x20000001 ∷ 0x30000001 ∷ 0x40000008 ∷ [])
    ∷ (0x10110002 ∷ 0x20000002 ∷ 0x30000000 ∷ 0x30000001 ∷ 0x20000001 ∷ 0x30000001 ∷ 0x40000007 ∷ 0 ∷ [])
    ∷ []

systems_read : map (read_systems office) systems
    ≡ refused 4 0 ∷ refused 1 0 ∷ refused 2 0 ∷ refused 3 0 ∷ refused 4 1 ∷ refused 5 1 ∷ refused 6 1 ∷ refused 7 2 ∷ refused 8 2
    ∷ refused 9 6 ∷ refused 9 7 ∷ []
unfolding read_systems systems
systems_read = refl

-- row 10
file_read : read_systems_file office (0 ∷ 0 ∷ 0 ∷ 0 ∷ 0 ∷ []) ≡ refused 10 0
unfolding read_systems_file
file_read = refl

-- rows 21 and 24, and 26 with its own limit: 121 coefficients are read on, 122 are refused
certificates : List (List ℕ)
certificates = [] ∷ (0x50000003 ∷ []) ∷ (0x50000001 ∷ []) ∷ (0x50000001 ∷ 0x20000079 ∷ []) ∷ (0x50000001 ∷ 0x2000007A ∷ []) ∷ []

certificates_read : map (read_certificate office case1.head.shape) certificates
    ≡ refused 24 0 ∷ refused 21 0 ∷ refused 24 1 ∷ refused 24 2 ∷ refused 26 1 ∷ []
unfolding read_certificate case1 single certificates
certificates_read = refl

-- ---- two right sides on one matrix: p = 2, A = (x), b = 1 and b = x

lines : Systems
lines = record {
  head = record { shape = record { modulus = 2; rows = 1; columns = 1 }; sides = 2 };
  matrix = (0 ∷ 1 ∷ []) ∷ [];
  side_entries = (1 ∷ []) ∷ (0 ∷ 1 ∷ []) ∷ [];
}

two : List ℕ
two =
    0x11110002 ∷ 0x20000002 ∷ 0x30000000 ∷ 0x30000001 ∷ 0x20000001 ∷ 0x30000001 ∷ 0x20000002 ∷ 0x30000000 ∷ 0x30000001
    ∷ 0x4000000A ∷ []

two_written : systems_words lines ≡ two
unfolding systems_words lines two
two_written = refl

-- the lines count from 0, and there are two of them
lines_read : map (λ k. read_line office k two) (0 ∷ 1 ∷ 2 ∷ [])
    ≡ accepted (line lines 0) ∷ accepted (line lines 1) ∷ refused 40 0 ∷ []
unfolding read_line lines line two
lines_read = refl

-- bits 24 to 27: seven is read on, eight is refused, before p
heads_read : map (read_systems office) ((0x17110002 ∷ []) ∷ (0x18110002 ∷ []) ∷ (0x18110004 ∷ []) ∷ (0x17110004 ∷ []) ∷ [])
    ≡ refused 4 1 ∷ refused 1 0 ∷ refused 1 0 ∷ refused 2 0 ∷ []
unfolding read_systems
heads_read = refl

-- ---- "the longest sheet is 2,178 words, and the file limit in 10 is 8,712 bytes"; "longest card 2,198 words"; on the panel cards
-- have at most 302

longest : longest_system office ∷ word_bytes * longest_system office ∷ longest_certificate office ∷ longest_certificate panel ∷ []
    ≡ 2178 ∷ 8712 ∷ 2198 ∷ 302 ∷ []
longest = refl
