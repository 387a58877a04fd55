-- The definitions compute: the values of case 1 in arrays, what stays beside them, the same with a second right side, and a refusal
-- of each call.
use Rattle.std.specs.Prelude.{◌≡◌, refl, ℕ, List, [], ◌∷◌, ◌++◌, replicate}
use Rattle.modular.specs.Prime.{prime?}
use Rattle.words.specs.Limits.{office}
use Rattle.words.specs.Outcome.{Outcome, mapped}
use Rattle.words.specs.Outcome.Outcome.{accepted, refused}
use Rattle.words.specs.Systems.{systems_head, systems_entries, read_systems}
use Rattle.words.specs.Certificate.{certificate_form, certificate_entries, read_certificate}
use Rattle.words.specs.Certificate.Form.{solving}
use Rattle.writer.specs.Values.{shape_with, head_with}
use Rattle.values.specs.Loading.{sizes_after, values_after, certificate_to_load}

-- p = 2, A = (x), b = 1; its end word is the argument
system1 : ℕ → List ℕ
system1 end = 0x10110002 ∷ 0x20000002 ∷ 0x30000000 ∷ 0x30000001 ∷ 0x20000001 ∷ 0x30000001 ∷ end ∷ []

certificate1 : List ℕ
certificate1 =
    0x50000001
    ∷ 0x20000002 ∷ 0x30000000 ∷ 0x30000001
    ∷ 0x20000001 ∷ 0x30000001
    ∷ 0x20000002 ∷ 0x30000000 ∷ 0x30000001
    ∷ 0x20000001 ∷ 0x30000001
    ∷ 0x4000000C
    ∷ []

-- ---- a system

entries_of : List ℕ → Outcome (List (List ℕ))
entries_of ws = mapped systems_entries (read_systems office ws)

answer1 : mapped systems_head (read_systems office (system1 0x40000007)) ≡ accepted (head_with 2 1 1 1)
unfolding system1 read_systems prime?
answer1 = refl

sizes1 : sizes_after (entries_of (system1 0x40000007)) (9 ∷ 9 ∷ 9 ∷ []) ≡ 2 ∷ 1 ∷ 9 ∷ []
unfolding entries_of system1 sizes_after read_systems prime?
sizes1 = refl

-- 16 numbers for x, of which it takes two; one for 1
values1 : values_after 16 (entries_of (system1 0x40000007)) (replicate 20 9) ≡ 0 ∷ 1 ∷ replicate 14 9 ++ 1 ∷ replicate 3 9
unfolding entries_of system1 values_after read_systems prime?
values1 = refl

-- with a second right side, x, behind the first: three polynomials
system2 : List ℕ
system2 =
    0x11110002
    ∷ 0x20000002 ∷ 0x30000000 ∷ 0x30000001
    ∷ 0x20000001 ∷ 0x30000001
    ∷ 0x20000002 ∷ 0x30000000 ∷ 0x30000001
    ∷ 0x4000000A
    ∷ []

answer2 : mapped systems_head (read_systems office system2) ≡ accepted (head_with 2 1 1 2)
unfolding system2 read_systems prime?
answer2 = refl

sizes2 : sizes_after (entries_of system2) (9 ∷ 9 ∷ 9 ∷ 9 ∷ []) ≡ 2 ∷ 1 ∷ 2 ∷ 9 ∷ []
unfolding entries_of system2 sizes_after read_systems prime?
sizes2 = refl

values2 : values_after 16 (entries_of system2) (replicate 36 9)
    ≡ 0 ∷ 1 ∷ replicate 14 9 ++ 1 ∷ replicate 15 9 ++ 0 ∷ 1 ∷ replicate 2 9
unfolding entries_of system2 values_after read_systems prime?
values2 = refl

-- the end word of eight words: 9 at 6, and all stays
refused1 : entries_of (system1 0x40000008) ≡ refused 9 6
unfolding entries_of system1 read_systems prime?
refused1 = refl

kept1 : sizes_after (entries_of (system1 0x40000008)) (9 ∷ 9 ∷ 9 ∷ []) ≡ 9 ∷ 9 ∷ 9 ∷ []
unfolding entries_of system1 sizes_after read_systems prime?
kept1 = refl

-- ---- a certificate

certificate_sizes : sizes_after (mapped certificate_entries (certificate_to_load office (shape_with 2 1 1) certificate1)) (replicate 5 9)
    ≡ 2 ∷ 1 ∷ 2 ∷ 1 ∷ 9 ∷ []
unfolding certificate1 certificate_entries sizes_after read_certificate prime?
certificate_sizes = refl

certificate_form_lem : mapped certificate_form (certificate_to_load office (shape_with 2 1 1) certificate1) ≡ accepted solving
unfolding certificate1 certificate_form read_certificate prime?
certificate_form_lem = refl

-- 2 before 3, both before the words are read; 3; then the reader's refusals
certificates_refused : certificate_to_load office (shape_with 4 9 1) []
    ∷ certificate_to_load office (shape_with 2 9 1) []
    ∷ certificate_to_load office (shape_with 2 1 1) []
    ∷ []
    ≡ refused 2 0 ∷ refused 3 0 ∷ refused 24 0 ∷ []
unfolding read_certificate prime?
certificates_refused = refl
