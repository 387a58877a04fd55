-- The two exported calls together, for each right side by itself (demand 3, its last sentence, on bytes): `yezsdolak_check` gives 0
-- on what `yezsdolak_solve` gave, and for every system's file and each right side that it has `yezsdolak_solve` gives a count.
-- Lines that agree in p, A and the right side get the same bytes, and these are those of the line's single file.
use Rattle.std.specs.Prelude.{ℕ, ◌*◌, ◌/◌, ◌%◌, ◌≤◌, ◌<◌, ◌≡◌, refl, List, length, take}
use Rattle.std.proofs.Common.{ap, ◌∙◌, subst, arith, le-ltb}
use Rattle.words.specs.Limits.{office, longest_certificate}
use Rattle.words.specs.LimitsLaws.{office_fits}
use Rattle.words.specs.Outcome.{Outcome, followed_by}
use Rattle.words.specs.Outcome.Outcome.{accepted, refused}
use Rattle.words.specs.Systems.{Systems, SystemsWithin, systems_words, line, single, line_of}
use Rattle.words.proofs.LineLaws.{line_within}
use Rattle.words.specs.Bytes.{bytes_of, read_systems_file, read_line_file, word_bytes}
use Rattle.words.proofs.LineFileLaws.{line_file}
use Rattle.words.specs.Certificate.{Certificate, certificate_words}
use Rattle.write_frame.specs.Overwriting.{overwritten}
use Rattle.solve_meaning.specs.Existence.{office_suffices, office_certificate}
use Rattle.verifier.specs.File.{file_verdict}
use Rattle.solver.specs.Solving.{with_room, file_to_solve, certificate_bytes, SolvesOr, SolvesFile}
use Rattle.solver.specs.SolvingLaws as solver
use Rattle.solver.proofs.OneCertificate.{Call, SameGiven}
use Rattle.solver.proofs.SameLine.{SameLine, file_same_line_given, file_alone_given}
use Rattle.link.specs.FileLaws.{bytes_are, solved_file_accepted, line_of_file, every_file_solved}
use Rattle.answers.specs.Packed.{packed, packed_verdict, place_unit}
use Rattle.link.specs.Packed.{SolvesPacked}
use Rattle.link_values.specs.Unpacked.{refused_unless0, unpacked}
use Rattle.link.specs.PackedLaws.{solves_unpacked, packed_certificate}

-- what the check is handed: the system's file, the right side, and as many of the lent bytes as the solver counted
abbrev pub checked_after : (k : ℕ) (file exit : List ℕ) (r : ℕ) → ℕ
checked_after k file exit r = packed_verdict (file_verdict office k file (take (r / place_unit) exit))

module _ {k : ℕ} {file entry exit : List ℕ} {r : ℕ} where
  pub solved_checked : SolvesPacked office k file entry exit r → r % place_unit ≡ 0 → checked_after k file exit r ≡ 0
  solved_checked h count =
      let counted = ap (λ n. refused_unless0 n (r / place_unit) (r / place_unit)) count in
      ap packed_verdict (solved_file_accepted office office_fits k file entry exit (unpacked r) (solves_unpacked h)
      (r / place_unit) counted)

-- bytes that were given: the number is how many these are, packed, and they stand over the first of the lent ones
abbrev pub BytesIn : (bytes entry exit : List ℕ) → ℕ → Type 0
BytesIn bytes entry exit r = (r ≡ place_unit * length bytes) × (exit ≡ overwritten bytes entry)

-- a certificate's words as bytes
abbrev pub CertificateBytesIn : (words entry exit : List ℕ) → ℕ → Type 0
CertificateBytesIn words = BytesIn (bytes_of words)

-- for all systems within the limits and each of their right sides, with as many bytes lent as the longest certificate's file has
module _ (s : Systems) (within : SystemsWithin office s) (k : ℕ) (has : k < s.head.sides) where
  -- the certificate of that line
  abbrev pub line_certificate : Certificate
  line_certificate = office_certificate (line s k) (line_within office s within k has)

  module _ {entry exit : List ℕ} {r : ℕ} (room : word_bytes * longest_certificate office ≤ length entry) where
    -- it is a count, and the check gives 0 on what stands there
    pub every_system_checked : SolvesPacked office k (bytes_of (systems_words s)) entry exit r
        → (r % place_unit ≡ 0) × (checked_after k (bytes_of (systems_words s)) exit r ≡ 0)
    every_system_checked h =
        let solved = every_file_solved office office_fits s within k has entry exit room h.answer h.solves in
        let packs = h.packs ∙ ap packed solved.1 in
        let count : r % place_unit ≡ 0 = omega arith in
        (count, solved_checked h count)

    -- of the bytes of that certificate, and these stand there
    pub every_system_certificate : SolvesPacked office k (bytes_of (systems_words s)) entry exit r
        → CertificateBytesIn (certificate_words line_certificate) entry exit r
    every_system_certificate x =
        let h = line_within office s within k has in
        subst (λ bytes. BytesIn bytes entry exit r) (bytes_are line_certificate)
        (packed_certificate office h (office_suffices (line s k) h) (line_of_file office office_fits s within k has) room x)

-- ---- "Between two accepted sheets that agree in p, A and one line's right side, that line's card has the same words, and they are
-- those of its single sheet" (document 02, item 1)

-- two calls gave the same bytes, and the number of each is how many these are
abbrev pub SameBytes : (entry exit entry₁ exit₁ : List ℕ) (r r₁ : ℕ) → Type 0
SameBytes entry exit entry₁ exit₁ r r₁ = (bytes : List ℕ) × BytesIn bytes entry exit r × BytesIn bytes entry₁ exit₁ r₁

module _ {k k₁ : ℕ} {file file₁ entry exit entry₁ exit₁ : List ℕ} {r r₁ : ℕ} (x : SolvesPacked office k file entry exit r)
    (y : SolvesPacked office k₁ file₁ entry₁ exit₁ r₁) where
  -- the calls of the solver that were packed
  abbrev first : Call
  first = record { entry = entry; exit = exit; answer = x.answer }

  abbrev second : Call
  second = record { entry = entry₁; exit = exit₁; answer = y.answer }

  packed_given : SameGiven first second → SameBytes entry exit entry₁ exit₁ r r₁
  packed_given g = (
    g.0,
    (x.packs ∙ ap packed g.1.0, g.1.1),
    (y.packs ∙ ap packed g.2.0, g.2.1),
  )

  pub same_line_bytes : {s s₁ : Systems} → SameLine s k s₁ k₁ → read_systems_file office file ≡ accepted s
      → read_systems_file office file₁ ≡ accepted s₁ → word_bytes * longest_certificate office ≤ length entry
      → word_bytes * longest_certificate office ≤ length entry₁ → SameBytes entry exit entry₁ exit₁ r r₁
  same_line_bytes L is is₁ room room₁ =
      packed_given (file_same_line_given office office_fits L first second file file₁ is is₁ x.solves y.solves room room₁)

-- the single file of the line
pub alone_bytes : {k : ℕ} {file entry exit entry₁ exit₁ : List ℕ} {r r₁ : ℕ} {s : Systems} → SolvesPacked office k file entry exit r
    → SolvesPacked office 0 (bytes_of (systems_words (single (line s k)))) entry₁ exit₁ r₁ → read_systems_file office file ≡ accepted s
    → k < s.head.sides → word_bytes * longest_certificate office ≤ length entry
    → word_bytes * longest_certificate office ≤ length entry₁ → SameBytes entry exit entry₁ exit₁ r r₁
alone_bytes {k} {file} x y is has room room₁ =
    packed_given x y
    (file_alone_given office office_fits k has (first x y) (second x y) file is x.solves y.solves room room₁)

-- ---- refusals

-- 40 at 0 of a right side that the system does not have, "before 11": whatever is lent
pub solved_no_side : {k : ℕ} {file entry exit : List ℕ} {r : ℕ} {s : Systems} → SolvesPacked office k file entry exit r
    → read_systems_file office file ≡ accepted s → s.head.sides ≤ k → (r ≡ 40) × (exit ≡ entry)
unfolding SolvesOr
solved_no_side {k} {file} {entry} {exit} {s = s} x is few =
    let none : read_line_file office k file ≡ refused 40 0 =
    line_file office k file ∙ ap (λ o. followed_by o (line_of k)) is ∙ simp (le-ltb k s.head.sides few) in
    let told = subst (λ o. SolvesOr office certificate_bytes o entry exit x.answer)
    (ap (with_room (word_bytes * longest_certificate office) (length entry)) none) x.solves in
    (x.packs ∙ ap packed told.0, told.1)

-- where the solver refuses, the lent bytes stand as before
pub refused_unchanged : {k : ℕ} {file entry exit : List ℕ} {r : ℕ} → SolvesPacked office k file entry exit r
    → ¬ (r % place_unit ≡ 0) → exit ≡ entry
refused_unchanged {k} {file} {entry} {exit} h some =
    by h.answer (λ e. some (ap (λ x. x % place_unit) h.packs ∙ e)) h.solves
  where
    by : (answer : Outcome ℕ) → ¬ (packed answer % place_unit ≡ 0) → SolvesFile office k file entry exit answer → exit ≡ entry
    by (accepted count) none solves = absurd (none (omega arith))
    by (refused number place) none solves =
        solver.refused_unchanged office certificate_bytes (file_to_solve office k (length entry) file) entry exit
        (refused number place) solves refl
