-- What the number means that `yezsdolak_check` gives: 0 exactly for files of which demand 2's conditions hold, and 64 times a place
-- plus a number exactly where the check on files refuses with these; each for every right side by itself. It depends on nothing but
-- the line and the certificate's file.
use Rattle.std.specs.Prelude.{ℕ, ◌+◌, ◌*◌, ◌≤◌, ◌≡◌, refl, ◌↔◌, false, List}
use Rattle.std.proofs.Common.{ap, ap₂, arith}
use Rattle.words.specs.Limits.{office}
use Rattle.words.specs.LimitsLaws.{office_fits}
use Rattle.words.specs.Word.{Bytes}
use Rattle.words.specs.Outcome.{Outcome}
use Rattle.words.specs.Outcome.Outcome.{accepted, refused}
use Rattle.words.specs.System.{System}
use Rattle.words.specs.Systems.{Systems, systems_words, single, read_systems}
use Rattle.words.proofs.SystemsLaws.{systems_written_of_read}
use Rattle.words.specs.Bytes.{words_of, bytes_of, read_line_file}
use Rattle.words.specs.Line.LineRefused.{no_side}
use Rattle.words.specs.Pair.PairRefused.{by_system}
use Rattle.words.specs.TenFirst.TenFirst.{others}
use Rattle.files.specs.OpeningBoth.{files_broken}
use Rattle.truth.proofs.DemandLaws.{Says, Agree}
use Rattle.verifier.specs.File.{file_verdict}
use Rattle.verifier.specs.FileLines.{line_file_verdict, file_verdict_alone}
use Rattle.verifier.specs.Checked.{CertifiedFiles, files_iff_certified, files_say, line_files_agree}
use Rattle.verifier.specs.FilesRefused.{FilesRefused, files_refused_iff}
use Rattle.answers.specs.Packed.{packed_verdict, place_unit, number_most}
use Rattle.link_values.specs.Refusals.{Numbers, numbers_wider}
use Rattle.link.specs.NumberLaws.{check_numbers}

-- of right side k
abbrev pub check_gives : (k : ℕ) (f g : List ℕ) → ℕ
check_gives k f g = packed_verdict (file_verdict office k f g)

pub zero_accepted : (v : Outcome (Unit {0})) → Numbers 1 number_most v → packed_verdict v ≡ 0 → v ≡ accepted tt
zero_accepted (accepted tt) h e = refl
zero_accepted (refused number place) h e = absurd (omega (arith, h.each number place refl))

pub number_refused : (v : Outcome (Unit {0})) → Numbers 1 number_most v → (number place : ℕ) → 1 ≤ number → number ≤ number_most
    → packed_verdict v ≡ place_unit * place + number → v ≡ refused number place
number_refused (accepted tt) h number place l m e = absurd (omega arith)
number_refused (refused n k) h number place l m e =
    let b = h.each n k refl in
    ap₂ refused (omega arith) (omega arith)

module _ (k : ℕ) (f g : List ℕ) where
  abbrev numbered : Numbers 1 40 (file_verdict office k f g)
  numbered = check_numbers office office_fits k f g

  pub numbered_most : Numbers 1 number_most (file_verdict office k f g)
  numbered_most = numbers_wider 1 40 (omega arith) (omega arith) numbered

  -- each number of the table under its condition only, 10 before all others
  pub checked_refused_iff : (number place : ℕ) → 1 ≤ number → number ≤ number_most
      → (check_gives k f g ≡ place_unit * place + number) ↔ FilesRefused office k f g number place
  checked_refused_iff number place l m =
      let iff = files_refused_iff office office_fits k f g number place in (
        λ e. iff.0 (number_refused (file_verdict office k f g) numbered_most number place l m e),
        λ a. ap packed_verdict (iff.1 a),
      )

  -- 40 at 0 of a right side that the system does not have, "before .. the card": whatever stands in that file
  pub checked_no_side : files_broken office f g ≡ false → {s : Systems} → read_systems office (words_of f) ≡ accepted s
      → s.head.sides ≤ k → check_gives k f g ≡ 40
  checked_no_side whole {s} is few =
      let w = systems_written_of_read office office_fits (words_of f) s is in
      (checked_refused_iff 40 0 (omega arith) (omega arith)).1 (others whole (by_system (no_side s w.0 w.1 few refl refl)))

  module _ (small_f : Bytes f) (small_g : Bytes g) where
    -- 0 exactly when the conditions hold
    pub checked_iff : (check_gives k f g ≡ 0) ↔ CertifiedFiles office k f g
    checked_iff = (
      λ e. (files_iff_certified office office_fits k f g small_f small_g).0 (zero_accepted (file_verdict office k f g) numbered_most e),
      λ a. ap packed_verdict ((files_iff_certified office office_fits k f g small_f small_g).1 a),
    )

    -- then what the certificate says of the line is true
    pub checked_says : check_gives k f g ≡ 0
        → (a : CertifiedFiles office k f g) × Says a.written.system a.written.certificate
    checked_says e = files_say office office_fits k f g small_f small_g (zero_accepted (file_verdict office k f g) numbered_most e)

-- lines with one system, of one file or of two: no certificates' files of both kinds, and all state the same denominator
module _ (k j : ℕ) (f e : List ℕ) (same : read_line_file office k f ≡ read_line_file office j e) where
  pub checked_agree : (g h : List ℕ) → Bytes f → Bytes e → Bytes g → Bytes h → check_gives k f g ≡ 0 → check_gives j e h ≡ 0
      → (a : CertifiedFiles office k f g) × (b : CertifiedFiles office j e h)
      × Agree a.written.certificate b.written.certificate
  checked_agree g h small_f small_e small_g small_h u v =
      let a = (checked_iff k f g small_f small_g).0 u in
      let b = (checked_iff j e h small_e small_h).0 v in
      (a, b, line_files_agree office office_fits k j f e same g h a b)

-- and one number for each certificate's file; it is that of the line alone, in a file of its own
pub checked_same : (k j : ℕ) (f e : List ℕ) {s : System} → read_line_file office k f ≡ accepted s
    → read_line_file office j e ≡ accepted s → (g : List ℕ) → check_gives k f g ≡ check_gives j e g
checked_same k j f e x y g = ap packed_verdict (line_file_verdict office k j f e x y g)

pub checked_alone : (k : ℕ) (f : List ℕ) {s : System} → read_line_file office k f ≡ accepted s
    → (g : List ℕ) → check_gives k f g ≡ check_gives 0 (bytes_of (systems_words (single s))) g
checked_alone k f x g = ap packed_verdict (file_verdict_alone office office_fits k f x g)
