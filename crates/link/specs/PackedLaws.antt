-- A packed answer can be taken apart (`link_values`, `Unpacked`): what these calls give has numbers 1 to 40, so `r % 64` is the
-- number and `r / 64` the place or the count, and different answers are different numbers.
use Rattle.std.specs.Prelude.{ℕ, ◌+◌, ◌*◌, ◌/◌, ◌%◌, ◌≤◌, ◌≡◌, refl, ◌↔◌, List, length, take}
use Rattle.std.proofs.Common.{sym, ap, ap₂, ◌∙◌, subst, arith}
use Rattle.words.specs.Limits.{Limits, longest_certificate}
use Rattle.words.specs.LimitsLaws.{LimitsFit}
use Rattle.words.specs.Word.{Bytes}
use Rattle.words.specs.System.{System, SystemWithin}
use Rattle.words.specs.Line.{LineIn}
use Rattle.words.specs.Bytes.{bytes_of, read_line_file, word_bytes}
use Rattle.words.specs.TenFirst.{LineFileRefused}
use Rattle.words.specs.Outcome.{Outcome}
use Rattle.words.specs.Outcome.Outcome.{accepted, refused}
use Rattle.write_frame.specs.Overwriting.{overwritten}
use Rattle.solve_meaning.specs.Existence.{Suffices, chosen_certificate}
use Rattle.solver.specs.Solving.{certificate_bytes, SolvesFile}
use Rattle.solver.specs.RefusedLaws.{RoomLast, solve_file_refused_iff}
use Rattle.solver.proofs.OneCertificate.{Call, file_solves_unique, file_solved_same, file_solved_certificate}
use Rattle.verifier.specs.File.{file_verdict}
use Rattle.answers.specs.Packed.{packed, packed_verdict, place_unit, number_most}
use Rattle.link_values.specs.Refusals.{Numbers, numbers_wider}
use Rattle.link_values.specs.Unpacked.{refused_unless0, unpacked, refused_by, packed_number, packed_place, unpacked_packed}
use Rattle.link.specs.Packed.{SolvesPacked, ReportsPacked}
use Rattle.link.specs.NumberLaws.{solver_numbers, check_numbers}
use Rattle.report.specs.Reporting.{ReportsFile}

-- ---- the solver

-- what the solver gives, taken apart, is its answer
pub solver_unpacked : {limits : Limits} {k : ℕ} {file entry exit : List ℕ} {r : ℕ} (h : SolvesPacked limits k file entry exit r)
    → unpacked r ≡ h.answer
solver_unpacked {limits} {k} {file} {entry} {exit} h =
    let numbers = solver_numbers limits k file entry exit h.answer h.solves in
    ap unpacked h.packs ∙ unpacked_packed h.answer (numbers_wider 1 40 (omega arith) (omega arith) numbers)

pub solves_unpacked : {limits : Limits} {k : ℕ} {file entry exit : List ℕ} {r : ℕ} → SolvesPacked limits k file entry exit r
    → SolvesFile limits k file entry exit (unpacked r)
solves_unpacked {limits} {k} {file} {entry} {exit} h =
    subst (SolvesFile limits k file entry exit) (sym (solver_unpacked h)) h.solves

-- a number that is no refusal's is a count
pub unpacked_0 : (r : ℕ) → r % place_unit ≡ 0 → unpacked r ≡ accepted (r / place_unit)
unpacked_0 r z = ap (λ n. refused_unless0 n (r / place_unit) (r / place_unit)) z

-- it refuses with a number at a place exactly under the condition of that row
pub solver_refused_iff : {limits : Limits} {k : ℕ} {file entry exit : List ℕ} {r : ℕ} → LimitsFit limits → Bytes file
    → SolvesPacked limits k file entry exit r → (number place : ℕ) → 1 ≤ number → number ≤ number_most
    → (r ≡ place_unit * place + number)
    ↔ RoomLast (LineFileRefused limits k file) (λ s. (ws : List ℕ) × (file ≡ bytes_of ws) × LineIn limits k s ws)
    (word_bytes * longest_certificate limits) (length entry) number place
solver_refused_iff {limits} {k} {file} {entry} {exit} {r} fit small h number place l m =
    let iff = solve_file_refused_iff limits k file entry exit h.answer h.solves fit small number place in (
      λ e.
          iff.0 (sym (solver_unpacked h) ∙ ap unpacked e
          ∙ ap₂ (λ n k. refused_unless0 n k k) (packed_number number place m) (packed_place number place m)
          ∙ refused_by number place place l),
      λ a. h.packs ∙ ap packed (iff.1 a),
    )

-- two answers, of any two calls, with the same packed number are equal
pub solver_packs_apart : {limits limits' : Limits} {k k' : ℕ} {file entry exit file' entry' exit' : List ℕ} {r : ℕ}
    (h : SolvesPacked limits k file entry exit r) (h' : SolvesPacked limits' k' file' entry' exit' r) → h.answer ≡ h'.answer
solver_packs_apart h h' = sym (solver_unpacked h) ∙ solver_unpacked h'

-- it is a function of the line that was read and of what was lent, refusals too: of one file or of two, wherever the line stands
module _ (limits : Limits) (fit : LimitsFit limits) (k k₁ : ℕ) (file file₁ : List ℕ)
    (same : read_line_file limits k file ≡ read_line_file limits k₁ file₁) where
  pub packed_unique : (entry : List ℕ) {exit exit₁ : List ℕ} {r r₁ : ℕ} → SolvesPacked limits k file entry exit r
      → SolvesPacked limits k₁ file₁ entry exit₁ r₁ → (exit ≡ exit₁) × (r ≡ r₁)
  packed_unique entry h h₁ =
      let one = file_solves_unique limits fit k k₁ file file₁ same entry h.solves h₁.solves in
      (one.0, h.packs ∙ ap packed one.1 ∙ sym h₁.packs)

  -- whatever was lent, the same number and the same bytes
  pub packed_same : {entry exit entry₁ exit₁ : List ℕ} {r r₁ : ℕ} → SolvesPacked limits k file entry exit r
      → SolvesPacked limits k₁ file₁ entry₁ exit₁ r₁ → r % place_unit ≡ 0 → r₁ % place_unit ≡ 0
      → (r ≡ r₁) × (take (r / place_unit) exit ≡ take (r₁ / place_unit) exit₁)
  packed_same {entry} {exit} {entry₁} {exit₁} {r} {r₁} h h₁ z z₁ =
      let x : Call = record { entry = entry; exit = exit; answer = unpacked r } in
      let y : Call = record { entry = entry₁; exit = exit₁; answer = unpacked r₁ } in
      let both = file_solved_same limits fit k k₁ file file₁ same x y (solves_unpacked h) (solves_unpacked h₁)
      (r / place_unit) (r₁ / place_unit)
      (unpacked_0 r z) (unpacked_0 r₁ z₁) in
      (omega arith, both.1)

-- where there is room it is the number of bytes of the system's certificate, and these stand over the first of the lent ones
pub packed_certificate : (limits : Limits) {s : System} (h : SystemWithin limits s) (room : Suffices limits s.rows s.columns)
    {k : ℕ} {file entry exit : List ℕ} {r : ℕ} → read_line_file limits k file ≡ accepted s
    → word_bytes * longest_certificate limits ≤ length entry → SolvesPacked limits k file entry exit r
    → (r ≡ place_unit * length (certificate_bytes (chosen_certificate limits s h room)))
    × (exit ≡ overwritten (certificate_bytes (chosen_certificate limits s h room)) entry)
packed_certificate limits h room {k} {file} {entry} {exit} is enough x =
    let written = file_solved_certificate limits h room entry exit x.answer k file is enough x.solves in
    (x.packs ∙ ap packed written.0, written.1)

-- ---- the check

abbrev pub unpacked_verdict : ℕ → Outcome (Unit {0})
unpacked_verdict r = refused_unless0 (r % place_unit) (r / place_unit) tt

pub unpacked_packed_verdict : (v : Outcome (Unit {0})) → Numbers 1 number_most v → unpacked_verdict (packed_verdict v) ≡ v
unpacked_packed_verdict (accepted tt) h = refl
unpacked_packed_verdict (refused number place) h =
    let between = h.each number place refl in
    ap₂ (λ n k. refused_unless0 n k tt) (packed_number number place between.1) (packed_place number place between.1)
    ∙ refused_by number place tt between.0

-- what the check gives, taken apart, is its verdict
pub check_unpacked : (limits : Limits) → LimitsFit limits → (k : ℕ) (system certificate : List ℕ)
    → unpacked_verdict (packed_verdict (file_verdict limits k system certificate)) ≡ file_verdict limits k system certificate
check_unpacked limits fit k system certificate =
    unpacked_packed_verdict (file_verdict limits k system certificate)
    (numbers_wider 1 40 (omega arith) (omega arith) (check_numbers limits fit k system certificate))

pub check_packs_apart : (limits limits' : Limits) → LimitsFit limits → LimitsFit limits' → (k k' : ℕ)
    (system certificate system' certificate' : List ℕ)
    → packed_verdict (file_verdict limits k system certificate) ≡ packed_verdict (file_verdict limits' k' system' certificate')
    → file_verdict limits k system certificate ≡ file_verdict limits' k' system' certificate'
check_packs_apart limits limits' fit fit' k k' system certificate system' certificate' e =
    sym (check_unpacked limits fit k system certificate) ∙ ap unpacked_verdict e
    ∙ check_unpacked limits' fit' k' system' certificate'

-- ---- the report: it refuses nothing, and the count is above 64

pub report_unpacked : {limits : Limits} {file entry exit : List ℕ} {r : ℕ} → ReportsPacked limits file entry exit r
    → (r % place_unit ≡ 0) × ReportsFile limits file entry exit (r / place_unit)
report_unpacked {limits} {file} {entry} {exit} {r} h =
    let count : h.count ≡ r / place_unit = omega (arith, h.packs) in
    (omega (arith, h.packs), subst (ReportsFile limits file entry exit) count h.reports)
