-- What the areas hold once the words that were read are loaded, and that the verdict on the areas is the verdict on the words.
use mathlib.Core.Path.{◌≡◌, refl, sym, ap, ◌∙◌, subst, subst₂}
use mathlib.Core.List.{List, [], ◌++◌}
use Prim.Native.Nat.{ℕ, ◌+◌, ◌*◌, ◌≤◌, ◌<◌}
use native.Mathlib.Omega.{arith}
use lib.ListN.{length, get_or}
use Rattle.modular.specs.Canonical.{Canonical}
use Rattle.residue.specs.declared.modulus.Modulus.{Modulus}
use Rattle.words.specs.Limits.{office}
use Rattle.words.specs.LimitsLaws.{office_fits}
use Rattle.words.specs.Polynomial.{VectorWithin}
use Rattle.words.specs.VectorLaws.{all_at, vector_append}
use Rattle.words.specs.Starts.{HasEntries, line_entries, length_first_entries}
use Rattle.words.proofs.FramedLaws.{EntriesRead, LineEntriesRead, line_entries_read, certificate_entries_read, certificate_framed}
use Rattle.words.specs.System.{System, Shape, SystemWithin, ShapeWithin, shape}
use Rattle.words.proofs.LineLaws.{line_written_of_read, line_in_within}
use Rattle.words.specs.Certificate.{Certificate, Form, CertificateWithin, certificate_form, certificate_entries, certificate_words}
use Rattle.words.specs.Certificate.{entry_count}
use Rattle.words.specs.Certificate.Certificate.{solution, absence}
use Rattle.words.specs.Certificate.Form.{solving, absent}
use Rattle.words.proofs.CertificateLaws.{certificate_written_of_read}
use Rattle.truth.specs.Verdict.{verdict, certificate_verdict, solution_verdict, absence_verdict}
use Rattle.truth.proofs.Lines.{certificate_next}
use Rattle.loader.specs.Slot.{InSlots, SlotFilled}
use Rattle.loader.specs.SlotLaws.{stands_filled, line_stands}
use Rattle.loader.specs.Widths.{system_width, certificate_width}
use Rattle.check_conditions.specs.declared.dimensions.Dimensions.{Dimensions}
use Rattle.check_conditions.specs.Areas.{valid_dimensions, system_in_slots, vector_in, denominator_in}
use Rattle.check_conditions.specs.Areas.{numerators_in, certifying_denominator_in, certifying_numerators_in}
use Rattle.check_conditions.specs.Areas.{Loaded}
use Rattle.check_conditions.specs.AreaLaws.{system_is}
use Rattle.verifier.proofs.Parts.{solution_is, absence_is}
use Rattle.reader.specs.BothRead.{BothLine}
use Rattle.std.specs.Prelude.{Ok}
use Rattle.answers.specs.declared.shape.Form.{Form as FormValue}
use Rattle.answers.specs.Answer.{form_of}
use Rattle.verifier.specs.Loading.{AreaRoom, Loads, loaded_count, area_verdict}

entries_count : {limit count : ℕ} {ws : List ℕ} {fs : List (List ℕ)} → EntriesRead limit count ws fs → length fs ≡ count
entries_count {count = count} {ws = ws} r = ap length (sym r.same) ∙ length_first_entries ws count

module _ (k : ℕ) (ws : List ℕ) {h : Shape} {form : Form} {cs : List ℕ} (b : BothLine k h form ws cs) where
  abbrev s : System
  s = b.system

  abbrev c : Certificate
  c = b.certificate

  -- those of A, then those of the right side
  abbrev entries : List (List ℕ)
  entries = b.system.matrix ++ b.system.side

  line_within : SystemWithin office s
  line_within = line_in_within office office_fits k ws (line_written_of_read office office_fits k ws b.system_read)

  certificate_part : (cs ≡ certificate_words c) × CertificateWithin office (shape s) c
  certificate_part = certificate_written_of_read office (shape s) cs c b.certificate_read

  pub read_shape : ShapeWithin office h
  read_shape = rw b.same_head line_within.shape

  pub read_within : (h.rows ≤ office.rows) × (h.columns ≤ office.columns)
  read_within = (read_shape.rows.1, read_shape.columns.1)

  -- ---- what `load_line` and `load` ask

  read_line : LineEntriesRead office.system_coefficients k ws s
  read_line = line_entries_read office office_fits ws k s b.system_read

  pub line_has : HasEntries office.system_coefficients (h.rows * h.columns + k * h.rows + h.rows) ws
  line_has =
      subst (λ (g : Shape). HasEntries office.system_coefficients (g.rows * g.columns + k * g.rows + g.rows) ws)
      (sym b.same_head) read_line.has

  pub line_loaded : {A : List ℕ} → InSlots system_width A (line_entries ws h.rows h.columns k) → InSlots system_width A entries
  line_loaded {A} stands =
      line_stands read_line
      (subst (λ (g : Shape). InSlots system_width A (line_entries ws g.rows g.columns k)) b.same_head stands)

  pub read_certificate_lem : EntriesRead office.certificate_coefficients (entry_count h form) cs (certificate_entries c)
  read_certificate_lem =
      subst₂ (λ (g : Shape) (f : Form). EntriesRead office.certificate_coefficients (entry_count g f) cs (certificate_entries c))
      (sym b.same_head) (sym b.same_form)
      (certificate_entries_read office office_fits cs (shape s) line_within.shape c b.certificate_read)

  certificate_by : (f : Form) (n : ℕ) → form ≡ f → entry_count h f ≡ n
      → EntriesRead office.certificate_coefficients n cs (certificate_entries c)
  certificate_by f n e count =
      subst (λ (i : ℕ). EntriesRead office.certificate_coefficients i cs (certificate_entries c)) (ap (entry_count h) e ∙ count)
      read_certificate_lem

  -- no certificate has more polynomials than a solution
  pub read_few : entry_count h form ≤ h.columns + 2 + h.rows
  unfolding entry_count
  read_few = few form
    where
      few : (f : Form) → entry_count h f ≤ h.columns + 2 + h.rows
      few solving = omega arith
      few absent = omega arith

  read_solution : form ≡ solving
      → EntriesRead office.certificate_coefficients (h.columns + 2 + h.rows) cs (certificate_entries c)
  unfolding entry_count
  read_solution e = certificate_by solving (h.columns + 2 + h.rows) e (omega arith)

  read_absence : form ≡ absent → EntriesRead office.certificate_coefficients h.rows cs (certificate_entries c)
  unfolding entry_count
  read_absence e = certificate_by absent h.rows e refl

  system_within : VectorWithin s.modulus office.system_coefficients (s.rows * s.columns + s.rows) entries
  system_within =
      vector_append s.modulus office.system_coefficients line_within.matrix line_within.side

  entries_all : length entries ≡ h.rows * h.columns + h.rows
  entries_all = system_within.count ∙ ap (λ (g : Shape). g.rows * g.columns + g.rows) (sym b.same_head)

  certificate_within :
      VectorWithin s.modulus office.certificate_coefficients (entry_count (shape s) (certificate_form c)) (certificate_entries c)
  certificate_within = (certificate_framed office cs (shape s) c b.certificate_read).entries

  -- ---- the verdict

  verdict_read : certificate_verdict s c ≡ verdict office k ws cs
  verdict_read = sym (certificate_next office k ws cs b.system_read b.certificate_read)

  -- ---- the areas, loaded

  module _
      (m : Modulus)
      (fits : (h.rows ≤ office.rows) × (h.columns ≤ office.columns))
      (same : m.p ≡ h.modulus)
      (A C : List ℕ)
      (room : AreaRoom h A C)
      (in_A : InSlots system_width A entries)
      (in_C : InSlots certificate_width C (certificate_entries c))
    where
      abbrev l : Dimensions
      l = record { modulus = m; rows = h.rows; columns = h.columns; within = fits }

      same_modulus : m.p ≡ s.modulus
      same_modulus = same ∙ ap (λ (g : Shape). g.modulus) b.same_head

      filled_system : (i : ℕ) → i < h.rows * h.columns + h.rows → SlotFilled m.p system_width A i
      filled_system i lt =
          let count = entries_all in
          let few : length entries * system_width ≤ length A = rw count room.system in
          let within = all_at _ _ entries system_within.entries i in
          stands_filled in_A i (omega arith) (omega arith) (omega (arith, within.size))
          (subst (λ (p : ℕ). Canonical p (get_or entries i [])) (sym same_modulus) within.canonical)

      filled_certificate : length (certificate_entries c) ≤ h.columns + 2 + h.rows → (i : ℕ) → i < length (certificate_entries c)
          → SlotFilled m.p certificate_width C i
      filled_certificate few i lt =
          let all = room.certificate in
          let within = all_at _ _ (certificate_entries c) certificate_within.entries i in
          stands_filled in_C i lt (omega arith) (omega (arith, within.size))
          (subst (λ (p : ℕ). Canonical p (get_or (certificate_entries c) i [])) (sym same_modulus) within.canonical)

      loaded : (count : ℕ) → length (certificate_entries c) ≡ count → count ≤ h.columns + 2 + h.rows → Loaded l count A C
      loaded count all few = record {
        certificate =
            record {
              dimensions = valid_dimensions l;
              filled = λ i lt. filled_certificate (omega arith) i (omega arith);
            };
        system = filled_system;
      }

      loaded_solution : form ≡ solving → Loaded l (h.columns + 2 + h.rows) A C
      loaded_solution e =
          loaded (h.columns + 2 + h.rows) (entries_count (read_solution e)) (omega arith)

      loaded_absence : form ≡ absent → Loaded l h.rows A C
      loaded_absence e =
          loaded h.rows (entries_count (read_absence e)) (omega arith)

      system_in : system_in_slots l A ≡ s
      system_in =
          system_is l A s in_A same_modulus (ap (λ (g : Shape). g.rows) b.same_head)
          (ap (λ (g : Shape). g.columns) b.same_head)
          line_within.matrix.count line_within.side.count

      -- by the form of the certificate
      solution_by : (x : Certificate) → solving ≡ certificate_form x → CertificateWithin office (shape s) x
          → InSlots certificate_width C (certificate_entries x)
          → solution_verdict s (denominator_in C) (numerators_in l C) (certifying_denominator_in l C) (certifying_numerators_in l C)
          ≡ certificate_verdict s x
      unfolding certificate_form certificate_entries CertificateWithin certificate_verdict
      solution_by (solution d N w Z) e kept stands =
          let e_N : length N ≡ h.columns = kept.numerators.count ∙ ap (λ (g : Shape). g.columns) (sym b.same_head) in
          let e_Z : length Z ≡ h.rows = kept.certifying_numerators.count ∙ ap (λ (g : Shape). g.rows) (sym b.same_head) in
          solution_is h.columns h.rows C d N w Z e_N e_Z stands s
      solution_by (absence q) e kept stands = absurd (let z : ◌≡◌ {A = ℕ} 0 1 = cc in omega arith)

      absence_by : (x : Certificate) → absent ≡ certificate_form x → CertificateWithin office (shape s) x
          → InSlots certificate_width C (certificate_entries x)
          → absence_verdict s (vector_in h.rows 0 C) ≡ certificate_verdict s x
      unfolding certificate_form certificate_entries CertificateWithin certificate_verdict
      absence_by (solution d N w Z) e kept stands = absurd (let z : ◌≡◌ {A = ℕ} 0 1 = cc in omega arith)
      absence_by (absence q) e kept stands =
          ap (absence_verdict s) (absence_is h.rows C q (kept.count ∙ ap (λ (g : Shape). g.rows) (sym b.same_head)) stands)

      -- the verdict on the words, by the form
      by_form : (f : Form) → form ≡ f → Loaded l (loaded_count l f) A C × (verdict office k ws cs ≡ area_verdict l f A C)
      by_form solving e = (
        loaded_solution e,
        sym (ap (λ (t : System). solution_verdict t (denominator_in C) (numerators_in l C) (certifying_denominator_in l C)
            (certifying_numerators_in l C)) system_in
            ∙ solution_by c (sym e ∙ b.same_form) certificate_part.1 in_C
            ∙ verdict_read),
      )
      by_form absent e = (
        loaded_absence e,
        sym (ap (λ (t : System). absence_verdict t (vector_in h.rows 0 C)) system_in
            ∙ absence_by c (sym e ∙ b.same_form) certificate_part.1 in_C ∙ verdict_read),
      )

      pub read_loads : (f : FormValue) → form ≡ form_of f → Loads (verdict office k ws cs) A C (Ok (l, f))
      read_loads f e = let found = by_form (form_of f) e in record { ready = found.0; verdict = found.1 }
