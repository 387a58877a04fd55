-- What the calls leave in the lent arrays: values that were read, or, on a refusal, all that stood there.
use Rattle.answers.specs.declared.shape.Form.{Form as FormValue}
use Rattle.answers.specs.declared.shape.Head.{Head as HeadValue}
use Rattle.answers.specs.declared.answer.Refusal.{Refusal}
use Rattle.std.specs.Prelude.{◌≡◌, List, ℕ, ◌*◌, ◌≤◌, length, Result}
use Rattle.std.proofs.Common.{sym, ◌∙◌}
use Rattle.std.proofs.Math.Path.{ap}
use Rattle.words.specs.Limits.{Limits, system_count, solution_count}
use Rattle.words.specs.LimitsLaws.{LimitsFit}
use Rattle.words.specs.Outcome.{Outcome, mapped}
use Rattle.words.specs.Outcome.Outcome.{accepted, refused}
use Rattle.words.specs.OutcomeLaws.{mapped_refused}
use Rattle.words.specs.System.{Shape, ShapeWithin}
use Rattle.words.specs.Systems.{Systems, systems_head, systems_entries, read_systems}
use Rattle.words.proofs.SystemsLaws.{systems_written_of_read}
use Rattle.words.specs.Certificate.{Certificate, certificate_form, certificate_entries, read_certificate}
use Rattle.words.proofs.CertificateLaws.{certificate_written_of_read}
use Rattle.answers.specs.Answer.{system_outcome, certificate_outcome}
use Rattle.writer.specs.Values.{system_in_arrays, certificate_in, certificate_stride}
use Rattle.writer.specs.WritingLaws.{shape_within}
use Rattle.values.specs.Laid.{sizes_over, laid_over}
use Rattle.values.specs.Loading.{sizes_after, values_after, LoadsSystem, certificate_to_load, LoadsCertificate}
use Rattle.values.specs.HeldLaws.{system_laid, certificate_laid}

-- the arrays after an outcome that is known
module _ (stride : ℕ) (sizes values : List ℕ) {outcome : Outcome (List (List ℕ))} {sizes' values' : List ℕ}
    (es : sizes' ≡ sizes_after outcome sizes) (ev : values' ≡ values_after stride outcome values) where
  arrays_laid : {fs : List (List ℕ)} → outcome ≡ accepted fs → (sizes' ≡ sizes_over fs sizes) × (values' ≡ laid_over stride fs values)
  unfolding sizes_after values_after
  arrays_laid e = (
    es ∙ ap (λ (o : Outcome (List (List ℕ))). sizes_after o sizes) e,
    ev ∙ ap (λ (o : Outcome (List (List ℕ))). values_after stride o values) e,
  )

  arrays_kept : {number place : ℕ} → outcome ≡ refused number place → (sizes' ≡ sizes) × (values' ≡ values)
  unfolding sizes_after values_after
  arrays_kept e = (
    es ∙ ap (λ (o : Outcome (List (List ℕ))). sizes_after o sizes) e,
    ev ∙ ap (λ (o : Outcome (List (List ℕ))). values_after stride o values) e,
  )

-- ---- systems

-- a matrix and right sides that are accepted stand in the arrays
pub record LoadedSystem (limits : Limits) (s : Systems) (answer : Result HeadValue Refusal) (sizes values : List ℕ) : Type 0 where
  pub answer_is : system_outcome answer ≡ accepted s.head
  pub values_are : system_in_arrays limits s.head sizes values ≡ s

module _ {limits : Limits} {ws : List ℕ} {answer : Result HeadValue Refusal} {sizes sizes' values values' : List ℕ}
    (loads : LoadsSystem limits ws answer sizes sizes' values values') where
  pub system_loaded : LimitsFit limits
      → limits.system_coefficients * system_count limits.rows limits.columns limits.sides ≤ length values
      → {s : Systems} → read_systems limits ws ≡ accepted s → LoadedSystem limits s answer sizes' values'
  system_loaded fit room {s} read =
      let e = arrays_laid limits.system_coefficients sizes values loads.sizes_are loads.values_are
      (ap (mapped systems_entries) read) in
      record {
        answer_is = loads.answer_is ∙ ap (mapped systems_head) read;
        values_are = rw (e.0, e.1) (system_laid limits fit s (systems_written_of_read limits fit ws s read).1 sizes values room);
      }

  -- on a refusal nothing changes
  pub system_load_refused : {number place : ℕ} → system_outcome answer ≡ refused number place → (sizes' ≡ sizes) × (values' ≡ values)
  system_load_refused is =
      let read = mapped_refused systems_head (read_systems limits ws) (sym loads.answer_is ∙ is) in
      arrays_kept limits.system_coefficients sizes values loads.sizes_are loads.values_are (ap (mapped systems_entries) read)

-- ---- certificates for a system of the shape h

pub record LoadedCertificate (h : Shape) (c : Certificate) (answer : Result FormValue Refusal) (sizes values : List ℕ) : Type 0 where
  pub answer_is : certificate_outcome answer ≡ accepted (certificate_form c)
  pub values_are : certificate_in h (certificate_form c) sizes values ≡ c

module _ {limits : Limits} {h : Shape} {cs : List ℕ} {answer : Result FormValue Refusal} {sizes sizes' values values' : List ℕ}
    (loads : LoadsCertificate limits h cs answer sizes sizes' values values') where
  pub certificate_loaded : LimitsFit limits → limits.certificate_coefficients ≤ certificate_stride → ShapeWithin limits h
      → certificate_stride * solution_count limits.rows limits.columns ≤ length values
      → {c : Certificate} → read_certificate limits h cs ≡ accepted c → LoadedCertificate h c answer sizes' values'
  certificate_loaded fit fits shape room {c} read =
      let found = shape_within limits h (read_certificate limits h cs) shape ∙ read in
      let e = arrays_laid certificate_stride sizes values loads.sizes_are loads.values_are
      (ap (mapped certificate_entries) found) in
      record {
        answer_is = loads.answer_is ∙ ap (mapped certificate_form) found;
        values_are = rw (e.0, e.1)
            (certificate_laid limits fit fits h shape c (certificate_written_of_read limits h cs c read).1 sizes values room);
      }

  pub certificate_load_refused : {number place : ℕ} → certificate_outcome answer ≡ refused number place
      → (sizes' ≡ sizes) × (values' ≡ values)
  certificate_load_refused is =
      let read = mapped_refused certificate_form (certificate_to_load limits h cs) (sym loads.answer_is ∙ is) in
      arrays_kept certificate_stride sizes values loads.sizes_are loads.values_are (ap (mapped certificate_entries) read)
