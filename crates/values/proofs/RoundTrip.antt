-- "Every sheet and card within the limits has one written form; it reads back as the same values, and every accepted form writes
-- back as the same words" (demand 2 of the notice), of the calls: what `write_system` writes, `load_system` loads as the values
-- that were written; what `load_system` loads, `write_system` writes as the words that were read. The same of certificates.
use Rattle.answers.specs.declared.shape.Form.{Form as FormValue}
use Rattle.answers.specs.declared.shape.Head.{Head as HeadValue}
use Rattle.answers.specs.declared.answer.Refusal.{Refusal}
use Rattle.std.specs.Prelude.{◌≡◌, List, ℕ, ◌*◌, ◌≤◌, length, take, Result, Ok}
use Rattle.std.proofs.Common.{sym, ap, ◌∙◌, subst}
use Rattle.words.specs.Limits.{Limits, system_count, solution_count, longest_system, longest_certificate}
use Rattle.words.specs.LimitsLaws.{LimitsFit}
use Rattle.words.specs.Outcome.Outcome.{accepted}
use Rattle.words.specs.OutcomeLaws.{mapped_accepted}
use Rattle.words.specs.System.{Shape, ShapeWithin}
use Rattle.words.specs.Systems.{Head, Systems, SystemsWithin, systems_head, systems_words, read_systems}
use Rattle.words.proofs.SystemsLaws.{systems_read_of_written}
use Rattle.words.specs.Certificate.{Certificate, Form, CertificateWithin, certificate_form, certificate_words, read_certificate}
use Rattle.words.proofs.CertificateLaws.{certificate_read_of_written}
use Rattle.answers.specs.Answer.{system_outcome, certificate_outcome}
use Rattle.writer.specs.Writing.{write_systems, write_certificate, Writes}
use Rattle.writer.specs.Values.{system_in_arrays, certificate_in, certificate_stride}
use Rattle.writer.specs.ValuesLaws.{system_in_head, certificate_in_form}
use Rattle.writer.specs.WritingLaws.{shape_passed}
use Rattle.writer.specs.WrittenLaws.{count_words, certificate_accepted, system_call_is_read, certificate_call_is_read}
use Rattle.writer.specs.WrittenBackLaws.{WritesBack, system_written_back, certificate_written_back}
use Rattle.values.specs.Loading.{LoadsSystem, certificate_to_load, LoadsCertificate}
use Rattle.values.proofs.LoadedLaws.{system_loaded, certificate_loaded}

module _ (limits : Limits) (fit : LimitsFit limits) where
  -- ---- systems

  -- the arrays of values are as long as those of the calls
  abbrev pub SystemRoom : List ℕ → Type 0
  SystemRoom values = limits.system_coefficients * system_count limits.rows limits.columns limits.sides ≤ length values

  -- a call of the writer, on arrays, p, n, m and the number of right sides
  abbrev pub WritesSystem : List ℕ → List ℕ → Head → List ℕ → Result ℕ Refusal → List ℕ → Type 0
  WritesSystem sizes values h entry answer exit =
      Writes (write_systems limits (length entry) (system_in_arrays limits h sizes values)) entry answer exit

  module _ (sizes values : List ℕ) {entry exit : List ℕ} where
    -- arrays that stand for a matrix and right sides within the limits are written as their words
    pub system_writes_form : {s : Systems} → SystemsWithin limits s → system_in_arrays limits s.head sizes values ≡ s
        → longest_system limits ≤ length entry → {answer : Result ℕ Refusal} → WritesSystem sizes values s.head entry answer exit
        → WritesBack (systems_words s) entry answer exit
    system_writes_form {s} within stand enough w =
        system_written_back limits fit (systems_words s) sizes values s (systems_read_of_written limits fit s within) stand enough w

    -- "it reads back as the same values"
    pub system_reads_back : {h : Head} {n : ℕ} → WritesSystem sizes values h entry (Ok n) exit
        → {lent_sizes sizes' lent_values values' : List ℕ} {answer : Result HeadValue Refusal}
        → LoadsSystem limits (take n exit) answer lent_sizes sizes' lent_values values' → SystemRoom lent_values
        → (system_outcome answer ≡ accepted h) × (system_in_arrays limits h sizes' values' ≡ system_in_arrays limits h sizes values)
    system_reads_back {h} w {sizes' = sizes'} {values' = values'} loads roomy =
        let l = system_loaded loads fit roomy (system_call_is_read limits fit sizes values h w) in
        let same = system_in_head limits h sizes values in (
          l.answer_is ∙ ap accepted same,
          subst (λ (g : Head). system_in_arrays limits g sizes' values' ≡ system_in_arrays limits h sizes values) same l.values_are,
        )

    -- "every accepted form writes back as the same words"
    pub system_loads_back : {ws lent_sizes lent_values : List ℕ} {read : Result HeadValue Refusal}
        → LoadsSystem limits ws read lent_sizes sizes lent_values values → SystemRoom lent_values
        → {h : Head} → system_outcome read ≡ accepted h → longest_system limits ≤ length entry
        → {answer : Result ℕ Refusal} → WritesSystem sizes values h entry answer exit → WritesBack ws entry answer exit
    system_loads_back {ws} loads roomy {h} is enough {answer} w =
        let found = mapped_accepted systems_head (read_systems limits ws) (sym loads.answer_is ∙ is) in
        let l = system_loaded loads fit roomy found.1 in
        system_written_back limits fit ws sizes values found.0 found.1 l.values_are enough
        (subst (λ (g : Head). WritesSystem sizes values g entry answer exit) (sym found.2) w)

  -- ---- certificates for a system of the shape h

  abbrev pub CertificateRoom : List ℕ → Type 0
  CertificateRoom values = certificate_stride * solution_count limits.rows limits.columns ≤ length values

  abbrev pub WritesCertificate : List ℕ → List ℕ → Form → Shape → List ℕ → Result ℕ Refusal → List ℕ → Type 0
  WritesCertificate sizes values form h entry answer exit =
      Writes (write_certificate limits (length entry) h (certificate_in h form sizes values)) entry answer exit

  module _ (fits : limits.certificate_coefficients ≤ certificate_stride) (h : Shape) (sizes values : List ℕ) {entry exit : List ℕ}
    where
      pub certificate_writes_form : ShapeWithin limits h → {c : Certificate} → CertificateWithin limits h c
          → certificate_in h (certificate_form c) sizes values ≡ c → longest_certificate limits ≤ length entry
          → {answer : Result ℕ Refusal} → WritesCertificate sizes values (certificate_form c) h entry answer exit
          → WritesBack (certificate_words c) entry answer exit
      certificate_writes_form shape {c} within stand enough w =
          certificate_written_back limits fit (certificate_words c) sizes values h shape c
          (certificate_read_of_written limits h fit shape c within) stand enough w

      pub certificate_reads_back : {form : Form} {n : ℕ} → WritesCertificate sizes values form h entry (Ok n) exit
          → {lent_sizes sizes' lent_values values' : List ℕ} {answer : Result FormValue Refusal}
          → LoadsCertificate limits h (take n exit) answer lent_sizes sizes' lent_values values' → CertificateRoom lent_values
          → (certificate_outcome answer ≡ accepted form) × (certificate_in h form sizes' values' ≡ certificate_in h form sizes values)
      certificate_reads_back {form} w {sizes' = sizes'} {values' = values'} loads roomy =
          let shape = (certificate_accepted limits (length entry) h sizes values form _ (count_words _ w)).shape in
          let l = certificate_loaded loads fit fits shape roomy (certificate_call_is_read limits fit sizes values h form w) in
          let same = certificate_in_form h sizes values form in (
            l.answer_is ∙ ap accepted same,
            subst (λ (f : Form). certificate_in h f sizes' values' ≡ certificate_in h form sizes values) same l.values_are,
          )

      pub certificate_loads_back : {ws lent_sizes lent_values : List ℕ} {read : Result FormValue Refusal}
          → LoadsCertificate limits h ws read lent_sizes sizes lent_values values → CertificateRoom lent_values
          → {form : Form} → certificate_outcome read ≡ accepted form → longest_certificate limits ≤ length entry
          → {answer : Result ℕ Refusal} → WritesCertificate sizes values form h entry answer exit → WritesBack ws entry answer exit
      certificate_loads_back {ws} loads roomy {form} is enough {answer} w =
          let found = mapped_accepted certificate_form (certificate_to_load limits h ws) (sym loads.answer_is ∙ is) in
          let passed = shape_passed limits h (read_certificate limits h ws) found.1 in
          let l = certificate_loaded loads fit fits passed.0 roomy passed.1 in
          certificate_written_back limits fit ws sizes values h passed.0 found.0 passed.1 l.values_are enough
          (subst (λ (f : Form). WritesCertificate sizes values f h entry answer exit) (sym found.2) w)
