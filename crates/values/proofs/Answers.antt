-- What the calls answer: from what the reader says of the words, and what the loop then stores.
use Rattle.std.specs.Prelude.{Ok, Err}
use mathlib.Core.Path.{◌≡◌, sym, ap, ◌∙◌, subst}
use mathlib.Core.List.{List}
use Prim.Native.Nat.{ℕ, ◌*◌, ◌≤◌}
use native.Mathlib.Omega.{arith}
use lib.ListN.{length}
use Rattle.words.specs.Limits.{office}
use Rattle.words.specs.LimitsLaws.{office_fits}
use Rattle.words.specs.Outcome.{Outcome, mapped}
use Rattle.words.specs.Outcome.Outcome.{accepted}
use Rattle.words.specs.OutcomeLaws.{mapped_accepted, mapped_refused}
use Rattle.words.specs.System.{Shape, ShapeWithin}
use Rattle.words.specs.Systems.{Head, Systems, HeadWithin, systems_head, systems_entries, systems_due, read_systems}
use Rattle.words.proofs.SystemsLaws.{systems_written_of_read}
use Rattle.words.specs.Certificate.{Certificate, Form, certificate_form, certificate_entries, entry_count, read_certificate}
use Rattle.words.specs.Starts.{first_entries, HasEntries}
use Rattle.words.proofs.FramedLaws.{EntriesRead, systems_entries_read, certificate_entries_read}
use Rattle.limits.specs.Counts.{system_polynomials, certificate_polynomials}
use Rattle.answers.specs.declared.answer.Refusal.{Refusal}
use Rattle.answers.specs.declared.shape.Head.{Head as HeadValue}
use Rattle.answers.specs.declared.shape.Form.{Form as FormValue}
use Rattle.answers.specs.Answer.{refused_by, head_of, form_of}
use Rattle.write_frame.specs.declared.format.Format.{Format}
use Rattle.write_frame.specs.Framing.{Covers}
use Rattle.write_frame.specs.Trial.{passed}
use Rattle.write_frame.specs.TrialLaws.{next_after}
use Rattle.writer.specs.declared.format.Kind.TheVariants as kind
use Rattle.writer.specs.Writing.{refuse_shape}
use Rattle.writer.specs.Values.{certificate_stride}
use Rattle.writer.specs.WritingLaws.{shape_first, shape_passed, shape_within}
use Rattle.writer.specs.Formats.{format_of}
use Rattle.writer.proofs.Ready.{kind_ready}
use Rattle.values.specs.Laid.{sizes_over, laid_over}
use Rattle.values.specs.Loading.{sizes_after, values_after, LoadsSystem, certificate_to_load, LoadsCertificate}

-- what the loop asks, and what it gives
abbrev pub Asked : Format → List ℕ → List ℕ → List ℕ → Type 0
Asked format ws sizes values = HasEntries format.limit format.count ws × Covers format sizes values

abbrev pub Given : Format → List ℕ → List ℕ → List ℕ → List ℕ → List ℕ → Type 0
Given format ws sizes sizes' values values' =
    (sizes' ≡ sizes_over (first_entries ws format.count) sizes)
    × (values' ≡ laid_over format.stride (first_entries ws format.count) values)

-- ---- systems

module _ (ws : List ℕ) where
  -- a refusal
  pub system_refused : (sizes values : List ℕ) (r : Refusal)
      → refused_by r ≡ mapped systems_head (read_systems office ws)
      → LoadsSystem office ws (Err r) sizes sizes values values
  unfolding sizes_after values_after
  system_refused sizes values r told =
      let e = ap (mapped systems_entries) (mapped_refused systems_head (read_systems office ws) (sym told)) in
      record { answer_is = told; sizes_are = rw e; values_are = rw e }

  module _ {h : Head} (told : accepted h ≡ mapped systems_head (read_systems office ws)) where
    read : (s : Systems) × (read_systems office ws ≡ accepted s) × (systems_head s ≡ h)
    read = mapped_accepted systems_head (read_systems office ws) (sym told)

    abbrev s : Systems
    s = read.0

    pub system_head : HeadWithin office h
    system_head = subst (HeadWithin office) read.2 (systems_written_of_read office office_fits ws s read.1).1.head

    holds : EntriesRead office.system_coefficients (systems_due office h).count ws (systems_entries s)
    holds =
        subst (λ (g : Head). EntriesRead office.system_coefficients (systems_due office g).count ws (systems_entries s))
        read.2
        (systems_entries_read office office_fits ws s read.1)

    module _ {format : Format} (is : format ≡ format_of office h.shape (kind.System h.sides)) (sizes values : List ℕ) where
      pub system_asked : system_polynomials ≤ length sizes → office.system_coefficients * system_polynomials ≤ length values
          → Asked format ws sizes values
      system_asked sized roomy =
          subst (λ (f : Format). Asked f ws sizes values) (sym is) (
            holds.has,
            (kind_ready office office_fits h.shape system_head.shape (kind.System h.sides) system_head.sides sizes values
                (omega arith) sized roomy).0,
          )

      pub system_loads : {sizes' values' : List ℕ} (v : HeadValue) → head_of v ≡ h → Given format ws sizes sizes' values values'
          → LoadsSystem office ws (Ok v) sizes sizes' values values'
      unfolding sizes_after values_after
      system_loads {sizes'} {values'} v same given =
          let stored = subst (λ (f : Format). Given f ws sizes sizes' values values') is given in
          let e = ap (mapped systems_entries) read.1 in
          record {
            answer_is = ap accepted same ∙ told;
            sizes_are = rw (e, ← holds.same) stored.0;
            values_are = rw (e, ← holds.same) stored.1;
          }

-- ---- certificates

module _ (h : Shape) (ws : List ℕ) where
  abbrev to_load : Outcome Certificate
  to_load = certificate_to_load office h ws

  refuses : (sizes values : List ℕ) (r : Refusal) → to_load ≡ refused_by r
      → LoadsCertificate office h ws (Err r) sizes sizes values values
  unfolding sizes_after values_after
  refuses sizes values r is = record { answer_is = rw is; sizes_are = rw is; values_are = rw is }

  -- 2 or 3
  pub shape_refused : (sizes values : List ℕ) (r : Refusal) → refused_by r ≡ refuse_shape office h passed
      → LoadsCertificate office h ws (Err r) sizes sizes values values
  shape_refused sizes values r told =
      refuses sizes values r
      (shape_first office h (read_certificate office h ws)
      ∙ ap (λ (t : Outcome (Unit {0})). next_after t (read_certificate office h ws)) (sym told))

  module _ (passed_shape : passed ≡ refuse_shape office h passed) where
    certificate_shape : ShapeWithin office h
    certificate_shape = (shape_passed office h passed (sym passed_shape)).0

    to_load_lem : to_load ≡ read_certificate office h ws
    to_load_lem = shape_within office h (read_certificate office h ws) certificate_shape

    pub certificate_refused : (sizes values : List ℕ) (r : Refusal)
        → refused_by r ≡ mapped certificate_form (read_certificate office h ws)
        → LoadsCertificate office h ws (Err r) sizes sizes values values
    certificate_refused sizes values r told =
        refuses sizes values r (to_load_lem ∙ mapped_refused certificate_form (read_certificate office h ws) (sym told))

    module _ (form : FormValue) (told : accepted (form_of form) ≡ mapped certificate_form (read_certificate office h ws)) where
      read_as : (c : Certificate) × (read_certificate office h ws ≡ accepted c) × (certificate_form c ≡ form_of form)
      read_as = mapped_accepted certificate_form (read_certificate office h ws) (sym told)

      abbrev c : Certificate
      c = read_as.0

      holds_as : EntriesRead office.certificate_coefficients (entry_count h (form_of form)) ws (certificate_entries c)
      holds_as =
          subst (λ (f : Form). EntriesRead office.certificate_coefficients (entry_count h f) ws (certificate_entries c))
          read_as.2
          (certificate_entries_read office office_fits ws h certificate_shape c read_as.1)

      module _ {format : Format} (is : format ≡ format_of office h (kind.Certificate form)) (sizes values : List ℕ) where
        pub certificate_asked : certificate_polynomials ≤ length sizes → certificate_stride * certificate_polynomials ≤ length values
            → Asked format ws sizes values
        certificate_asked sized roomy =
            subst (λ (f : Format). Asked f ws sizes values) (sym is) (
              holds_as.has,
              (kind_ready office office_fits h certificate_shape (kind.Certificate form) tt sizes values (omega arith) sized
                  roomy).0,
            )

        pub certificate_loads : {sizes' values' : List ℕ} → Given format ws sizes sizes' values values'
            → LoadsCertificate office h ws (Ok form) sizes sizes' values values'
        unfolding sizes_after values_after
        certificate_loads {sizes'} {values'} given =
            let stored = subst (λ (f : Format). Given f ws sizes sizes' values values') is given in
            let e = ap (mapped certificate_entries) (to_load_lem ∙ read_as.1) in
            record {
              answer_is = told ∙ ap (mapped certificate_form) (sym to_load_lem);
              sizes_are = rw (e, ← holds_as.same) stored.0;
              values_are = rw (e, ← holds_as.same) stored.1;
            }
