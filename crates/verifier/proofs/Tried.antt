-- What was read, tried for the limits that are kept; and how the steps behind each other fit.
use mathlib.Core.Path.{◌≡◌, sym, ap, ◌∙◌}
use mathlib.Core.Bool.{Bool, true, false}
use mathlib.Core.List.{List}
use Prim.Native.Nat.{ℕ, ◌+◌, ◌*◌}
use native.Mathlib.Nat.{mul-le-mul}
use native.Mathlib.Omega.{arith}
use Rattle.words.specs.Limits.{Limits, office, panel, solution_count}
use Rattle.words.specs.LimitsLaws.{office_fits}
use Rattle.words.specs.Outcome.{refuse, mapped}
use Rattle.words.specs.Outcome.Outcome.{accepted, refused}
use Rattle.words.specs.OutcomeLaws.{refuse_passed}
use Rattle.words.specs.System.{Shape, ShapeWithin}
use Rattle.words.specs.Systems.{Systems, Head, SystemsWithin, systems_head, read_systems, line}
use Rattle.words.proofs.SystemsLaws.{systems_written_of_read}
use Rattle.words.specs.Certificate.{Certificate, Form, certificate_form, read_certificate}
use Rattle.words.specs.Kept.{systems_exceed, certificate_exceeds}
use Rattle.words.proofs.KeptLaws.{systems_kept, sided_systems, sided_line}
use Rattle.truth.specs.Verdict.{verdict}
use Rattle.truth.specs.Within.{both_read, limits_verdict, verdict_within, kept_verdict}
use Rattle.truth.proofs.WithinLaws.{both_of, within_limits, within_passed, line_shape}
use Rattle.reader.specs.BothRead.{BothLine}
use Rattle.loader.specs.Widths.{system_width, certificate_width, line_polynomials}
use Rattle.limits.specs.Counts.{certificate_polynomials}
use Rattle.verifier.specs.Loading.{BothSided, AreaRoom, AreasFor, AreasOf}

-- ---- 41

module _ (kept : Limits) (k : ℕ) (ws cs : List ℕ) (h : Head) (form : Form) (b : BothSided k h form ws cs) where
  abbrev s : Systems
  s = b.system

  abbrev c : Certificate
  c = b.certificate

  whole_read : read_systems office ws ≡ accepted s
  whole_read = (sided_systems office k ws b.system_read).0

  system_within : SystemsWithin office s
  system_within = (systems_written_of_read office office_fits ws s whole_read).1

  -- what is asked of the values
  pub limits_told : both_read office k ws cs (limits_verdict kept) ≡ limits_verdict kept s c
  limits_told = both_of office kept k ws cs (limits_verdict kept) b.system_read b.certificate_read

  pub head_told : accepted h ≡ mapped systems_head (read_systems office ws)
  head_told = sym (ap (mapped systems_head) whole_read ∙ ap accepted (sym b.same_head))

  same_shape : h.shape ≡ s.head.shape
  same_shape = ap (λ (g : Head). g.shape) b.same_head

  certificate_read : read_certificate office h.shape cs ≡ accepted c
  certificate_read = ap (λ (g : Shape). read_certificate office g cs) same_shape ∙ b.certificate_read

  pub form_told : accepted form ≡ mapped certificate_form (read_certificate office h.shape cs)
  form_told = sym (ap (mapped certificate_form) certificate_read ∙ ap accepted (sym b.same_form))

  module _ {t : Bool} (tells : accepted t ≡ mapped (systems_exceed kept) (read_systems office ws)) where
    system_is : systems_exceed kept s ≡ t
    system_is = let e = tells ∙ ap (mapped (systems_exceed kept)) whole_read in cc

    pub system_refused : t ≡ true → refused 41 0 ≡ both_read office k ws cs (limits_verdict kept)
    system_refused e =
        sym (limits_told
        ∙ ap (λ x. refuse x 41 0 (refuse (certificate_exceeds kept c) 41 1 (accepted tt))) (system_is ∙ e))

    module _ (e : t ≡ false) where
      pub shape_valid : ShapeWithin office h.shape × ShapeWithin kept h.shape
      shape_valid = (
        rw same_shape system_within.head.shape,
        rw same_shape (systems_kept kept office s system_within (system_is ∙ e)).head.shape,
      )

      pub certificate_tried : {u : Bool} → accepted u ≡ mapped (certificate_exceeds kept) (read_certificate office h.shape cs)
          → refuse u 41 1 (accepted tt) ≡ both_read office k ws cs (limits_verdict kept)
      certificate_tried {u} told =
          let is : certificate_exceeds kept c ≡ u = let x = told ∙ ap (mapped (certificate_exceeds kept)) certificate_read in cc in
          sym (limits_told
          ∙ ap (λ x. refuse x 41 0 (refuse (certificate_exceeds kept c) 41 1 (accepted tt))) (system_is ∙ e)
          ∙ ap (λ x. refuse x 41 1 (accepted tt)) is)

  -- ---- behind 41

  pub limits_refuse : {number place : ℕ} → refused number place ≡ both_read office k ws cs (limits_verdict kept)
      → verdict_within office kept k ws cs ≡ refused number place
  limits_refuse e = within_limits office kept k ws cs b.system_read b.certificate_read (sym limits_told ∙ sym e)

  module _ (e : accepted tt ≡ both_read office k ws cs (limits_verdict kept)) where
    pub limits_pass : verdict_within office kept k ws cs ≡ verdict office k ws cs
    limits_pass = within_passed office kept k ws cs b.system_read b.certificate_read (sym limits_told ∙ sym e)

    pub line_read : BothLine k h.shape form ws cs
    line_read = record {
      system = line s k;
      certificate = c;
      system_read = sided_line office k ws b.system_read;
      certificate_read = ap (λ (g : Shape). read_certificate office g cs) (line_shape s k) ∙ b.certificate_read;
      same_head = same_shape ∙ sym (line_shape s k);
      same_form = b.same_form;
    }

    pub room_kept : {A C : List ℕ} → AreasFor kept A C → AreaRoom h.shape A C
    room_kept room =
        let none = (refuse_passed (systems_exceed kept s) 41 0 _ (sym limits_told ∙ sym e)).0 in
        room h.shape (rw same_shape system_within.head.shape)
        (rw same_shape (systems_kept kept office s system_within none).head.shape)

-- where one of them was not read
pub none_read : (kept : Limits) (k : ℕ) (ws cs : List ℕ) {number place : ℕ}
    → both_read office k ws cs (kept_verdict kept k) ≡ refused number place
    → verdict_within office kept k ws cs ≡ refused number place
unfolding verdict_within
none_read kept k ws cs e = e

-- ---- areas

-- for all that the office reads
pub office_areas : (kept : Limits) → AreasOf kept (line_polynomials * system_width) (certificate_polynomials * certificate_width)
office_areas kept A C a b h valid keeps =
    let places = mul-le-mul valid.rows.1 valid.columns.1 in
    let rows = valid.rows.1 in
    let columns = valid.columns.1 in
    record { system = omega arith; certificate = omega arith }

-- for all that keeps the panel's limits
pub panel_areas : AreasOf panel ((panel.rows * (panel.columns + 1)) * system_width)
    (solution_count panel.rows panel.columns * certificate_width)
panel_areas A C a b h valid keeps =
    let places = mul-le-mul keeps.rows.1 keeps.columns.1 in
    let rows = keeps.rows.1 in
    let columns = keeps.columns.1 in
    record { system = omega arith; certificate = omega arith }
