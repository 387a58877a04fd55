-- Arrays that are as long as the limits ask have room for every system and every certificate of a shape within the limits.
use mathlib.Core.Path.{◌≡◌, sym, subst}
use mathlib.Core.List.{List}
use Prim.Native.Nat.{ℕ, ◌*◌, ◌≤◌, ◌<◌}
use native.Mathlib.Nat.{le_trans, mul-le-mul_left}
use native.Mathlib.Omega.{arith}
use lib.ListN.{length}
use Rattle.words.specs.Limits.{Limits, words_for}
use Rattle.words.specs.LimitsLaws.{LimitsFit, system_count_most, words_for_most}
use Rattle.words.specs.System.{Shape, ShapeWithin}
use Rattle.words.specs.Systems.{Head}
use Rattle.words.proofs.SystemsLaws.{systems_expressible}
use Rattle.words.proofs.CertificateLaws.{entry_count_most, certificate_expressible}
use Rattle.words.specs.Word.{payload_bound}
use Rattle.answers.specs.Answer.{form_of}
use Rattle.write_frame.specs.declared.format.Format.{Format}
use Rattle.write_frame.specs.Framing.{Covers}
use Rattle.writer.specs.declared.format.Kind.{Kind}
use Rattle.writer.specs.declared.format.Kind.TheVariants as kind
use Rattle.writer.specs.Values.{certificate_stride}
use Rattle.writer.specs.Formats.{KindWithin, system_frame, certificate_frame, format_of, most_of, stride_of}

-- what writing values asks
abbrev pub Ready : Format → ℕ → List ℕ → List ℕ → Type 0
Ready format p sizes coefficients =
    Covers format sizes coefficients × (p ≤ payload_bound) × (words_for format.count format.limit ≤ format.longest)

-- so many polynomials at most
covers : (format : Format) (most : ℕ) (sizes coefficients : List ℕ) → format.count ≤ most → most ≤ length sizes
    → format.stride * most ≤ length coefficients → format.limit ≤ format.stride
    → words_for format.count format.limit < payload_bound → Covers format sizes coefficients
covers format most sizes coefficients few s c apart short = record {
  sized = le_trans few s;
  roomy = le_trans (mul-le-mul_left format.stride few) c;
  apart = apart;
  short = short;
}

-- of the format that code computed
pub ready_as : {computed format : Format} {p : ℕ} {sizes coefficients : List ℕ} → computed ≡ format
    → Ready format p sizes coefficients → Ready computed p sizes coefficients
ready_as {computed} {format} {p} {sizes} {coefficients} e r = subst (λ (g : Format). Ready g p sizes coefficients) (sym e) r

module _ (limits : Limits) (fit : LimitsFit limits) (h : Shape) (within : ShapeWithin limits h) where
  pub kind_ready : (k : Kind) → KindWithin limits k → (sizes coefficients : List ℕ)
      → limits.certificate_coefficients ≤ certificate_stride → most_of limits k ≤ length sizes
      → stride_of limits k * most_of limits k ≤ length coefficients → Ready (format_of limits h k) h.modulus sizes coefficients
  kind_ready (kind.System sides) some sizes coefficients apart s c =
      let head : Head = record { shape = h; sides = sides } in
      let x = systems_expressible limits fit head (record { shape = within; sides = some }) in
      let few = system_count_most within.rows.1 within.columns.1 some.1 in (
        covers (system_frame limits head) _ sizes coefficients few s c (omega arith) x.words,
        x.modulus,
        words_for_most limits.system_coefficients few,
      )
  kind_ready (kind.Certificate form) some sizes coefficients apart s c =
      let x = certificate_expressible limits h fit within (form_of form) tt in
      let few = entry_count_most limits h within (form_of form) in (
        covers (certificate_frame limits h (form_of form)) _ sizes coefficients few s c apart x.words,
        x.modulus,
        words_for_most limits.certificate_coefficients few,
      )
