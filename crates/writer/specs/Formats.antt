-- The formats of a system and of a certificate, and that the writers are trials of a head before them.
use Rattle.std.specs.Prelude.{◌≡◌, ℕ}
use Rattle.std.proofs.Math.Path.{ap, ap₂}
use mathlib.Core.List.{List}
use Rattle.words.specs.Limits.{Limits, system_count, solution_count, longest_system, longest_certificate}
use Rattle.words.specs.Outcome.{Outcome}
use Rattle.words.specs.Outcome.Outcome.{accepted}
use Rattle.words.specs.Frame.{framed_words}
use Rattle.words.specs.System.{Shape}
use Rattle.words.specs.Systems.{Head, head_word, systems_words}
use Rattle.words.specs.Certificate.{Form, form_word, entry_count, certificate_words}
use Rattle.answers.specs.declared.answer.Of.TheVariants as of
use Rattle.answers.specs.Answer.{form_of, by_of}
use Rattle.write_frame.specs.declared.format.Format.{Format}
use Rattle.write_frame.specs.Framing.{entries_in}
use Rattle.write_frame.specs.Trial.{refuse_polynomials}
use Rattle.writer.specs.declared.format.Kind.{Kind}
use Rattle.writer.specs.declared.format.Kind.TheVariants as kind
use Rattle.writer.specs.Writing.{refuse_sides, refuse_shape, refuse_room, write_systems, write_certificate}
use Rattle.writer.specs.Refused.{MayBeSides}
use Rattle.writer.specs.Values.{system_in_arrays, certificate_in, certificate_stride}
use Rattle.writer.specs.ValuesLaws.{system_in_entries, certificate_in_entries, certificate_in_form}

-- all that is tried of the polynomials in arrays, in order, and their words
abbrev pub write_framed : Format → ℕ → ℕ → List ℕ → List ℕ → Outcome (List ℕ)
write_framed format p lent sizes coefficients =
    refuse_polynomials p format.limit (by_of format.of) 1 (entries_in format sizes coefficients)
    (refuse_room format.longest lent
    (accepted (framed_words format.head (entries_in format sizes coefficients))))

abbrev pub system_frame : Limits → Head → Format
system_frame limits h = record {
  head = head_word h;
  count = system_count h.shape.rows h.shape.columns h.sides;
  limit = limits.system_coefficients;
  stride = limits.system_coefficients;
  of = of.System;
  longest = longest_system limits;
}

abbrev pub certificate_frame : Limits → Shape → Form → Format
certificate_frame limits h form = record {
  head = form_word form;
  count = entry_count h form;
  limit = limits.certificate_coefficients;
  stride = certificate_stride;
  of = of.Certificate;
  longest = longest_certificate limits;
}

-- of what is written: that it may have so many right sides; the format, the most polynomials, and how far apart they lie
abbrev pub KindWithin : Limits → Kind → Type 0
KindWithin limits (kind.System sides) = MayBeSides limits sides
KindWithin limits (kind.Certificate form) = Unit

abbrev pub format_of : Limits → Shape → Kind → Format
format_of limits h (kind.System sides) = system_frame limits (record { shape = h; sides = sides })
format_of limits h (kind.Certificate form) = certificate_frame limits h (form_of form)

abbrev pub most_of : Limits → Kind → ℕ
most_of limits (kind.System sides) = system_count limits.rows limits.columns limits.sides
most_of limits (kind.Certificate form) = solution_count limits.rows limits.columns

abbrev pub stride_of : Limits → Kind → ℕ
stride_of limits (kind.System sides) = limits.system_coefficients
stride_of limits (kind.Certificate form) = certificate_stride

module _ (limits : Limits) (sizes coefficients : List ℕ) (lent : ℕ) where
  pub system_framed : (h : Head) → write_systems limits lent (system_in_arrays limits h sizes coefficients)
      ≡ refuse_sides limits h.sides
      (refuse_shape limits h.shape (write_framed (system_frame limits h) h.shape.modulus lent sizes coefficients))
  unfolding write_systems systems_words system_in_arrays
  system_framed h =
      ap (λ (fs : List (List ℕ)). refuse_sides limits h.sides
      (refuse_shape limits h.shape
      (refuse_polynomials h.shape.modulus limits.system_coefficients 0 1 fs
      (refuse_room (longest_system limits) lent
      (accepted (framed_words (head_word h) fs))))))
      (system_in_entries limits h sizes coefficients)

  pub certificate_framed : (h : Shape) (form : Form) → write_certificate limits lent h (certificate_in h form sizes coefficients)
      ≡ refuse_shape limits h (write_framed (certificate_frame limits h form) h.modulus lent sizes coefficients)
  unfolding write_certificate certificate_words
  certificate_framed h form =
      ap₂ (λ (head : Form) (fs : List (List ℕ)). refuse_shape limits h
      (refuse_polynomials h.modulus limits.certificate_coefficients 20 1 fs
      (refuse_room (longest_certificate limits) lent
      (accepted (framed_words (form_word head) fs)))))
      (certificate_in_form h sizes coefficients form)
      (certificate_in_entries h sizes coefficients form)
