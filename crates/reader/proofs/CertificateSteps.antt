-- A whole certificate, from what is told of its head and of the words behind it.
use mathlib.Core.Path.{◌≡◌, refl, sym, ap, ◌∙◌}
use mathlib.Core.List.{List}
use Prim.Native.Nat.{ℕ, ◌+◌, ◌≤◌}
use native.Mathlib.Omega.{arith}
use lib.ListN.{length, drop, length-drop}
use Rattle.words.specs.Limits.{Limits}
use Rattle.words.specs.Outcome.{Outcome, mapped}
use Rattle.words.specs.Outcome.Outcome.{accepted, refused}
use Rattle.words.specs.Reading.{outcome, words_used}
use Rattle.words.specs.Reading.Reading.{read}
use Rattle.words.specs.Frame.{body_from, framed_from}
use Rattle.words.specs.System.{Shape}
use Rattle.words.specs.Certificate.{Form, certificate_form, certificate_head_from, entry_count, certificate_due, certificate_as}
use Rattle.words.specs.Certificate.{certificate_of, certificate_from, read_certificate}
use Rattle.words.specs.Certificate.Form.{solving, absent}
use Rattle.words.proofs.CertificateLaws.{certificate_from_shown, form_read}
use Rattle.words.proofs.ForwardLaws.{forward_more, body_forward, forward_refused}
use Rattle.read_frame.specs.Due.{due_of}
use Rattle.reader.proofs.FrameSteps.{mapped_outcome, OfFrame, OfBody, frame_head_refused, frame_some, frame_body_refused}
use Rattle.reader.proofs.FrameSteps.{frame_read}

form_kept : (h : Shape) (form : Form) (fs : List (List ℕ)) → certificate_form (certificate_as h form fs) ≡ form
unfolding certificate_form certificate_as
form_kept h solving fs = refl
form_kept h absent fs = refl

module _ (limits : Limits) (h : Shape) (ws : List ℕ) where
  one_word : (form : Form) (rest : List ℕ) → certificate_head_from ws ≡ read form rest → (1 ≤ length ws) × (rest ≡ drop 1 ws)
  one_word form rest e = let r = form_read ws form rest e in (omega (arith, ap length r), sym (ap (drop 1) r))

  abbrev pub OfCertificate : Outcome Form
  OfCertificate = mapped certificate_form (read_certificate limits h ws)

  shown : OfCertificate ≡ OfFrame 20 certificate_head_from (certificate_due limits h) ws
  unfolding certificate_from
  shown =
      ap (mapped certificate_form) (certificate_from_shown limits h ws)
      ∙ mapped_outcome (length ws) (framed_from 20 certificate_head_from (certificate_due limits h) ws)
      (certificate_of h) certificate_form (λ v. v.head)
      (λ v. form_kept h v.head v.entries)

  pub certificate_head_refused : (number place : ℕ) → refused number place ≡ outcome (length ws) (certificate_head_from ws)
      → OfCertificate ≡ refused number place
  certificate_head_refused number place t =
      shown ∙ frame_head_refused 20 certificate_head_from (certificate_due limits h) ws number place t

  module _ (form : Form) (told : accepted form ≡ outcome (length ws) (certificate_head_from ws)) where
    pub certificate_some : 1 ≤ length ws
    certificate_some = frame_some 20 certificate_head_from (certificate_due limits h) ws one_word form told

    -- the words behind the head, with the number of polynomials that the code counted
    module _ (count : ℕ) (counted : count ≡ entry_count h form) where
      abbrev pub OfEntries : Outcome ℕ
      OfEntries =
          words_used (length ws) (body_from (due_of h.modulus limits.certificate_coefficients count) (length ws) (drop 1 ws))

      same : OfEntries ≡ OfBody 20 certificate_head_from (certificate_due limits h) ws form
      same =
          ap (λ (n : ℕ). words_used (length ws) (body_from (due_of h.modulus limits.certificate_coefficients n) (length ws)
          (drop 1 ws))) counted

      pub certificate_body_refused : (number place : ℕ) → refused number place ≡ OfEntries
          → (number ≤ 9) × (OfCertificate ≡ refused (number + 20) place)
      certificate_body_refused number place t =
          let due = due_of h.modulus limits.certificate_coefficients count in
          let f = forward_more (length ws) (omega (arith, length-drop 1 ws)) (body_forward due (length ws) (drop 1 ws)) in (
            (forward_refused (length ws) (body_from due (length ws) (drop 1 ws)) number place f t).0,
            shown ∙ frame_body_refused 20 certificate_head_from (certificate_due limits h) ws one_word form told number place
                (t ∙ same),
          )

      pub certificate_read : (used : ℕ) → accepted used ≡ OfEntries → OfCertificate ≡ accepted form
      certificate_read used t =
          shown ∙ frame_read 20 certificate_head_from (certificate_due limits h) ws one_word form told used (t ∙ same)
