-- What the readers tell, with limits that are the office's, in the terms of the readings: a sheet or one line of it first, then the
-- certificate for it.
use Rattle.std.specs.Prelude.{◌≡◌, List, ℕ}
use Rattle.std.proofs.Common.{sym, ap, ◌∙◌}
use Rattle.words.specs.Limits.{Limits, office}
use Rattle.words.specs.Outcome.{Outcome, mapped}
use Rattle.words.specs.Outcome.Outcome.{accepted, refused}
use Rattle.words.specs.OutcomeLaws.{mapped_accepted, mapped_refused}
use Rattle.words.specs.System.{Shape}
use Rattle.words.specs.Certificate.{Form, certificate_form, read_certificate}
use Rattle.reader.specs.BothRead.{ReadWith}

module _ {S H : Type 0} (reading : Limits → List ℕ → Outcome S) (says : S → H) (ws : List ℕ) (limits : Limits)
    (is : limits ≡ office) {told : Outcome H} (tells : told ≡ mapped says (reading limits ws)) where
  pub system_told : told ≡ mapped says (reading office ws)
  system_told = tells ∙ ap (λ (l : Limits). mapped says (reading l ws)) is

  pub system_refused : {number place : ℕ} → told ≡ refused number place → reading office ws ≡ refused number place
  system_refused e = mapped_refused says _ (sym system_told ∙ e)

  module _ {h : H} (e : told ≡ accepted h) where
    pub system_read : (s : S) × (reading office ws ≡ accepted s) × (says s ≡ h)
    system_read = mapped_accepted says _ (sym system_told ∙ e)

    module _ (shape_in : H → Shape) (cs : List ℕ) (limits' : Limits) (is' : limits' ≡ office) {told' : Outcome Form}
        (tells' : told' ≡ mapped certificate_form (read_certificate limits' (shape_in h) cs)) where
      certificate_told : told' ≡ mapped certificate_form (read_certificate office (shape_in (says system_read.0)) cs)
      certificate_told =
          tells' ∙ ap (λ (l : Limits). mapped certificate_form (read_certificate l (shape_in h) cs)) is'
          ∙ ap (λ (g : H). mapped certificate_form (read_certificate office (shape_in g) cs)) (sym system_read.2)

      pub certificate_refused : {number place : ℕ} → told' ≡ refused number place
          → read_certificate office (shape_in (says system_read.0)) cs ≡ refused number place
      certificate_refused r = mapped_refused certificate_form _ (sym certificate_told ∙ r)

      pub both_read : {form : Form} → told' ≡ accepted form → ReadWith (reading office ws) says shape_in h form cs
      both_read r =
          let found = mapped_accepted certificate_form _ (sym certificate_told ∙ r) in
          record {
            system = system_read.0;
            certificate = found.0;
            system_read = system_read.1;
            certificate_read = found.1;
            same_head = sym system_read.2;
            same_form = sym found.2;
          }
