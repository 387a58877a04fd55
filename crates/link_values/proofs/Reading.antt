-- The kind of a certificate, from what is read.
use mathlib.Core.Path.{◌≡◌, sym, ap, ◌∙◌}
use mathlib.Core.List.{List}
use Prim.Native.Nat.{ℕ}
use Rattle.words.specs.Limits.{office}
use Rattle.words.specs.Outcome.Outcome.{accepted, refused}
use Rattle.words.specs.Systems.{Head, Systems, read_systems}
use Rattle.words.specs.Certificate.{Form, read_certificate}
use Rattle.reader.specs.BothRead.{BothWhole}
use Rattle.answers.specs.Heads.{kind_number}
use Rattle.link_values.specs.Files.{kind_of, read_both}
use Rattle.link_values.specs.FilesLaws.{both_system_refused, both_certificate_refused, both_accepted}

module _ (ws cs : List ℕ) where
  pub refused_system : {number place : ℕ} → read_systems office ws ≡ refused number place
      → refused number place ≡ kind_of (read_both office ws cs)
  refused_system e = sym (ap kind_of (both_system_refused office ws cs e))

  pub refused_certificate : {s : Systems} {number place : ℕ} → read_systems office ws ≡ accepted s
      → read_certificate office s.head.shape cs ≡ refused number place
      → refused number place ≡ kind_of (read_both office ws cs)
  refused_certificate e r = sym (ap kind_of (both_certificate_refused office ws cs e r))

  pub kind_read : {h : Head} {form : Form} → BothWhole h form ws cs → {n : ℕ} → n ≡ kind_number form
      → accepted n ≡ kind_of (read_both office ws cs)
  kind_read both is =
      ap accepted (is ∙ ap kind_number both.same_form)
      ∙ sym (ap kind_of (both_accepted office ws cs both.system_read both.certificate_read))
