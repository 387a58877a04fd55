-- What may be counted on behind the reading of a sheet, or of one line of it, and of a certificate for it.
use Rattle.std.specs.Prelude.{◌≡◌, List, ℕ}
use Rattle.words.specs.Limits.{office}
use Rattle.words.specs.Outcome.{Outcome}
use Rattle.words.specs.Outcome.Outcome.{accepted}
use Rattle.words.specs.System.{Shape, shape}
use Rattle.words.specs.Systems.{Head, systems_head, read_systems, read_line}
use Rattle.words.specs.Certificate.{Certificate, Form, certificate_form, read_certificate}

-- what was read says h, with which certificates are read; a certificate was read, and this is its form
pub record ReadWith {S H : Type 0} (reading : Outcome S) (says : S → H) (shape_in : H → Shape) (h : H) (form : Form) (cs : List ℕ)
    : Type 0 where
  pub system : S
  pub certificate : Certificate
  pub system_read : reading ≡ accepted system
  pub certificate_read : read_certificate office (shape_in (says system)) cs ≡ accepted certificate
  pub same_head : h ≡ says system
  pub same_form : form ≡ certificate_form certificate

-- a sheet with this head
abbrev pub BothWhole : Head → Form → (ws cs : List ℕ) → Type 0
BothWhole h form ws cs = ReadWith (read_systems office ws) systems_head (λ g. g.shape) h form cs

-- line k, of this shape
abbrev pub BothLine : ℕ → Shape → Form → (ws cs : List ℕ) → Type 0
BothLine k h form ws cs = ReadWith (read_line office k ws) shape (λ g. g) h form cs
