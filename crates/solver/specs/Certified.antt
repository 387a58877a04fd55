-- The chosen certificate in the solver's output area, for a line that was read.
use Rattle.std.specs.Prelude.{ℕ, ◌≡◌, Bool, List}
use Rattle.std.proofs.Common.{sym, ap, ◌∙◌}
use Rattle.std.proofs.Math.Path.{subst}
use Rattle.words.specs.Limits.{office}
use Rattle.words.specs.Outcome.{Outcome, mapped}
use Rattle.words.specs.Outcome.Outcome.{accepted, refused}
use Rattle.words.specs.System.{System, Shape, shape}
use Rattle.words.specs.Systems.{read_line}
use Rattle.words.specs.Certificate.{CertificateWithin, form_when}
use Rattle.truth.specs.Solution.{Answers}
use Rattle.truth.specs.Chosen.{Chosen}
use Rattle.solve_lattice.specs.Output.{ValidOutput}
use Rattle.solve_meaning.specs.Taken.{taken_certificate}
use Rattle.solve_meaning.specs.Answers.{answer_of}

-- reading line k of the words gives a system of that shape
abbrev pub HasShape : Shape → (k : ℕ) → List ℕ → Type 0
HasShape h k ws = mapped shape (read_line office k ws) ≡ accepted h

pub record CertifiedOutput (s : System) (output : List ℕ) (solved : Bool) : Type 0 where
  pub valid : ValidOutput s.modulus output
  pub within : CertificateWithin office (shape s) (taken_certificate (shape s) (form_when solved) output)
  pub chosen : Chosen s (taken_certificate (shape s) (form_when solved) output)
  pub answers : Answers s (answer_of (taken_certificate (shape s) (form_when solved) output))

-- what was read is certified; a refusal is not
unfoldable pub CertifiedRead : Outcome System → (output : List ℕ) (solved : Bool) → Type 0
CertifiedRead (accepted s) output solved = CertifiedOutput s output solved
CertifiedRead (refused number place) output solved = ⊥

-- the system that was read, and this is its shape
pub record Read (h : Shape) (k : ℕ) (ws : List ℕ) : Type 0 where
  pub system : System
  pub read : read_line office k ws ≡ accepted system
  pub same_shape : h ≡ shape system

pub read_told : {h : Shape} {k : ℕ} {ws : List ℕ} → Read h k ws → HasShape h k ws
read_told R = ap (mapped shape) R.read ∙ ap accepted (sym R.same_shape)

module _ {o : Outcome System} {s : System} (is : o ≡ accepted s) {output : List ℕ} {solved : Bool} where
  pub certified_of : CertifiedOutput s output solved → CertifiedRead o output solved
  unfolding CertifiedRead
  certified_of C = subst (λ o. CertifiedRead o output solved) (sym is) C

  pub certified_at : CertifiedRead o output solved → CertifiedOutput s output solved
  unfolding CertifiedRead
  certified_at C = subst (λ o. CertifiedRead o output solved) is C
