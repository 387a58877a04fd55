-- The certificate in the output area, written: what `solve_read` gives.
use mathlib.Core.Path.{◌≡◌, sym, ap₂, subst}
use mathlib.Core.Bool.{Bool}
use mathlib.Core.List.{List}
use Prim.Native.Nat.{ℕ}
use Rattle.words.specs.Limits.{office}
use Rattle.words.specs.Outcome.Outcome.{accepted}
use Rattle.words.specs.System.{System, Shape, shape}
use Rattle.words.specs.Systems.{read_line}
use Rattle.words.specs.Certificate.{Form, form_when, certificate_words}
use Rattle.truth.specs.Chosen.{chosen_right}
use Rattle.write_frame.specs.Framing.{Wrote}
use Rattle.solve_lattice.specs.Output.{ValidOutput}
use Rattle.solve_meaning.specs.Taken.{taken_certificate}
use Rattle.solver.specs.Solving.{Gives}
use Rattle.solver.specs.Certified.{Read, CertifiedRead, certified_at}
use Rattle.solver.proofs.CertifiedWords.{same_shape}

module _ {h : Shape} {k : ℕ} {ws : List ℕ} (R : Read h k ws) (output : List ℕ) (solved : Bool)
    (certified : CertifiedRead (read_line office k ws) output solved) where
  pub output_valid : ValidOutput h.modulus output
  output_valid = subst (λ (g : Shape). ValidOutput g.modulus output) (sym R.same_shape)
      (certified_at R.read certified).valid

  pub gives : {form : Form} → form ≡ form_when solved → (entry exit : List ℕ) (count : ℕ)
      → Wrote (certificate_words (taken_certificate h form output)) entry exit count
      → (s : System) → read_line office k ws ≡ accepted s → Gives office certificate_words s entry exit count
  gives {form} is entry exit count wrote s e =
      let C = certified_at e certified in
      let W = subst (λ c. Wrote (certificate_words c) entry exit count)
      (ap₂ (λ g f. taken_certificate g f output) (same_shape R e) is) wrote in
      record {
        given = record {
          certificate = taken_certificate (shape s) (form_when solved) output;
          within = C.within;
          right = chosen_right s (taken_certificate (shape s) (form_when solved) output) C.chosen;
          answers = C.answers;
          words = W.words;
          same_count = W.count;
        };
        chosen = C.chosen;
      }
