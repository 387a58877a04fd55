-- The certificate taken from the area is the chosen one, so right, and keeps the limits, where the area holds it.
use Rattle.std.specs.Prelude.{ℕ, ◌+◌, Bool, List}
use Rattle.std.proofs.Common.{sym, zero-add}
use Rattle.std.proofs.Math.Path.{subst}
use Rattle.std.proofs.Math.Bool.{true, false}
use Rattle.algebra.specs.Size.{sized}
use Rattle.modular.specs.Prime.{Prime}
use Rattle.modular.specs.Primality.{prime_positive}
use Rattle.modular.specs.Residue.{residues}
use Rattle.reduction.specs.System.{LinearSystem}
use Rattle.words.specs.Limits.{Limits, office}
use Rattle.words.specs.System.{System, SystemWithin, shape}
use Rattle.words.specs.Certificate.{CertificateWithin, Form, form_when}
use Rattle.truth.specs.Chosen.{Chosen}
use Rattle.solve_lattice.specs.Output.{HoldsAt, HoldsCertificate}
use Rattle.solve_meaning.specs.Equations.{equated}
use Rattle.solve_meaning.specs.ChosenLists.{solution_chosen, absence_chosen}
use Rattle.solve_meaning.specs.Taken.{taken_certificate}
use Rattle.solve_meaning.specs.TakenLaws.{taken_count, taken_list, taken_lists, certificate_taken}

module _ (limits : Limits) (s : System) (h : SystemWithin limits s) (output : List ℕ) where
  abbrev p : ℕ
  p = s.modulus

  abbrev prime : Prime s.modulus
  prime = h.shape.prime

  abbrev T : LinearSystem (sized (residues s.modulus h.shape.prime))
  T = equated limits s h

  pub taken_chosen : (solved : Bool) → HoldsCertificate s.modulus h.shape.prime T output solved
      → Chosen s (taken_certificate (shape s) (form_when solved) output)
  unfolding HoldsCertificate taken_certificate form_when Chosen
  taken_chosen true H = solution_chosen limits s h H.d H.w H.N H.Z _ _ _ _
      (taken_list p prime output 0 H.d H.holds_d H.small.denominator)
      (taken_list p prime output (1 + s.columns) H.w H.holds_w H.small.certifying_denominator_lem)
      (taken_count p output 1 s.columns)
      (taken_lists p prime output 1 s.columns H.N H.holds_N H.small.numerators)
      (taken_count p output (2 + s.columns) s.rows)
      (taken_lists p prime output (2 + s.columns) s.rows H.Z H.holds_Z H.small.certifying_numerators_lem)
      H.certifying H.right H.reduced
  taken_chosen false H = absence_chosen limits s h _ (taken_count p output 0 s.rows)
      (taken_lists p prime output 0 s.rows H.q
      (λ i k. subst (λ n. HoldsAt p prime output n (H.q i)) (sym (zero-add i)) (H.holds_q i k)) H.small)
      H.right H.killing H.monic

  -- whatever the words are, and whatever limits the system keeps: no more than 121 words are looked at
  pub taken_within : (form : Form) → CertificateWithin office (shape s) (taken_certificate (shape s) form output)
  taken_within form = certificate_taken (shape s) form output (prime_positive p prime)
