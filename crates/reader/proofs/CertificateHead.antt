-- The head of a certificate, which is the first word: what is told at each test of the code.
use mathlib.Core.Path.{◌≡◌, refl, sym, ap, ◌∙◌}
use mathlib.Core.List.{List, [], ◌∷◌}
use Prim.Native.Nat.{ℕ, suc, ◌-◌, ◌≤◌, ◌<◌}
use native.Mathlib.Omega.{arith}
use lib.ListN.{length, get_or, drop, length-drop}
use lib.Seq.{drop-cons}
use borrow.Author.Tests.{eq-eqb, ne_eqb}
use Rattle.words.specs.Word.{kind, payload}
use Rattle.words.specs.Outcome.{Outcome}
use Rattle.words.specs.Outcome.Outcome.{accepted, refused}
use Rattle.words.specs.Reading.{outcome}
use Rattle.words.specs.Certificate.{Form, form_when, certificate_head_from}
use Rattle.words.specs.Certificate.Form.{solving, absent}

abbrev pub OfHead : List ℕ → Outcome Form
OfHead ws = outcome (length ws) (certificate_head_from ws)

pub head_missing : (ws : List ℕ) → length ws ≤ 0 → OfHead ws ≡ refused 24 0
unfolding certificate_head_from
head_missing [] e = refl
head_missing (w ∷ ws) e = absurd (omega arith)

module _ (ws : List ℕ) (w : ℕ) (some : 0 < length ws) (is : w ≡ get_or ws 0 0) where
  step : OfHead ws ≡ outcome (length ws) (certificate_head_from (w ∷ drop 1 ws))
  step =
      ap (λ (v : List ℕ). outcome (length ws) (certificate_head_from v))
      (drop-cons ws 0 0 (omega arith) ∙ ap (λ (x : ℕ). x ∷ drop 1 ws) (sym is))

  place : length ws - suc (length (drop 1 ws)) ≡ 0
  place = omega (arith, length-drop 1 ws)

  pub head_kind : (kind w ≡ 5 → ⊥) → OfHead ws ≡ refused 21 0
  unfolding certificate_head_from
  head_kind k = step ∙ simp (ne_eqb _ _ k, place)

  module _ (five : kind w ≡ 5) where
    pub head_solution : payload w ≡ 1 → OfHead ws ≡ accepted solving
    unfolding certificate_head_from form_when
    head_solution e = step ∙ simp (eq-eqb _ _ five, eq-eqb _ _ e)

    module _ (other : payload w ≡ 1 → ⊥) where
      pub head_absence : payload w ≡ 2 → OfHead ws ≡ accepted absent
      unfolding certificate_head_from form_when
      head_absence e = step ∙ simp (eq-eqb _ _ five, ne_eqb _ _ other, eq-eqb _ _ e)

      pub head_form : (payload w ≡ 2 → ⊥) → OfHead ws ≡ refused 21 0
      unfolding certificate_head_from
      head_form e = step ∙ simp (eq-eqb _ _ five, ne_eqb _ _ other, ne_eqb _ _ e, place)
