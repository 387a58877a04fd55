-- A sheet with a right side, from what is told of the whole sheet and whether it has it; and its line.
use mathlib.Core.Path.{◌≡◌, refl, sym, ap, ◌∙◌}
use mathlib.Core.Bool.{Bool, not}
use mathlib.Core.List.{List}
use Prim.Native.Nat.{ℕ, ◌≤◌, ◌<◌}
use native.Mathlib.Omega.{arith}
use lib.Dec.{ltb}
use borrow.Author.Tests.{lt-ltb, le-ltb}
use Rattle.words.specs.Limits.{Limits}
use Rattle.words.specs.Outcome.{Outcome, mapped, followed_by, refuse}
use Rattle.words.specs.Outcome.Outcome.{accepted, refused}
use Rattle.words.specs.OutcomeLaws.{mapped_accepted, mapped_refused}
use Rattle.words.specs.System.{shape}
use Rattle.words.specs.Systems.{Head, Systems, systems_head, read_systems, line, read_line}
use Rattle.words.specs.Kept.{sided_of, read_sided}
use Rattle.words.proofs.KeptLaws.{line_sided}
use Rattle.std.specs.Prelude.{Result, Ok, Err, MatchResult, IsOkAnd}
use Rattle.answers.specs.declared.answer.Refusal.{Refusal}
use Rattle.answers.specs.declared.shape.Shape.{Shape as ShapeValue}
use Rattle.answers.specs.declared.shape.Head.{Head as HeadValue}
use Rattle.answers.specs.Answer.{shape_of, system_outcome, line_outcome}

module _ (limits : Limits) (k : ℕ) (ws : List ℕ) where
  -- what is told, where the sheet is read as s
  of_read : (s : Systems) → read_systems limits ws ≡ accepted s
      → mapped systems_head (read_sided limits k ws) ≡ mapped systems_head (sided_of k s)
  unfolding read_sided
  of_read s e = ap (λ o. mapped systems_head (followed_by o (sided_of k))) e

  module _ (h : Head) (told : accepted h ≡ mapped systems_head (read_systems limits ws)) where
    abbrev found : (s : Systems) × (read_systems limits ws ≡ accepted s) × (systems_head s ≡ h)
    found = mapped_accepted systems_head (read_systems limits ws) (sym told)

    abbrev sides_same : found.0.head.sides ≡ h.sides
    sides_same = ap (λ (g : Head). g.sides) found.2

    by_test : {b : Bool} → not (ltb k found.0.head.sides) ≡ b
        → mapped systems_head (read_sided limits k ws) ≡ mapped systems_head (refuse b 40 0 (accepted found.0))
    by_test e = of_read found.0 found.1 ∙ ap (λ b. mapped systems_head (refuse b 40 0 (accepted found.0))) e

    pub sided_has : k < h.sides → mapped systems_head (read_sided limits k ws) ≡ accepted h
    sided_has has =
        by_test (ap not (lt-ltb k found.0.head.sides (omega (arith, sides_same)))) ∙ ap accepted found.2

    pub sided_missing : h.sides ≤ k → mapped systems_head (read_sided limits k ws) ≡ refused 40 0
    sided_missing few = by_test (ap not (le-ltb k found.0.head.sides (omega (arith, sides_same))))

  pub sided_refused : (number place : ℕ) → refused number place ≡ mapped systems_head (read_systems limits ws)
      → mapped systems_head (read_sided limits k ws) ≡ refused number place
  unfolding read_sided
  sided_refused number place told =
      ap (λ o. mapped systems_head (followed_by o (sided_of k))) (mapped_refused systems_head (read_systems limits ws) (sym told))

  -- the shape of its line
  pub line_shape : {o : Outcome Head} → o ≡ mapped systems_head (read_sided limits k ws)
      → mapped (λ (h : Head). h.shape) o ≡ mapped shape (read_line limits k ws)
  unfolding line
  line_shape told =
      ap (mapped (λ (h : Head). h.shape)) told ∙ each (read_sided limits k ws) ∙ sym (ap (mapped shape) (line_sided limits k ws))
    where
      each : (o : Outcome Systems)
          → mapped (λ (h : Head). h.shape) (mapped systems_head o) ≡ mapped shape (mapped (λ (s : Systems). line s k) o)
      each (accepted s) = refl
      each (refused number place) = refl

-- what is handed out of what was told
pub line_mapped : (told : Result HeadValue Refusal) (r : Result ShapeValue Refusal) (Q : HeadValue → ShapeValue → Type 0)
    → MatchResult told (λ h. IsOkAnd r (Q h)) (λ e. r ≡ Err e) → ((h : HeadValue) (x : ShapeValue) → Q h x → x ≡ h.shape)
    → line_outcome r ≡ mapped (λ (h : Head). h.shape) (system_outcome told)
line_mapped (Ok h) (Ok x) Q k e = ap (λ (s : ShapeValue). accepted (shape_of s)) (e h x k)
line_mapped (Ok h) (Err x) Q k e = absurd k
line_mapped (Err x) r Q k e = ap line_outcome k
