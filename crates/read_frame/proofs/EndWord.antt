-- The end word, at word `at`: what is told at each test of the code.
use mathlib.Core.Path.{◌≡◌, refl, ap, ◌∙◌}
use mathlib.Core.List.{List, [], ◌∷◌}
use Prim.Native.Nat.{ℕ, suc, ◌+◌, ◌-◌, ◌≤◌, ◌<◌}
use native.Mathlib.Omega.{arith}
use lib.ListN.{length, get_or, drop, length-drop, drop_of_length-le}
use lib.Seq.{drop-cons}
use borrow.Author.Tests.{eq-eqb, ne_eqb}
use Rattle.words.specs.Word.{kind, payload}
use Rattle.words.specs.Outcome.{Outcome}
use Rattle.words.specs.Outcome.Outcome.{accepted, refused}
use Rattle.words.specs.Reading.{words_used}
use Rattle.words.specs.Frame.{nothing_from, end_from}

abbrev pub OfEnd : List ℕ → ℕ → Outcome ℕ
OfEnd ws at = words_used (length ws) (end_from (length ws) (drop at ws))

pub end_missing : (ws : List ℕ) (at : ℕ) → at ≤ length ws → length ws ≤ at → OfEnd ws at ≡ refused 4 at
unfolding end_from
end_missing ws at within e = rw (drop_of_length-le ws {i = at} e) (ap (refused 4) (omega arith))

nothing_none : (total : ℕ) (ws : List ℕ) → length ws ≡ 0 → words_used total (nothing_from ws) ≡ accepted (total - 0)
nothing_none total [] e = refl
nothing_none total (w ∷ ws) e = absurd (omega arith)

nothing_some : (total : ℕ) (ws : List ℕ) → (length ws ≡ 0 → ⊥) → words_used total (nothing_from ws) ≡ refused 9 (total - length ws)
nothing_some total [] e = absurd (e refl)
nothing_some total (w ∷ ws) e = refl

module _ (ws : List ℕ) (at : ℕ) (reach : at < length ws) where
  step : OfEnd ws at ≡ words_used (length ws) (end_from (length ws) (get_or ws at 0 ∷ drop (suc at) ws))
  step = rw (drop-cons ws at 0 reach) refl

  place : length ws - suc (length (drop (suc at) ws)) ≡ at
  place = omega (arith, length-drop (suc at) ws)

  pub end_kind : (kind (get_or ws at 0) ≡ 4 → ⊥) → OfEnd ws at ≡ refused 5 at
  unfolding end_from
  end_kind k = step ∙ simp (ne_eqb _ _ k, place)

  module _ (four : kind (get_or ws at 0) ≡ 4) where
    pub end_payload : (payload (get_or ws at 0) ≡ at + 1 → ⊥) → OfEnd ws at ≡ refused 9 at
    unfolding end_from
    end_payload h =
        let n : (payload (get_or ws at 0) ≡ length ws - length (drop (suc at) ws) → ⊥) =
        λ e. h (omega (arith, length-drop (suc at) ws)) in
        step ∙ simp (eq-eqb _ _ four, ne_eqb _ _ n, place)

    module _ (right : payload (get_or ws at 0) ≡ at + 1) where
      counted : payload (get_or ws at 0) ≡ length ws - length (drop (suc at) ws)
      counted = omega (arith, length-drop (suc at) ws)

      passed : OfEnd ws at ≡ words_used (length ws) (nothing_from (drop (suc at) ws))
      unfolding end_from
      passed = step ∙ simp (eq-eqb _ _ four, eq-eqb _ _ counted)

      pub end_follows : at + 1 < length ws → OfEnd ws at ≡ refused 9 (at + 1)
      end_follows h =
          passed ∙ nothing_some (length ws) (drop (suc at) ws) (λ e. omega (arith, length-drop (suc at) ws))
          ∙ ap (refused 9) (omega (arith, length-drop (suc at) ws))

      pub end_right : length ws ≤ at + 1 → OfEnd ws at ≡ accepted (at + 1)
      end_right h =
          passed ∙ nothing_none (length ws) (drop (suc at) ws) (omega (arith, length-drop (suc at) ws))
          ∙ ap accepted (omega arith)
