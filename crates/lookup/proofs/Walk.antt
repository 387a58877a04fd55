-- The walk over the start words: where it ends, and what it leads to.
use mathlib.Core.Path.{◌≡◌, refl, sym, ap, ap₂, ◌∙◌}
use mathlib.Core.List.{List}
use Prim.Native.Nat.{ℕ, zero, suc, ◌+◌, ◌-◌, ◌≤◌, ◌<◌}
use native.Mathlib.Omega.{arith}
use lib.ListN.{length, get_or}
use Rattle.words.specs.Word.{kind, payload}
use Rattle.words.specs.Outcome.Outcome.{accepted, refused}
use Rattle.words.specs.Starts.{start_place, start_next, start_stays}
use Rattle.lookup.specs.Standing.{StartsInside, part_in}
use Rattle.lookup.specs.StandingLaws.{part_none, part_some}

-- ---- a place that it has reached

module _ (ws : List ℕ) (k : ℕ) {at : ℕ} (reached : at ≡ start_place ws k) where
  pub reached_inside : StartsInside ws → at < length ws
  reached_inside inside = rw reached (inside k)

  -- a start word, with so many coefficients behind it
  pub reached_next : kind (get_or ws at 0) ≡ 2 → (count : ℕ) → count ≡ payload (get_or ws at 0) → (j : ℕ) → j ≡ suc k
      → at + 1 + count ≡ start_place ws j
  reached_next two count counted j e =
      let same = ap (λ a. payload (get_or ws a 0)) reached in
      let next = start_next ws k (rw (← reached) two) in
      omega (arith, ap (start_place ws) e)

  -- a word of another kind ends it
  stays : (kind (get_or ws at 0) ≡ 2 → ⊥) → (j : ℕ) → at ≡ start_place ws (k + j)
  stays other zero = let e : k ≡ k + 0 = omega arith in reached ∙ ap (start_place ws) e
  stays other (suc j) =
      let e : suc (k + j) ≡ k + suc j = omega arith in
      let same = stays other j in
      same ∙ sym (start_stays ws (k + j) (rw (← same) other)) ∙ ap (start_place ws) e

  pub reached_end : (kind (get_or ws at 0) ≡ 2 → ⊥) → (j : ℕ) → k ≤ j → at ≡ start_place ws j
  reached_end other j past = let e : k + (j - k) ≡ j = omega arith in stays other (j - k) ∙ ap (start_place ws) e

-- by the place and by the number of coefficients that the word there says
module _ (ws : List ℕ) (k : ℕ) {at : ℕ} (reached : at ≡ start_place ws k) where
  pub reached_none : (kind (get_or ws at 0) ≡ 2 → ⊥) → refused 12 0 ≡ part_in ws k
  reached_none other = part_none ws k (rw (← reached) other)

  pub reached_some : kind (get_or ws at 0) ≡ 2 → (count : ℕ) → count ≡ payload (get_or ws at 0)
      → accepted (at, at + 1 + count) ≡ part_in ws k
  reached_some two count counted =
      ap₂ (λ from to. accepted (from, to)) reached (reached_next ws k reached two count counted (suc k) refl)
      ∙ part_some ws k (rw (← reached) two)
