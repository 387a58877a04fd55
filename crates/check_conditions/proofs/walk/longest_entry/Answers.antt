use Rattle.std.proofs.Common.{◌≡◌, ◌∙◌, ap, arith, rules, ℕ, zero, suc, ◌+◌, ◌*◌, ◌≤◌, ◌<◌, max, unwrap_or, length}
use mathlib.Core.Path.{refl}
use mathlib.Core.Logic.{⊎_elim}
use native.Mathlib.Nat.{eq-or-lt_of_le}
use Rattle.std.proofs.Math.Nat.{le-max_left, le-max_right, max-le}
use Rattle.std.proofs.lemmas.Iterator.{YieldsList-from_range, YieldsList-from_map}
use Rattle.std.proofs.lemmas.Iterator.Consumers.{reduce_from_yields_List}
use Rattle.std.proofs.lemmas.List.Folds.{max_of_map}
use Rattle.std.specs.List.{fold, range_with_len}
use Rattle.words.specs.Limits.{office}
use Rattle.loader.specs.Slot.{slot}
use Rattle.loader.specs.SlotLaws.{taken_size}
use Rattle.loader.specs.Widths.{system_width}
use Rattle.check_conditions.proofs.Terms.{row_filled}
use Rattle.check_conditions.proofs.walk.longest_entry.Goals as goal

-- the greatest of them
module _ (h : ℕ → ℕ) where
  abbrev greatest : ℕ → ℕ → ℕ → ℕ
  greatest a q n = fold (λ a x. max a (h x)) a (range_with_len q n)

  no_less : (a q n : ℕ) → a ≤ greatest a q n
  no_less a q zero = omega arith
  no_less a q (suc n) = omega (arith, le-max_left a (h q), no_less (max a (h q)) (q + 1) n)

  no_more : (most a q n : ℕ) → a ≤ most → ((j : ℕ) → q ≤ j → j < q + n → h j ≤ most) → greatest a q n ≤ most
  no_more most a q zero start each = start
  no_more most a q (suc n) start each =
      no_more most (max a (h q)) (q + 1) n (max-le start (each q (omega arith) (omega arith)))
      (λ j le lt. each j (omega arith) (omega arith))

  among : (a q n j : ℕ) → q ≤ j → j < q + n → h j ≤ greatest a q n
  among a q zero j le lt = absurd (omega arith)
  among a q (suc n) j le lt =
      ⊎_elim
      (λ (e : q ≡ j). omega (arith, ap h e, le-max_right a (h q), no_less (max a (h q)) (q + 1) n))
      (λ (l : q < j). among (max a (h q)) (q + 1) n j (omega arith) (omega arith))
      (eq-or-lt_of_le le)

pub returns : goal.returns
returns c =
    let S = c in
    let D = S.args.areas.now.dimensions in
    let h = λ (j : ℕ). length (slot system_width S.args.areas.now.system.now (S.args.i * D.columns + j)) in
    let columns = YieldsList-from_range 0 D.columns D.columns c.map.ensures.source (omega arith) in
    let is : c.unwrap_or.result ≡ greatest h 0 0 D.columns =
    c.unwrap_or.ensures
    ∙ ap (λ o. unwrap_or o 0) (reduce_from_yields_List _ c.map.result _ c.max.ensures.ran
    (YieldsList-from_map _ h columns c.map.ensures.closure (λ x r q k. search rules)))
    ∙ max_of_map h (range_with_len 0 D.columns) in
    let short : (j : ℕ) → j < D.columns → h j ≤ office.system_coefficients =
    λ j lt. omega (arith, taken_size refl (row_filled _ _ _ S.args.areas.now.loaded _ S.requires j lt)) in (
      omega (arith, is, no_more h office.system_coefficients 0 0 D.columns (omega arith) (λ j le lt. short j (omega arith))),
      λ j lt. omega (arith, is, among h 0 0 D.columns j (omega arith) (omega arith)),
    )
