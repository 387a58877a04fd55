-- A turn of the loop over the coefficients: what is told of those that are still due, from the word at which the loop stands.
use mathlib.Core.Path.{◌≡◌, refl, sym, ap, ap₂, ◌∙◌}
use mathlib.Core.Bool.{false, ◌&&◌}
use mathlib.Core.List.{List, ◌∷◌}
use Prim.Native.Nat.{ℕ, zero, suc, ◌+◌, ◌-◌, ◌≤◌, ◌<◌}
use native.Mathlib.Numerals.{add-one}
use native.Mathlib.Omega.{arith}
use lib.ListN.{length, get_or, drop, length-drop, drop_of_length-le}
use lib.Seq.{drop-cons}
use lib.Dec.{eqb}
use borrow.Author.Tests.{eq-eqb, ne_eqb, le-leb, lt-leb}
use Rattle.words.specs.Word.{kind, payload}
use Rattle.words.specs.Outcome.{Outcome}
use Rattle.words.specs.Outcome.Outcome.{accepted, refused}
use Rattle.words.specs.Reading.{words_used}
use Rattle.words.specs.Polynomial.{coefficients_from}
use Rattle.words.specs.ReadingLaws.{words_used_map}

-- `count` coefficients stand in the words from 1 on; those from `at` on are due
abbrev pub Due : (ws : List ℕ) (p count at : ℕ) → Outcome ℕ
Due ws p count at = words_used (length ws) (coefficients_from p (count + 1 - at) (drop at ws))

and_no : (a b : ℕ) → (a ≡ 0 → b ≡ 0 → ⊥) → eqb a 0 && eqb b 0 ≡ false
and_no zero b h = simp (ne_eqb b 0 (h refl))
and_no (suc a) b h = simp (ne_eqb (suc a) 0 (λ e. omega arith))

module _ (ws : List ℕ) (p count at : ℕ) (turn : at < count + 1) where
  due : count + 1 - at ≡ suc (count - at)
  due = omega arith

  pub due_missing : at ≤ length ws → length ws ≤ at → Due ws p count at ≡ refused 4 at
  unfolding coefficients_from
  due_missing within e = rw (due, drop_of_length-le ws {i = at} e) (ap (refused 4) (omega arith))

  module _ (in_reach : at < length ws) where
    step : Due ws p count at ≡ words_used (length ws) (coefficients_from p (suc (count - at)) (get_or ws at 0 ∷ drop (suc at) ws))
    step = rw (due, drop-cons ws at 0 in_reach) refl

    place : length ws - suc (length (drop (suc at) ws)) ≡ at
    place = omega (arith, length-drop (suc at) ws)

    pub due_kind : (kind (get_or ws at 0) ≡ 3 → ⊥) → Due ws p count at ≡ refused 5 at
    unfolding coefficients_from
    due_kind k = step ∙ simp (ne_eqb _ _ k, place)

    module _ (three : kind (get_or ws at 0) ≡ 3) where
      pub due_large : p ≤ payload (get_or ws at 0) → Due ws p count at ≡ refused 7 at
      unfolding coefficients_from
      due_large h = step ∙ simp (eq-eqb _ _ three, le-leb _ _ h, place)

      module _ (below : payload (get_or ws at 0) < p) where
        pub due_last : payload (get_or ws at 0) ≡ 0 → at ≡ count → Due ws p count at ≡ refused 8 at
        unfolding coefficients_from
        due_last z l =
            let n : count - at ≡ 0 = omega arith in
            step ∙ simp (eq-eqb _ _ three, lt-leb _ _ below, eq-eqb _ _ z, eq-eqb _ _ n, place)

        due_next : (at ≡ count → payload (get_or ws at 0) ≡ 0 → ⊥) → Due ws p count at ≡ Due ws p count (at + 1)
        unfolding coefficients_from
        due_next h =
            let n : count + 1 - (at + 1) ≡ count - at = omega arith in
            step
            ∙ simp (eq-eqb _ _ three, lt-leb _ _ below, and_no (count - at) (payload (get_or ws at 0)) (λ a b. h (omega arith) b))
            (words_used_map (length ws) (coefficients_from p (count - at) (drop (suc at) ws)) (λ f. payload (get_or ws at 0) ∷ f))
            ∙ ap₂ (λ (a b : ℕ). words_used (length ws) (coefficients_from p a (drop b ws))) (sym n) (sym (add-one at))

-- the loop's invariant: what is told of all is what is told of those that are due
pub record Reached (ws : List ℕ) (p count at : ℕ) : Type 0 where
  pub low : 1 ≤ at
  pub high : at ≤ count + 1
  pub within : at ≤ length ws
  pub same : words_used (length ws) (coefficients_from p count (drop 1 ws)) ≡ Due ws p count at

pub reached_start : (ws : List ℕ) (p count : ℕ) → 1 ≤ length ws → Reached ws p count 1
reached_start ws p count h =
    let n : count ≡ count + 1 - 1 = omega arith in
    record {
      low = omega arith;
      high = omega arith;
      within = h;
      same = ap (λ (k : ℕ). words_used (length ws) (coefficients_from p k (drop 1 ws))) n;
    }

pub reached_next : (ws : List ℕ) (p count at : ℕ) → Reached ws p count at → at < count + 1 → at < length ws
    → kind (get_or ws at 0) ≡ 3 → payload (get_or ws at 0) < p → (at ≡ count → payload (get_or ws at 0) ≡ 0 → ⊥)
    → Reached ws p count (at + 1)
reached_next ws p count at r turn reach three below last =
    record {
      low = omega arith;
      high = omega arith;
      within = omega arith;
      same = r.same ∙ due_next ws p count at turn reach three below last;
    }

pub reached_end : (ws : List ℕ) (p count at : ℕ) → Reached ws p count at → count < at
    → words_used (length ws) (coefficients_from p count (drop 1 ws)) ≡ accepted (count + 1)
unfolding coefficients_from
reached_end ws p count at r done =
    let n : count + 1 - at ≡ 0 = omega arith in
    r.same ∙ rw n (ap accepted (omega (arith, length-drop at ws, r.within, r.high)))
