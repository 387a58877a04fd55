-- The loop of the timed exports: its steps so far, and how large the words have become.
use mathlib.Core.Path.{◌≡◌, refl, ap, ◌∙◌}
use mathlib.Core.Bool.{true}
use mathlib.Core.List.{List}
use Prim.Native.Nat.{ℕ, ◌+◌, ◌*◌, ◌≤◌, ◌<◌}
use native.Mathlib.Nat.{mul-le-mul}
use native.Mathlib.Numerals.{add-one}
use native.Mathlib.Omega.{arith}
use lib.ListN.{length, get_or}
use lib.Dec.{ltb, leb}
use borrow.Author.Tests.{ltb-true, leb-true}
use Rattle.modular.specs.Bits.{bound16, most16, bound32, most32, bound64}
use Rattle.vector.specs.Stored.{stored, length_stored}
use Rattle.vector.specs.Multiple.{sum_at}
use Rattle.vector.specs.Bound.{AtMost, sum_at_most, at_most_sum}
use Rattle.bench_exports.specs.Rounds.{all_at_most, fit, rounds, factors_bound}
use Rattle.bench_exports.proofs.Tests.{both, at_most_each}

-- what the test found
pub record Fits (h s factors counts : List ℕ) : Type 0 where
  pub room : length s ≤ length h
  pub all : length factors ≤ length counts
  pub few : length factors < factors_bound
  pub count : AtMost (length s) counts
  pub factor : AtMost most16 factors
  pub slot : AtMost most16 s
  pub hand : AtMost most32 h

pub fits : (h s factors counts : List ℕ) → fit h s factors counts ≡ true → Fits h s factors counts
unfolding fit
fits h s factors counts e =
    let e₁ = both (leb (length s) (length h)) _ e in
    let e₂ = both (leb (length factors) (length counts)) _ e₁.1 in
    let e₃ = both (ltb (length factors) factors_bound) _ e₂.1 in
    let e₄ = both (all_at_most (length s) counts) _ e₃.1 in
    let e₅ = both (all_at_most most16 factors) _ e₄.1 in
    let e₆ = both (all_at_most most16 s) _ e₅.1 in
    record {
      room = leb-true (length s) (length h) e₁.0;
      all = leb-true (length factors) (length counts) e₂.0;
      few = ltb-true (length factors) factors_bound e₃.0;
      count = at_most_each (length s) counts e₄.0;
      factor = at_most_each most16 factors e₅.0;
      slot = at_most_each most16 s e₆.0;
      hand = at_most_each most32 h e₆.1;
    }

-- t steps are made
pub record Rounding (h₀ s factors counts h : List ℕ) (t : ℕ) : Type 0 where
  pub given : Fits h₀ s factors counts
  pub same_length : length h ≡ length h₀
  pub small : AtMost (most32 + t * bound32) h
  pub words : h ≡ rounds t factors counts s h₀

pub start : {h s factors counts : List ℕ} → Fits h s factors counts → Rounding h s factors counts h 0
unfolding rounds
start given = record {
  given = given;
  same_length = refl;
  small = λ i. omega (arith, given.hand i);
  words = refl;
}

module _ {h₀ s factors counts h : List ℕ} {t : ℕ} (r : Rounding h₀ s factors counts h t) where
  abbrev c : ℕ
  c = get_or factors t 0

  abbrev n : ℕ
  n = get_or counts t 0

  product_small : (j : ℕ) → j < n → c * get_or s (0 + j) 0 ≤ bound32
  product_small j lt =
      let y : get_or s (0 + j) 0 ≤ bound16 = omega (arith, r.given.slot (0 + j)) in
      let f : c ≤ bound16 = omega (arith, r.given.factor t) in
      mul-le-mul {n₁ = c} {m₁ = get_or s (0 + j) 0} {n₂ = bound16} {m₂ = bound16} f y

  module _ (lt : t < length factors) where
    pub sums_fit : (j : ℕ) → j < n → sum_at h 0 s 0 c j < bound64
    sums_fit j lt_n =
        let sum = sum_at_most (most32 + t * bound32) bound32 h 0 s 0 n c r.small product_small j lt_n in
        omega (arith, sum, r.given.few)

    pub turn : (h' : List ℕ) → h' ≡ stored (sum_at h 0 s 0 c) h 0 n → Rounding h₀ s factors counts h' (t + 1)
    unfolding rounds
    turn h' e =
        let grown = at_most_sum (most32 + t * bound32) bound32 h 0 s 0 n c r.small product_small in
        record {
          given = r.given;
          same_length = ap length e ∙ length_stored (sum_at h 0 s 0 c) h 0 n ∙ r.same_length;
          small = λ i. rw e (omega (arith, grown i));
          words = e ∙ rw (add-one, ← r.words);
        }
