-- One term added to every column: of the columns before j it is added, those from j on are as they were.
use mathlib.Core.Path.{◌≡◌, refl, sym, ap, ap₂, ◌∙◌, subst}
use mathlib.Core.Logic.{◌⊎◌, inl, inr, ⊎_elim}
use mathlib.Core.List.{List}
use Prim.Native.Nat.{ℕ, ◌+◌, ◌*◌, ◌≤◌, ◌<◌}
use native.Mathlib.Nat.{mul-le-mul, mul-le-mul_right, eq-or-lt_of_le, le_of_suc-le-suc, zero-mul, add-zero, add-mul}
use native.Mathlib.Omega.{arith}
use lib.ListN.{length, get_or}
use lib.Seq.{ext_get_or}
use Rattle.algebra.specs.Coefficients.{add, scale, shift}
use Rattle.modular.specs.Modulo.{modulo}
use Rattle.modular.specs.LargestPrime.{largest_modulus}
use Rattle.words.specs.Limits.{office}
use Rattle.vector.specs.Bound.{AtMost, at_most_stored}
use Rattle.vector.specs.Multiple.{sum_at, gains_multiple}
use Rattle.vector.specs.Reduced.{polynomial, polynomial_same, residue_same}
use Rattle.vector.specs.Stored.{stored, stored_outside, stored_all, length_stored}
use Rattle.polynomial_words.specs.Product.{sum_most}
use Rattle.loader.specs.SlotLaws.{slot_before}
use Rattle.check_conditions.specs.Walk.{carried_width, carried_words, carried_in, CarriedSums}

-- there is room for column j
pub column_room : (carried : List ℕ) {j e : ℕ} → length carried ≡ carried_words → j < office.columns → e ≤ carried_width
    → j * carried_width + e ≤ length carried
column_room carried {j} long lt fits =
    omega (arith, long, mul-le-mul_right {m = j + 1} {n = office.columns} carried_width (omega arith), add-mul j 1 carried_width)

-- 0 times whatever it is changes no word
pub nothing_added : (h s : List ℕ) (d a n c : ℕ) → d + n ≤ length h → c ≡ 0 → h ≡ stored (sum_at h d s a c) h d n
nothing_added h s d a n c room none =
    ext_get_or 0 h (stored (sum_at h d s a c) h d n) (sym (length_stored _ h d n)) (λ i lt. sym (word i))
  where
    word : (i : ℕ) → get_or (stored (sum_at h d s a c) h d n) i 0 ≡ get_or h i 0
    word = stored_all (λ i x. x ≡ get_or h i 0) (sum_at h d s a c) h (stored (sum_at h d s a c) h d n) d n refl room
        (λ j lt.
        ap (λ x. get_or h (d + j) 0 + x * get_or s (a + j) 0) none
        ∙ ap (λ x. get_or h (d + j) 0 + x) (zero-mul (get_or s (a + j) 0))
        ∙ add-zero (get_or h (d + j) 0))
        (λ i out. refl)

pub record AddingTerms (p e n columns : ℕ) (T : List ℕ) (factor : ℕ → ℕ) (before carried : List ℕ) (j : ℕ) : Type 0 where
  pub within : j ≤ columns
  pub room : length carried ≡ carried_words
  pub small : AtMost ((n + 1) * (p * p)) carried
  pub rest : (x : ℕ) → j * carried_width ≤ x → get_or carried x 0 ≡ get_or before x 0
  pub done : (i : ℕ) → i < j → carried_in p e carried i ≡ add (modulo p) (carried_in p e before i) (scale (modulo p) (factor i) T)

module _ (p e n columns : ℕ) (positive : 0 < p) (T : List ℕ) (factor : ℕ → ℕ) (before : List ℕ)
    (given : CarriedSums p n before) where
  module _ (carried : List ℕ) (j : ℕ) (so_far : AddingTerms p e n columns T factor before carried j) where
    -- no sum is too large for a word
    pub adding_small : n < office.rows * office.system_coefficients → p ≤ largest_modulus → AtMost sum_most carried
    adding_small few limit i =
        omega (
          arith,
          so_far.small i,
          mul-le-mul_right {m = n + 1} {n = office.rows * office.system_coefficients} (p * p) (omega arith),
          mul-le-mul limit limit,
        )

    module _ (more : j < columns) (most : columns ≤ office.columns) (fits : e ≤ carried_width) (window : List ℕ) (a : ℕ)
        (is : polynomial p window a e ≡ T) (below : (i : ℕ) → get_or window i 0 < p) (small_factor : factor j < p)
        (carried' : List ℕ) (adds : carried' ≡ stored (sum_at carried (j * carried_width) window a (factor j)) carried
        (j * carried_width) e) where
      room_j : j * carried_width + e ≤ length carried
      room_j = column_room carried so_far.room (omega arith) fits

      word_outside : (x : ℕ) → (x < j * carried_width) ⊎ (j * carried_width + e ≤ x) → get_or carried' x 0 ≡ get_or carried x 0
      word_outside x out = ap (λ l. get_or l x 0) adds ∙ stored_outside _ carried (j * carried_width) e x out

      sum_small : (t : ℕ) → t < e → sum_at carried (j * carried_width) window a (factor j) t ≤ (n + 1) * (p * p)
      sum_small t lt =
          omega (
            arith,
            so_far.rest (j * carried_width + t) (omega arith),
            given.small (j * carried_width + t),
            mul-le-mul {n₁ = factor j} {m₁ = get_or window (a + t) 0} {n₂ = p} {m₂ = p} (omega arith) (omega (arith, below (a + t))),
            add-mul n 1 (p * p),
          )

      gained : carried_in p e carried' j ≡ add (modulo p) (carried_in p e before j) (scale (modulo p) (factor j) T)
      unfolding shift
      gained =
          gains_multiple carried carried' (j * carried_width) window a e (factor j) room_j adds p (j * carried_width) 0 e positive
          (omega arith) (omega arith)
          ∙ ap₂ (λ x y. add (modulo p) x (scale (modulo p) (factor j) y))
          (polynomial_same p positive carried before (j * carried_width) (j * carried_width) e
          (λ t lt. residue_same p (so_far.rest (j * carried_width + t) (omega arith))))
          is

      kept : (i : ℕ) → i < j → carried_in p e carried' i ≡ carried_in p e carried i
      kept i lt =
          polynomial_same p positive carried' carried (i * carried_width) (i * carried_width) e
          (λ t l. residue_same p (word_outside (i * carried_width + t) (inl (omega (arith, slot_before carried_width lt)))))

      pub adding_turn : AddingTerms p e n columns T factor before carried' (j + 1)
      adding_turn = record {
        within = omega arith;
        room = ap length adds ∙ length_stored _ carried (j * carried_width) e ∙ so_far.room;
        small = subst (AtMost ((n + 1) * (p * p))) (sym adds)
            (at_most_stored ((n + 1) * (p * p)) _ carried (j * carried_width) e sum_small so_far.small);
        rest = λ x ge.
            let past : j * carried_width + carried_width ≤ x = omega (arith, add-mul j 1 carried_width) in
            word_outside x (inr (omega arith)) ∙ so_far.rest x (omega arith);
        done = λ i lt. ⊎_elim
            (λ here. subst (λ k. carried_in p e carried' k ≡ add (modulo p) (carried_in p e before k) (scale (modulo p) (factor k) T))
            (sym here) gained)
            (λ l. kept i l ∙ so_far.done i l)
            (eq-or-lt_of_le (le_of_suc-le-suc (omega arith)));
      }
