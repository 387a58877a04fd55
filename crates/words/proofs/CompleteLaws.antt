-- Behind words that break no row some can always follow to the end of a written form: zero polynomials, coefficients 1, the end
-- word.
use Rattle.std.specs.Prelude.{◌≡◌, Bool, true, false, not, ◌&&◌, eqb, ltb}
use Rattle.std.proofs.Math.Path.{refl}
use Rattle.std.proofs.Common.{sym}
use Rattle.std.proofs.Math.Option.{Option, none}
use mathlib.Core.List.{List, [], ◌∷◌}
use Prim.Native.Nat.{ℕ, zero, suc, ◌+◌, ◌*◌, ◌≤◌, ◌<◌}
use native.Mathlib.Omega.{arith}
use Rattle.std.proofs.Math.ListN.{length}
use borrow.Author.Tests.{eq-eqb, lt-leb, le-ltb, ltb-false}
use Rattle.words.specs.Word.{kind, payload, word, payload_bound}
use Rattle.words.specs.WordLaws.{kind_word, payload_word}
use Rattle.words.specs.Table.{Expected, HeadTable, table_row, polynomials_due, coefficients_due, number_at, missing_at, after}
use Rattle.words.specs.Table.{due_after}
use Rattle.words.specs.Table.{Passed}
use Rattle.words.specs.Table.Expected.{head, start, coefficient, end, nothing}
use Rattle.words.proofs.PassLaws.{none_some}

-- a row that is not broken
row_none : (b : Bool) (number : ℕ) (below : Option ℕ) → table_row b number below ≡ none → (b ≡ false) × (below ≡ none)
row_none true number below h = absurd (none_some (sym h))
row_none false number below h = (refl, h)

-- ---- room to go on: the end word can hold the number of all words, and 1 is a coefficient

unfoldable pub Room : ℕ → Expected → Type 0
Room before head = ⊥
Room before (start p limit left) = (2 ≤ p) × (before + suc left * (1 + limit) + 1 < payload_bound)
Room before (coefficient p limit more left) = (2 ≤ p) × (before + suc more + left * (1 + limit) + 1 < payload_bound)
Room before end = before + 1 < payload_bound
Room before nothing = Unit {0}

pub room_polynomials : (before p limit left : ℕ) → 2 ≤ p → before + left * (1 + limit) + 1 < payload_bound
    → Room before (polynomials_due p limit left)
unfolding Room polynomials_due
room_polynomials before p limit zero two h = omega arith
room_polynomials before p limit (suc left) two h = (two, h)

room_coefficients : (before p limit more left : ℕ) → 2 ≤ p → before + more + left * (1 + limit) + 1 < payload_bound
    → Room before (coefficients_due p limit more left)
unfolding Room coefficients_due
room_coefficients before p limit zero left two h = room_polynomials before p limit left two (omega arith)
room_coefficients before p limit (suc more) left two h = (two, h)

and_false : (b : Bool) → b && false ≡ false
and_false true = refl
and_false false = refl

-- ---- words that follow

module _ (T : HeadTable) (by : ℕ) where
  room_after : (before : ℕ) (e : Expected) (w : ℕ) → Room before e → number_at T by e (suc before) w ≡ none
      → Room (suc before) (after T e w)
  unfolding Room number_at after
  room_after before head w r h = absurd r
  room_after before (start p limit left) w r h =
      let a = row_none (not (eqb (kind w) 2)) (5 + by) _ h in
      let b = row_none (ltb limit (payload w)) (6 + by) none a.1 in
      let few = ltb-false limit (payload w) b.0 in
      let room = r.1 in
      room_coefficients (suc before) p limit (payload w) left r.0 (omega arith)
  room_after before (coefficient p limit more left) w r h =
      let room = r.1 in
      room_coefficients (suc before) p limit more left r.0 (omega arith)
  room_after before end w r h = tt
  room_after before nothing w r h = tt

  -- words that go on to the end
  pub record Completed (before : ℕ) (e : Expected) : Type 0 where
    pub more : List ℕ
    pub passed : Passed T by before e more
    pub ended : missing_at by (due_after T e more) ≡ none

  pub completed_word : (before : ℕ) (e : Expected) (w : ℕ) → number_at T by e (suc before) w ≡ none
      → Completed (suc before) (after T e w) → Completed before e
  unfolding Passed due_after
  completed_word before e w h c = record { more = w ∷ c.more; passed = (h, c.passed); ended = c.ended }

  complete_nothing : (before : ℕ) → Completed before nothing
  unfolding Passed due_after missing_at
  complete_nothing before = record { more = []; passed = tt; ended = refl }

  -- the end word
  complete_end : (before : ℕ) → Room before end → Completed before end
  unfolding Room number_at after
  complete_end before r =
      let k = kind_word 4 (suc before) (omega arith) in
      let x = payload_word 4 (suc before) (omega arith) in
      completed_word before end (word 4 (suc before)) (simp (eq-eqb _ _ k, eq-eqb _ _ x)) (complete_nothing (suc before))

  -- zero polynomials
  complete_polynomials : (before p limit left : ℕ) → before + left * (1 + limit) + 1 < payload_bound
      → Completed before (polynomials_due p limit left)
  unfolding Room polynomials_due coefficients_due number_at after
  complete_polynomials before p limit zero h = complete_end before (omega arith)
  complete_polynomials before p limit (suc left) h =
      completed_word before (start p limit left) (word 2 0) (simp (le-ltb limit 0 (omega arith)))
      (complete_polynomials (suc before) p limit left (omega arith))

  -- coefficients 1
  complete_coefficients : (before p limit more left : ℕ) → 2 ≤ p → before + more + left * (1 + limit) + 1 < payload_bound
      → Completed before (coefficients_due p limit more left)
  unfolding Room coefficients_due number_at after
  complete_coefficients before p limit zero left two h = complete_polynomials before p limit left (omega arith)
  complete_coefficients before p limit (suc more) left two h =
      completed_word before (coefficient p limit more left) (word 3 1) (simp (lt-leb p 1 two, and_false))
      (complete_coefficients (suc before) p limit more left two (omega arith))

  complete : (before : ℕ) (e : Expected) → Room before e → Completed before e
  unfolding Room polynomials_due coefficients_due
  complete before head r = absurd r
  complete before (start p limit left) r = complete_polynomials before p limit (suc left) r.1
  complete before (coefficient p limit more left) r = complete_coefficients before p limit (suc more) left r.0 r.1
  complete before end r = complete_end before r
  complete before nothing r = complete_nothing before

  -- behind words that break no row
  pub complete_after : (before : ℕ) (e : Expected) (us : List ℕ) → Room before e → Passed T by before e us
      → Completed (before + length us) (due_after T e us)
  unfolding Passed due_after
  complete_after before e [] r h = let k : before + 0 ≡ before = omega arith in rw k (complete before e r)
  complete_after before e (u ∷ us) r h =
      let k : before + suc (length us) ≡ suc before + length us = omega arith in
      rw k (complete_after (suc before) (after T e u) us (room_after before e u r h.0) h.1)
