-- What the table says at a place: a row of the word there, or that a word is missing; and which numbers stand at which places.
use Rattle.std.specs.Prelude.{◌≡◌, refl, Bool, true, false, not, ◌&&◌, get_or, take, leb, ltb}
use Rattle.std.proofs.Common.{sym, ◌∙◌, drop_of_length-le, drop-cons}
use Rattle.std.proofs.Math.Path.{ap}
use Rattle.std.proofs.Math.Logic.{inl, inr}
use Rattle.std.proofs.Math.Option.{Option, none, some}
use mathlib.Core.List.{List, [], ◌∷◌}
use Prim.Native.Nat.{ℕ, zero, suc, ◌+◌, ◌≤◌, ◌<◌}
use Rattle.std.proofs.Math.Decide.{dec_lt}
use native.Mathlib.Omega.{arith}
use Rattle.std.proofs.Math.ListN.{length}
use Rattle.std.proofs.Math.Dec.{eqb}
use Rattle.words.specs.Word.{kind, payload}
use Rattle.words.specs.Table.{Expected, HeadTable, table_row, polynomials_due, coefficients_due, number_at, missing_at, after}
use Rattle.words.specs.Table.{due_after}
use Rattle.words.specs.Table.{first_at, ByTable}
use Rattle.words.specs.Table.Expected.{head, start, coefficient, end, nothing}
use Rattle.words.proofs.PassLaws.{none_some}
use Rattle.words.specs.Rows.{InRows, words_rows}

-- ---- where the words end

pub missing_none : (by : ℕ) (e : Expected) → missing_at by e ≡ none → e ≡ nothing
unfolding missing_at
missing_none by head h = absurd (none_some (sym h))
missing_none by (start p limit left) h = absurd (none_some (sym h))
missing_none by (coefficient p limit more left) h = absurd (none_some (sym h))
missing_none by end h = absurd (none_some (sym h))
missing_none by nothing h = refl

pub missing_four : (by : ℕ) (e : Expected) {n : ℕ} → missing_at by e ≡ some n → n ≡ 4 + by
unfolding missing_at
missing_four by head h = cc
missing_four by (start p limit left) h = cc
missing_four by (coefficient p limit more left) h = cc
missing_four by end h = cc
missing_four by nothing h = absurd (none_some h)

-- behind a head something else is due
unfoldable Behind : Expected → Type 0
Behind head = ⊥
Behind (start p limit left) = Unit {0}
Behind (coefficient p limit more left) = Unit {0}
Behind end = Unit {0}
Behind nothing = Unit {0}

behind_polynomials : (p limit left : ℕ) → Behind (polynomials_due p limit left)
unfolding Behind polynomials_due
behind_polynomials p limit zero = tt
behind_polynomials p limit (suc left) = tt

behind_coefficients : (p limit more left : ℕ) → Behind (coefficients_due p limit more left)
unfolding Behind coefficients_due
behind_coefficients p limit zero left = behind_polynomials p limit left
behind_coefficients p limit (suc more) left = tt

-- ---- what the table says at a place

module _ (T : HeadTable) (by : ℕ) where
  -- of the word there
  pub row_at_word : (ws : List ℕ) {n k : ℕ} → ByTable T by ws n k → k < length ws
      → number_at T by (due_after T head (take k ws)) (suc k) (get_or ws k 0) ≡ some n
  unfolding first_at
  row_at_word ws {n} {k} h more = ap (first_at T by k (due_after T head (take k ws))) (sym (drop-cons ws k 0 more)) ∙ h.row

  -- or that one is missing
  pub row_at_end : (ws : List ℕ) {n k : ℕ} → ByTable T by ws n k → k ≡ length ws → n ≡ 4 + by
  unfolding first_at
  row_at_end ws {n} {k} h all =
      let e = due_after T head (take k ws) in
      missing_four by e (ap (first_at T by k e) (sym (drop_of_length-le ws {i = k} (omega arith))) ∙ h.row)

  -- ---- which numbers, and where

  behind_after : (e : Expected) (w : ℕ) → Behind (after T e w)
  unfolding Behind after
  behind_after head w = behind_polynomials _ _ _
  behind_after (start p limit left) w = behind_coefficients p limit (payload w) left
  behind_after (coefficient p limit more left) w = behind_coefficients p limit more left
  behind_after end w = tt
  behind_after nothing w = tt

  behind_words : (e : Expected) (us : List ℕ) → Behind e → Behind (due_after T e us)
  unfolding due_after
  behind_words e [] h = h
  behind_words e (u ∷ us) h = behind_words (after T e u) us (behind_after e u)

  abbrev Five : ℕ → Type 0
  Five n = (5 + by ≤ n) × (n ≤ 9 + by)

  row_five : (b : Bool) (i : ℕ) (below : Option ℕ) {n : ℕ} → 5 ≤ i → i ≤ 9 → (below ≡ some n → Five n)
      → table_row b (i + by) below ≡ some n → Five n
  row_five true i below {n} l h k e = let same : i + by ≡ n = cc in (omega arith, omega arith)
  row_five false i below l h k e = k e

  word_five : (e : Expected) (count w : ℕ) {n : ℕ} → Behind e → number_at T by e count w ≡ some n → Five n
  unfolding number_at Behind
  word_five head count w b h = absurd b
  word_five (start p limit left) count w b h =
      row_five (not (eqb (kind w) 2)) 5 _ (omega arith) (omega arith)
      (row_five (ltb limit (payload w)) 6 none (omega arith) (omega arith) (λ e. absurd (none_some e))) h
  word_five (coefficient p limit more left) count w b h =
      row_five (not (eqb (kind w) 3)) 5 _ (omega arith) (omega arith)
      (row_five (leb p (payload w)) 7 _ (omega arith) (omega arith)
      (row_five (eqb more 0 && eqb (payload w) 0) 8 none (omega arith) (omega arith) (λ e. absurd (none_some e)))) h
  word_five end count w b h =
      row_five (not (eqb (kind w) 4)) 5 _ (omega arith) (omega arith)
      (row_five (not (eqb (payload w) count)) 9 none (omega arith) (omega arith) (λ e. absurd (none_some e))) h
  word_five nothing count w {n} b h = let same : 9 + by ≡ n = cc in (omega arith, omega arith)

  module _ (lowest highest : ℕ) (heads : (w n : ℕ) → T.number w ≡ some n → (lowest ≤ n) × (n ≤ highest)) where
    placed : (ws : List ℕ) (n k : ℕ) → ByTable T by ws n k → Dec (k < length ws)
        → InRows (words_rows lowest highest by (length ws)) n k
    unfolding InRows number_at due_after
    placed ws n k h (no less) =
        let few = h.within in
        let all : k ≡ length ws = omega arith in
        let four = row_at_end ws h all in
        inr (inl (record { from = omega arith; to = omega arith; after = omega arith; before = omega arith }))
    placed [] n k h (yes more) = absurd (omega arith)
    placed (w ∷ ws) n zero h (yes more) =
        let of_head = heads w n (row_at_word (w ∷ ws) h more) in
        inl (record { from = of_head.0; to = of_head.1; after = omega arith; before = omega arith })
    placed (w ∷ ws) n (suc k) h (yes more) =
        let five = word_five _ (suc (suc k)) _ (behind_words (after T head w) (take k ws) (behind_after head w))
        (row_at_word (w ∷ ws) h more) in
        inr (inr (inl (record { from = five.0; to = five.1; after = omega arith; before = more })))

    pub on_table : (ws : List ℕ) {n k : ℕ} → ByTable T by ws n k → InRows (words_rows lowest highest by (length ws)) n k
    on_table ws {n} {k} h = placed ws n k h (dec_lt k (length ws))
