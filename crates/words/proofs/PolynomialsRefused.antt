-- Polynomials that are read alone are refused just by the table (document 01, "Turned back": "A reader of one polynomial is handed
-- the rest of the sheet from that word on"): at the first word that breaks a row, while a word of theirs is due.
use Rattle.std.specs.Prelude.{◌≡◌, Bool, true, false, not, ◌&&◌, ◌↔◌, length, take, drop, leb, ltb}
use Rattle.std.proofs.Math.Path.{refl}
use Rattle.std.proofs.Common.{sym, ap, ◌∙◌, ⊎_elim, arith, length-drop, take-append-drop, length-take-le}
use Rattle.std.proofs.Math.Option.{Option, some}
use mathlib.Core.List.{List, [], ◌∷◌, ◌++◌}
use Prim.Native.Nat.{ℕ, zero, suc, ◌+◌, ◌-◌}
use Rattle.std.proofs.Math.Dec.{eqb}
use Rattle.words.specs.Word.{kind, payload}
use Rattle.words.specs.Outcome.Outcome.{refused}
use Rattle.words.specs.OutcomeLaws.{refused_accepted}
use Rattle.words.specs.Reading.{Reading, turn_back, and_then, words_used, used}
use Rattle.words.specs.Reading.Reading.{read, fault}
use Rattle.words.specs.ReadingLaws.{fault_read}
use Rattle.words.specs.Polynomial.{coefficients_from, polynomial_from, polynomials_from}
use Rattle.words.specs.Table.{Expected, table_row, polynomials_due, coefficients_due, number_at, missing_at, after, due_after}
use Rattle.words.specs.Table.{Passed, first_at, OfPolynomials, headless, PolynomialsByTable}
use Rattle.words.specs.Table.Expected.{head, start, coefficient, end, nothing}
use Rattle.words.proofs.TableLaws.{turned, then_same, forgotten, forgotten_map}
use Rattle.words.proofs.PassLaws.{turned_fault, parted_at}

-- ---- the walk by the table, for as long as a word of a polynomial is due

abbrev while_due : {A : Type 0} → Expected → A → A → A
while_due head a b = b
while_due (start p limit left) a b = a
while_due (coefficient p limit more left) a b = a
while_due end a b = b
while_due nothing a b = b

unfoldable over : Expected → List ℕ → Reading (Unit {0})
over e [] = while_due e (fault 4 []) (read tt [])
over e (w ∷ ws) = while_due e (turned (number_at headless 0 e 0 w) (w ∷ ws) (over (after headless e w) ws)) (read tt (w ∷ ws))

-- ---- it refuses what the readers refuse, and reads what they read

row_over : {A B : Type 0} (b : Bool) (number : ℕ) (ws : List ℕ) (next : Reading A) (last : A → List ℕ → Reading B)
    (below : Option ℕ) (other : Reading B) → and_then next last ≡ turned below ws other
    → and_then (turn_back b number ws next) last ≡ turned (table_row b number below) ws other
row_over true number ws next last below other h = refl
row_over false number ws next last below other h = h

then_then : {A B C : Type 0} (r : Reading A) (next : A → List ℕ → Reading B) (last : B → List ℕ → Reading C)
    → and_then (and_then r next) last ≡ and_then r (λ a rest. and_then (next a rest) last)
then_then (read a rest) next last = refl
then_then (fault number ws) next last = refl

module _ (p limit : ℕ) where
  coefficients_over : (left more : ℕ) (ws : List ℕ)
      → and_then (coefficients_from p more ws) (λ f rest. over (polynomials_due p limit left) rest)
      ≡ over (coefficients_due p limit more left) ws
  unfolding coefficients_from coefficients_due over number_at after
  coefficients_over left zero ws = refl
  coefficients_over left (suc more) [] = refl
  coefficients_over left (suc more) (w ∷ ws) =
      row_over (not (eqb (kind w) 3)) 5 (w ∷ ws) _ _ _ _
      (row_over (leb p (payload w)) 7 (w ∷ ws) _ _ _ _
      (row_over (eqb more 0 && eqb (payload w) 0) 8 (w ∷ ws) _ _ _ _
      (then_then (coefficients_from p more ws) _ _ ∙ coefficients_over left more ws)))

  polynomial_over : (left : ℕ) (ws : List ℕ)
      → and_then (polynomial_from p limit ws) (λ f rest. over (polynomials_due p limit left) rest) ≡ over (start p limit left) ws
  unfolding polynomial_from over number_at after
  polynomial_over left [] = refl
  polynomial_over left (w ∷ ws) =
      row_over (not (eqb (kind w) 2)) 5 (w ∷ ws) _ _ _ _
      (row_over (ltb limit (payload w)) 6 (w ∷ ws) _ _ _ _ (coefficients_over left (payload w) ws))

  end_over : (ws : List ℕ) → read tt ws ≡ over end ws
  unfolding over
  end_over [] = refl
  end_over (w ∷ ws) = refl

  polynomials_over : (count : ℕ) (ws : List ℕ)
      → forgotten (polynomials_from p limit count ws) ≡ over (polynomials_due p limit count) ws
  unfolding polynomials_from polynomials_due
  polynomials_over zero ws = end_over ws
  polynomials_over (suc count) ws =
      then_then (polynomial_from p limit ws) _ _
      ∙ then_same (polynomial_from p limit ws) (λ f rest.
      forgotten_map (polynomials_from p limit count rest) (λ (fs : List (List ℕ)). f ∷ fs) ∙ polynomials_over count rest)
      ∙ polynomial_over count ws

  one_over : (ws : List ℕ) → forgotten (polynomial_from p limit ws) ≡ over (polynomials_due p limit 1) ws
  unfolding polynomials_due
  one_over ws = then_same (polynomial_from p limit ws) (λ f rest. end_over rest) ∙ polynomial_over 0 ws

-- ---- where it stops

-- how many words stand before is of no matter to a word of a polynomial
any_count : (e : Expected) (count w : ℕ) → OfPolynomials e → number_at headless 0 e count w ≡ number_at headless 0 e 0 w
unfolding number_at
any_count head count w d = absurd d
any_count (start p limit left) count w d = refl
any_count (coefficient p limit more left) count w d = refl
any_count end count w d = absurd d
any_count nothing count w d = absurd d

four_missing : (e : Expected) → OfPolynomials e → missing_at 0 e ≡ some 4
unfolding missing_at
four_missing head d = absurd d
four_missing (start p limit left) d = refl
four_missing (coefficient p limit more left) d = refl
four_missing end d = absurd d
four_missing nothing d = absurd d

while_is : {A : Type 0} (e : Expected) (a b : A) → OfPolynomials e → while_due e a b ≡ a
while_is head a b d = absurd d
while_is (start p limit left) a b d = refl
while_is (coefficient p limit more left) a b d = refl
while_is end a b d = absurd d
while_is nothing a b d = absurd d

while_fault : (e : Expected) (r : Reading (Unit {0})) (ws : List ℕ) {n : ℕ} {us : List ℕ} → while_due e r (read tt ws) ≡ fault n us
    → OfPolynomials e × (r ≡ fault n us)
while_fault head r ws h = absurd (fault_read (sym h))
while_fault (start p limit left) r ws h = (tt, h)
while_fault (coefficient p limit more left) r ws h = (tt, h)
while_fault end r ws h = absurd (fault_read (sym h))
while_fault nothing r ws h = absurd (fault_read (sym h))

-- behind the polynomials nothing of theirs is due any more
none_behind : (us : List ℕ) → OfPolynomials (due_after headless nothing us) → ⊥
unfolding due_after after
none_behind [] d = d
none_behind (u ∷ us) d = none_behind us d

due_before : (e : Expected) (u : ℕ) (us : List ℕ) → OfPolynomials (due_after headless (after headless e u) us) → OfPolynomials e
unfolding due_after after polynomials_due
due_before head u [] d = d
due_before head u (v ∷ us) d = none_behind us d
due_before (start p limit left) u us d = tt
due_before (coefficient p limit more left) u us d = tt
due_before end u us d = none_behind us d
due_before nothing u us d = none_behind us d

record StoppedIn (before : ℕ) (e : Expected) (ws : List ℕ) (n : ℕ) (us : List ℕ) : Type 0 where
  front : List ℕ
  words : ws ≡ front ++ us
  passed : Passed headless 0 before e front
  due : OfPolynomials (due_after headless e front)
  row : first_at headless 0 (before + length front) (due_after headless e front) us ≡ some n

over_fault : (before : ℕ) (e : Expected) (ws : List ℕ) (n : ℕ) (us : List ℕ) → over e ws ≡ fault n us → StoppedIn before e ws n us
unfolding over Passed due_after first_at
over_fault before e [] n us h =
    let d = while_fault e (fault 4 []) [] h in
    let four : 4 ≡ n = let f = d.1 in cc in
    let none_left : [] ≡ us = let f = d.1 in cc in
    rw (← none_left) (record { front = []; words = refl; passed = tt; due = d.0; row = four_missing e d.0 ∙ ap some four })
over_fault before e (w ∷ ws) n us h =
    let d = while_fault e (turned (number_at headless 0 e 0 w) (w ∷ ws) (over (after headless e w) ws)) (w ∷ ws) h in
    let count = any_count e (suc before) w d.0 in
    let here : before + 0 ≡ before = omega arith in
    ⊎_elim
    (λ o. rw (← o.1) (record { front = []; words = refl; passed = tt; due = d.0; row = rw here (count ∙ o.0) }))
    (λ o.
    let next = over_fault (suc before) (after headless e w) ws n us o.1 in
    let k : before + suc (length next.front) ≡ suc before + length next.front = omega arith in
    record {
      front = w ∷ next.front;
      words = ap (λ (vs : List ℕ). w ∷ vs) next.words;
      passed = (count ∙ o.0, next.passed);
      due = next.due;
      row = rw k next.row;
    })
    (turned_fault (number_at headless 0 e 0 w) (w ∷ ws) _ d.1)

over_stops : (before : ℕ) (e : Expected) (front us : List ℕ) (n : ℕ) → Passed headless 0 before e front
    → OfPolynomials (due_after headless e front)
    → first_at headless 0 (before + length front) (due_after headless e front) us ≡ some n → over e (front ++ us) ≡ fault n us
unfolding over Passed due_after first_at
over_stops before e [] [] n passed d row =
    let four : 4 ≡ n = let f = sym (four_missing e d) ∙ row in cc in
    while_is e (fault 4 []) (read tt []) d ∙ ap (λ (m : ℕ). fault m []) four
over_stops before e [] (w ∷ us) n passed d row =
    while_is e _ (read tt (w ∷ us)) d
    ∙ ap (λ (o : Option ℕ). turned o (w ∷ us) (over (after headless e w) us)) (sym (any_count e _ w d) ∙ row)
over_stops before e (u ∷ front) us n passed d row =
    let first = due_before e u front d in
    let k : before + suc (length front) ≡ suc before + length front = omega arith in
    while_is e _ (read tt (u ∷ front ++ us)) first
    ∙ ap (λ (o : Option ℕ). turned o (u ∷ front ++ us) (over (after headless e u) (front ++ us)))
    (sym (any_count e (suc before) u first) ∙ passed.0)
    ∙ over_stops (suc before) (after headless e u) front us n passed.1 d (rw k at row)

-- ---- what a caller is told

used_refused : {A : Type 0} (total : ℕ) (r : Reading A) {n k : ℕ} → words_used total r ≡ refused n k
    → (us : List ℕ) × (forgotten r ≡ fault n us) × (k ≡ total - length us)
used_refused total (read a rest) e = absurd (refused_accepted (sym e))
used_refused total (fault n us) e = (us, ap (λ (m : ℕ). fault m us) cc, cc)

refused_used : {A : Type 0} (total : ℕ) (r : Reading A) {n : ℕ} {us : List ℕ} → forgotten r ≡ fault n us
    → words_used total r ≡ refused n (total - length us)
refused_used total (read a rest) e = absurd (fault_read (sym e))
refused_used total (fault m vs) {n} {us} e =
    let same : m ≡ n = cc in
    let rest : vs ≡ us = cc in cc

stopped_row : (p limit count : ℕ) (ws : List ℕ) (n k : ℕ) (us : List ℕ) → StoppedIn 0 (polynomials_due p limit count) ws n us
    → k ≡ length ws - length us → PolynomialsByTable p limit count ws n k
stopped_row p limit count ws n k us stop place =
    let parted = parted_at ws stop.front us k stop.words place in
    let et = parted.front_is in
    record {
      within = parted.within;
      before = rw et stop.passed;
      due = rw et stop.due;
      row = rw (et, parted.rest_is, parted.place) stop.row;
    }

module _ {A : Type 0} (p limit count : ℕ) (reading : List ℕ → Reading A) (ws : List ℕ)
    (is : forgotten (reading ws) ≡ over (polynomials_due p limit count) ws) (n k : ℕ) where
  abbrev e : Expected
  e = polynomials_due p limit count

  by_table : used reading ws ≡ refused n k → PolynomialsByTable p limit count ws n k
  by_table h =
      let t = used_refused (length ws) (reading ws) h in
      stopped_row p limit count ws n k t.0 (over_fault 0 e ws n t.0 (sym is ∙ t.1)) t.2

  of_table : PolynomialsByTable p limit count ws n k → used reading ws ≡ refused n k
  of_table h =
      let few = h.within in
      let nf = length-take-le k ws few in
      let here : 0 + length (take k ws) ≡ k = omega arith in
      let stops = over_stops 0 e (take k ws) (drop k ws) n h.before h.due (rw here h.row) in
      let place : length ws - length (drop k ws) ≡ k = omega (arith, length-drop k ws) in
      refused_used (length ws) (reading ws) (is ∙ ap (over e) (sym (take-append-drop k ws)) ∙ stops) ∙ ap (refused n) place

-- each of 4 to 8 just where the table has it, of one polynomial and of so many in a row
pub polynomial_refused_iff : (p limit : ℕ) (ws : List ℕ) (n k : ℕ)
    → (used (polynomial_from p limit) ws ≡ refused n k) ↔ PolynomialsByTable p limit 1 ws n k
polynomial_refused_iff p limit ws n k =
    let is = one_over p limit ws in
    (by_table p limit 1 (polynomial_from p limit) ws is n k, of_table p limit 1 (polynomial_from p limit) ws is n k)

pub polynomials_refused_iff : (p limit count : ℕ) (ws : List ℕ) (n k : ℕ)
    → (used (polynomials_from p limit count) ws ≡ refused n k) ↔ PolynomialsByTable p limit count ws n k
polynomials_refused_iff p limit count ws n k =
    let reading = polynomials_from p limit count in
    let is = polynomials_over p limit count ws in
    (by_table p limit count reading ws is n k, of_table p limit count reading ws is n k)
