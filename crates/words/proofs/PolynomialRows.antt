-- The refusals of a reading of polynomials alone: 4 at the number of words, 5 to 8 at a word.
use Rattle.std.specs.Prelude.{◌≡◌, refl, Bool, true, false, not, ◌&&◌, ◌⊎◌, List, [], ◌∷◌, ℕ, zero, suc, ◌-◌, ◌≤◌, length, eqb, leb, ltb}
use Rattle.std.proofs.Common.{ap, inl, inr, arith}
use Rattle.words.specs.Word.{kind, payload}
use Rattle.words.specs.Reading.{Reading, turn_back, and_then, words_used, used}
use Rattle.words.specs.Reading.Reading.{read, fault}
use Rattle.words.specs.Polynomial.{coefficients_from, polynomial_from, polynomials_from}
use Rattle.words.proofs.ForwardLaws.{Forward, polynomial_forward, polynomials_forward}
use Rattle.words.specs.Rows.{RefusesBy, InRows, polynomial_rows}
use Rattle.words.specs.RowLaws.{by_accepted}

-- a fault is a missing word, or one of 5 to 8 at a word
abbrev AtFault : {A : Type 0} → Reading A → Type 0
AtFault (read a rest) = Unit {0}
AtFault (fault n us) = ((n ≡ 4) × (us ≡ [])) ⊎ ((5 ≤ n) × (n ≤ 8) × (1 ≤ length us))

row_at : {A : Type 0} (b : Bool) (number w : ℕ) (ws : List ℕ) (next : Reading A) → (5 ≤ number) × (number ≤ 8) → AtFault next
    → AtFault (turn_back b number (w ∷ ws) next)
row_at true number w ws next n h = inr (n.0, n.1, omega arith)
row_at false number w ws next n h = h

then_at : {A B : Type 0} (r : Reading A) (next : A → List ℕ → Reading B) → AtFault r
    → ((a : A) (rest : List ℕ) → AtFault (next a rest)) → AtFault (and_then r next)
then_at (read a rest) next h k = k a rest
then_at (fault n us) next h k = h

coefficients_at_lem : (p due : ℕ) (ws : List ℕ) → AtFault (coefficients_from p due ws)
unfolding coefficients_from
coefficients_at_lem p zero ws = tt
coefficients_at_lem p (suc due) [] = inl (refl, refl)
coefficients_at_lem p (suc due) (w ∷ ws) =
    row_at (not (eqb (kind w) 3)) 5 w ws _ (omega arith, omega arith)
    (row_at (leb p (payload w)) 7 w ws _ (omega arith, omega arith)
    (row_at (eqb due 0 && eqb (payload w) 0) 8 w ws _ (omega arith, omega arith)
    (then_at (coefficients_from p due ws) _ (coefficients_at_lem p due ws) (λ f rest. tt))))

polynomial_at : (p limit : ℕ) (ws : List ℕ) → AtFault (polynomial_from p limit ws)
unfolding polynomial_from
polynomial_at p limit [] = inl (refl, refl)
polynomial_at p limit (w ∷ ws) =
    row_at (not (eqb (kind w) 2)) 5 w ws _ (omega arith, omega arith)
    (row_at (ltb limit (payload w)) 6 w ws _ (omega arith, omega arith) (coefficients_at_lem p (payload w) ws))

polynomials_at : (p limit count : ℕ) (ws : List ℕ) → AtFault (polynomials_from p limit count ws)
unfolding polynomials_from
polynomials_at p limit zero ws = tt
polynomials_at p limit (suc count) ws =
    then_at (polynomial_from p limit ws) _ (polynomial_at p limit ws) (λ f rest.
    then_at (polynomials_from p limit count rest) _ (polynomials_at p limit count rest) (λ fs rest'. tt))

used_rows : {A : Type 0} (total : ℕ) (r : Reading A) → AtFault r → Forward total r
    → RefusesBy (polynomial_rows total) (words_used total r)
unfolding InRows
used_rows total (read a rest) h f = by_accepted _
used_rows total (fault n us) (inl h) f = record {
  in_rows = λ number place e.
      let en : n ≡ number = cc in
      let ep : total - length us ≡ place = cc in
      let none : length us ≡ 0 = ap length h.1 in
      inl (record { from = omega arith; to = omega arith; after = omega arith; before = omega arith });
}
used_rows total (fault n us) (inr h) f = record {
  in_rows = λ number place e.
      let en : n ≡ number = cc in
      let ep : total - length us ≡ place = cc in
      let some = h.2 in
      let left = f.left in
      inr (inl (record { from = omega arith; to = omega arith; after = omega arith; before = omega arith }));
}

module _ (p limit : ℕ) (ws : List ℕ) where
  pub polynomial_rows_lem : RefusesBy (polynomial_rows (length ws)) (used (polynomial_from p limit) ws)
  polynomial_rows_lem = used_rows (length ws) (polynomial_from p limit ws) (polynomial_at p limit ws) (polynomial_forward p limit ws)

  pub polynomials_rows : (count : ℕ) → RefusesBy (polynomial_rows (length ws)) (used (polynomials_from p limit count) ws)
  polynomials_rows count =
      used_rows (length ws) (polynomials_from p limit count ws) (polynomials_at p limit count ws)
      (polynomials_forward p limit count ws)
