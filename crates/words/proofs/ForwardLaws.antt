-- A reading of polynomials and an end goes forward, and its refusals have numbers up to 9: so a place is at most the number of
-- words, and a certificate's number at most 29.
use Rattle.std.specs.Prelude.{◌≡◌, Bool, true, false, not, ◌&&◌, List, [], ◌∷◌, ℕ, zero, suc, ◌-◌, ◌≤◌, length, eqb, leb, ltb}
use Rattle.std.proofs.Common.{le_refl, le_trans, arith}
use Rattle.words.specs.Word.{kind, payload}
use Rattle.words.specs.Outcome.Outcome.{refused}
use Rattle.words.specs.Reading.{Reading, turn_back, and_then, words_used}
use Rattle.words.specs.Reading.Reading.{read, fault}
use Rattle.words.specs.Polynomial.{coefficients_from, polynomial_from, polynomials_from}
use Rattle.words.specs.Frame.{Due, nothing_from, end_from, body_from}

-- the words that are left after a reading, or from the one at fault on
abbrev pub remaining : {A : Type 0} → Reading A → List ℕ
remaining (read a rest) = rest
remaining (fault number ws) = ws

-- the number of a refusal, 0 where there is none
abbrev pub number_of : {A : Type 0} → Reading A → ℕ
number_of (read a rest) = 0
number_of (fault number ws) = number

-- of a reading of so many words
pub record Forward {A : Type 0} (total : ℕ) (r : Reading A) : Type 0 where
  pub number : number_of r ≤ 9
  pub left : length (remaining r) ≤ total

forward_turn_back : {A : Type 0} (total : ℕ) (b : Bool) (number : ℕ) (ws : List ℕ) (next : Reading A) → number ≤ 9
    → length ws ≤ total
    → Forward total next → Forward total (turn_back b number ws next)
forward_turn_back total true number ws next n l h = record { number = n; left = l }
forward_turn_back total false number ws next n l h = h

forward_then : {A B : Type 0} {total : ℕ} (r : Reading A) (next : A → List ℕ → Reading B) → Forward total r
    → ((a : A) (rest : List ℕ) → length rest ≤ total → Forward total (next a rest)) → Forward total (and_then r next)
forward_then (read a rest) next h k = k a rest h.left
forward_then (fault number ws) next h k = record { number = h.number; left = h.left }

pub forward_more : {A : Type 0} {total : ℕ} (more : ℕ) {r : Reading A} → total ≤ more → Forward total r → Forward more r
forward_more more l h = record { number = h.number; left = le_trans h.left l }

-- a row of the table at the first word
module _ {A : Type 0} (w : ℕ) (ws : List ℕ) (next : Reading A) where
  forward_row : (b : Bool) (number : ℕ) → number ≤ 9 → Forward (suc (length ws)) next
      → Forward (suc (length ws)) (turn_back b number (w ∷ ws) next)
  forward_row b number n h = forward_turn_back (suc (length ws)) b number (w ∷ ws) next n (le_refl (suc (length ws))) h

pub coefficients_forward : (p due : ℕ) (ws : List ℕ) → Forward (length ws) (coefficients_from p due ws)
unfolding coefficients_from
coefficients_forward p zero ws = record { number = omega arith; left = le_refl (length ws) }
coefficients_forward p (suc due) [] = record { number = omega arith; left = omega arith }
coefficients_forward p (suc due) (w ∷ ws) =
    forward_row w ws _ (not (eqb (kind w) 3)) 5 (omega arith)
    (forward_row w ws _ (leb p (payload w)) 7 (omega arith)
    (forward_row w ws _ (eqb due 0 && eqb (payload w) 0) 8 (omega arith)
    (forward_then (coefficients_from p due ws) _ (forward_more (suc (length ws)) (omega arith) (coefficients_forward p due ws))
    (λ f rest l. record { number = omega arith; left = l }))))

pub polynomial_forward : (p limit : ℕ) (ws : List ℕ) → Forward (length ws) (polynomial_from p limit ws)
unfolding polynomial_from
polynomial_forward p limit [] = record { number = omega arith; left = omega arith }
polynomial_forward p limit (w ∷ ws) =
    forward_row w ws _ (not (eqb (kind w) 2)) 5 (omega arith)
    (forward_row w ws _ (ltb limit (payload w)) 6 (omega arith)
    (forward_more (suc (length ws)) (omega arith) (coefficients_forward p (payload w) ws)))

pub polynomials_forward : (p limit count : ℕ) (ws : List ℕ) → Forward (length ws) (polynomials_from p limit count ws)
unfolding polynomials_from
polynomials_forward p limit zero ws = record { number = omega arith; left = le_refl (length ws) }
polynomials_forward p limit (suc count) ws =
    forward_then (polynomial_from p limit ws) _ (polynomial_forward p limit ws) (λ f rest l.
    forward_then (polynomials_from p limit count rest) _ (forward_more (length ws) l (polynomials_forward p limit count rest))
    (λ fs rest' l'.
    record { number = omega arith; left = l' }))

nothing_forward : (ws : List ℕ) → Forward (length ws) (nothing_from ws)
nothing_forward [] = record { number = omega arith; left = omega arith }
nothing_forward (w ∷ ws) = record { number = omega arith; left = le_refl (suc (length ws)) }

end_forward : (total : ℕ) (ws : List ℕ) → Forward (length ws) (end_from total ws)
unfolding end_from
end_forward total [] = record { number = omega arith; left = omega arith }
end_forward total (w ∷ ws) =
    forward_row w ws _ (not (eqb (kind w) 4)) 5 (omega arith)
    (forward_row w ws _ (not (eqb (payload w) (total - length ws))) 9 (omega arith)
    (forward_more (suc (length ws)) (omega arith) (nothing_forward ws)))

pub body_forward : (due : Due) (total : ℕ) (ws : List ℕ) → Forward (length ws) (body_from due total ws)
unfolding body_from
body_forward due total ws =
    let p = due.modulus in
    let count = due.count in
    forward_then (polynomials_from p due.limit count ws) _ (polynomials_forward p due.limit count ws) (λ fs rest l.
    forward_then (end_from total rest) _ (forward_more (length ws) l (end_forward total rest)) (λ _ rest' l'.
    record { number = omega arith; left = l' }))

-- what a caller is told of a refusal
pub forward_refused : {A : Type 0} (total : ℕ) (r : Reading A) (number place : ℕ) → Forward total r
    → refused number place ≡ words_used total r
    → (number ≤ 9) × (place ≤ total)
forward_refused total (read a rest) number place h e = absurd (let z : ◌≡◌ {A = ℕ} 0 1 = cc in omega arith)
forward_refused total (fault n ws) number place h e =
    let en : number ≡ n = cc in
    let ep : place ≡ total - length ws = cc in
    (omega arith, omega arith)
