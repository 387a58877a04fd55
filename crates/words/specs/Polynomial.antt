-- Polynomials as words: what it means that one keeps a limit, its written form, and the reading of one and of several in a row.
use Rattle.std.specs.Prelude.{ℕ, zero, suc, ◌≤◌, ◌≡◌, not, ◌&&◌, List, [], ◌∷◌, ◌++◌, map, length, eqb, leb, ltb}
use Rattle.modular.specs.Canonical.{Canonical}
use Rattle.words.specs.Word.{kind, payload, word}
use Rattle.words.specs.Reading.{Reading, turn_back, and_then}
use Rattle.words.specs.Reading.Reading.{read, fault}

-- ---- values

-- a polynomial modulo p of at most so many coefficients
pub record Within (p limit : ℕ) (f : List ℕ) : Type 0 where
  pub canonical : Canonical p f
  pub size : length f ≤ limit

unfoldable pub AllWithin : ℕ → ℕ → List (List ℕ) → Type 0
AllWithin p limit [] = Unit {0}
AllWithin p limit (f ∷ fs) = Within p limit f × AllWithin p limit fs

-- so many polynomials
pub record VectorWithin (p limit n : ℕ) (fs : List (List ℕ)) : Type 0 where
  pub entries : AllWithin p limit fs
  pub count : length fs ≡ n

-- ---- written form

-- kind 2, the number of coefficients; then each coefficient, kind 3, lowest power first
unfoldable pub polynomial_words : List ℕ → List ℕ
polynomial_words f = word 2 (length f) ∷ map (word 3) f

unfoldable pub polynomials_words : List (List ℕ) → List ℕ
polynomials_words [] = []
polynomials_words (f ∷ fs) = polynomial_words f ++ polynomials_words fs

-- ---- reading

-- so many coefficients, which are still due
unfoldable pub coefficients_from : ℕ → ℕ → List ℕ → Reading (List ℕ)
coefficients_from p zero ws = read [] ws
coefficients_from p (suc due) [] = fault 4 []  -- 4: a word is missing
coefficients_from p (suc due) (w ∷ ws) =
    turn_back (not (eqb (kind w) 3)) 5 (w ∷ ws)  -- 5: kind 3 due, another found
    (turn_back (leb p (payload w)) 7 (w ∷ ws)  -- 7: coefficient p or more
    (turn_back (eqb due 0 && eqb (payload w) 0) 8 (w ∷ ws)  -- 8: last coefficient 0
    (and_then (coefficients_from p due ws) (λ f rest. read (payload w ∷ f) rest))))

-- one polynomial of at most so many coefficients
unfoldable pub polynomial_from : ℕ → ℕ → List ℕ → Reading (List ℕ)
polynomial_from p limit [] = fault 4 []  -- 4: a word is missing
polynomial_from p limit (w ∷ ws) =
    turn_back (not (eqb (kind w) 2)) 5 (w ∷ ws)  -- 5: kind 2 due, another found
    (turn_back (ltb limit (payload w)) 6 (w ∷ ws)  -- 6: more than 16 coefficients (26: 121)
    (coefficients_from p (payload w) ws))

-- so many polynomials in a row
unfoldable pub polynomials_from : ℕ → ℕ → ℕ → List ℕ → Reading (List (List ℕ))
polynomials_from p limit zero ws = read [] ws
polynomials_from p limit (suc count) ws =
    and_then (polynomial_from p limit ws) (λ f rest.
    and_then (polynomials_from p limit count rest) (λ fs rest'. read (f ∷ fs) rest'))
