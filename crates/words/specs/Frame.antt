-- What a system and a certificate have in common as words: a head, polynomials, an end. The head says what is due behind it.
use Rattle.std.specs.Prelude.{ℕ, ◌+◌, ◌-◌, not, List, [], ◌∷◌, ◌++◌, length, take, eqb}
use Rattle.words.specs.Word.{kind, payload, word}
use Rattle.words.specs.Reading.{Reading, turn_back, and_then, renumber}
use Rattle.words.specs.Reading.Reading.{read, fault}
use Rattle.words.specs.Polynomial.{polynomials_words, polynomials_from}

-- so many polynomials modulo p, each of at most so many coefficients
pub record Due : Type 0 where
  pub modulus : ℕ
  pub limit : ℕ
  pub count : ℕ

-- what a head says, and the polynomials in written order
pub record Framed (H : Type 0) : Type 0 where
  pub head : H
  pub entries : List (List ℕ)

-- ---- written form

-- kind 4, end: "the number of words up to and with this one", of which so many stand before it
abbrev pub end_word : ℕ → ℕ
end_word before = word 4 (before + 1)

unfoldable pub framed_words : ℕ → List (List ℕ) → List ℕ
framed_words head fs = head ∷ polynomials_words fs ++ end_word (1 + length (polynomials_words fs)) ∷ []

-- the place of the start word of polynomial k
unfoldable pub entry_place : List (List ℕ) → ℕ → ℕ
entry_place fs k = 1 + length (polynomials_words (take k fs))

-- ---- reading

abbrev pub nothing_from : List ℕ → Reading (Unit {0})
nothing_from [] = read tt []
nothing_from (w ∷ ws) = fault 9 (w ∷ ws)  -- 9: words follow, the first of them

-- the end of so many words
unfoldable pub end_from : ℕ → List ℕ → Reading (Unit {0})
end_from total [] = fault 4 []  -- 4: a word is missing
end_from total (w ∷ ws) =
    turn_back (not (eqb (kind w) 4)) 5 (w ∷ ws)  -- 5: kind 4 due, another found
    (turn_back (not (eqb (payload w) (total - length ws))) 9 (w ∷ ws)  -- 9: end payload wrong, that word
    (nothing_from ws))

-- polynomials, then the end of so many words
unfoldable pub body_from : Due → ℕ → List ℕ → Reading (List (List ℕ))
body_from due total ws =
    and_then (polynomials_from due.modulus due.limit due.count ws) (λ fs rest.
    and_then (end_from total rest) (λ _ rest'. read fs rest'))

-- A head, then its body, whose refusals 4 to 9 have numbers that are greater by the first argument.
unfoldable pub framed_from : {H : Type 0} → ℕ → (List ℕ → Reading H) → (H → Due) → List ℕ → Reading (Framed H)
framed_from by head_from due ws =
    and_then (head_from ws) (λ head rest.
    and_then (renumber by (body_from (due head) (length ws) rest)) (λ fs rest'.
    read (record { head = head; entries = fs }) rest'))
