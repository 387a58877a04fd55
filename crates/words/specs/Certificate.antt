-- A certificate (document 01's card): its values, the limits that they keep, its written form, and the reading of it.
use Rattle.std.specs.Prelude.{ℕ, suc, Bool, true, false, not, ◌&&◌, ◌||◌, List, [], ◌∷◌, ◌++◌, length, get_or, take, drop, eqb}
use Rattle.words.specs.Limits.{Limits, solution_count}
use Rattle.words.specs.Word.{kind, payload, word}
use Rattle.words.specs.Outcome.{Outcome}
use Rattle.words.specs.Reading.{Reading, turn_back, and_then, outcome}
use Rattle.words.specs.Reading.Reading.{read, fault}
use Rattle.words.specs.Polynomial.{Within, VectorWithin, polynomial_words, polynomials_words, coefficients_from}
use Rattle.words.specs.Polynomial.{polynomial_from, polynomials_from}
use Rattle.words.specs.Frame.{Due, Framed, framed_words, end_from, body_from, framed_from}
use Rattle.words.specs.System.{Shape}

-- ---- values: "A solution card holds d, N (m polynomials), w, Z (n polynomials)"; "An absence card holds n polynomials q"

pub data Certificate : Type 0 where
  solution : List ℕ → List (List ℕ) → List ℕ → List (List ℕ) → Certificate
  absence : List (List ℕ) → Certificate

pub data Form : Type 0 where
  solving : Form
  absent : Form

-- ---- limits: "Card polynomials: degree at most 120", for a system of that shape

pub record SolutionWithin (limits : Limits) (h : Shape) (d : List ℕ) (N : List (List ℕ)) (w : List ℕ) (Z : List (List ℕ)) : Type 0
  where
    pub denominator : Within h.modulus limits.certificate_coefficients d
    pub numerators : VectorWithin h.modulus limits.certificate_coefficients h.columns N
    pub certifying_denominator : Within h.modulus limits.certificate_coefficients w
    pub certifying_numerators : VectorWithin h.modulus limits.certificate_coefficients h.rows Z

unfoldable pub CertificateWithin : Limits → Shape → Certificate → Type 0
CertificateWithin limits h (solution d N w Z) = SolutionWithin limits h d N w Z
CertificateWithin limits h (absence q) = VectorWithin h.modulus limits.certificate_coefficients h.rows q

-- ---- written form: "A card is head, then d, N, w, Z or else q, then end."

unfoldable pub certificate_form : Certificate → Form
certificate_form (solution d N w Z) = solving
certificate_form (absence q) = absent

unfoldable pub certificate_entries : Certificate → List (List ℕ)
certificate_entries (solution d N w Z) = d ∷ N ++ w ∷ Z
certificate_entries (absence q) = q

-- kind 5, card head: payload 1 solution, 2 absence
unfoldable pub form_word : Form → ℕ
form_word solving = word 5 1
form_word absent = word 5 2

unfoldable pub certificate_words : Certificate → List ℕ
unfolding certificate_form certificate_entries form_word framed_words polynomials_words polynomial_words
certificate_words c = framed_words (form_word (certificate_form c)) (certificate_entries c)

-- ---- reading

-- whether it is a solution: in a head, of a payload of 1 or 2, whether it is 1
unfoldable pub form_when : Bool → Form
form_when true = solving
form_when false = absent

unfoldable pub certificate_head_from : List ℕ → Reading Form
certificate_head_from [] = fault 24 []  -- "an empty card 24 at 0"
certificate_head_from (w ∷ ws) =
    turn_back (not (eqb (kind w) 5 && (eqb (payload w) 1 || eqb (payload w) 2))) 21 (w ∷ ws)  -- 21: kind not 5 or payload not 1 or 2
    (read (form_when (eqb (payload w) 1)) ws)

unfoldable pub entry_count : Shape → Form → ℕ
entry_count h solving = solution_count h.rows h.columns
entry_count h absent = h.rows

abbrev pub certificate_due : Limits → Shape → Form → Due
certificate_due limits h form = record { modulus = h.modulus; limit = limits.certificate_coefficients; count = entry_count h form }

-- the polynomials in written order, taken apart
unfoldable pub certificate_as : Shape → Form → List (List ℕ) → Certificate
certificate_as h solving fs =
    solution (get_or fs 0 []) (take h.columns (drop 1 fs)) (get_or fs (suc h.columns) []) (drop (suc (suc h.columns)) fs)
certificate_as h absent fs = absence fs

abbrev pub certificate_of : Shape → Framed Form → Certificate
certificate_of h v = certificate_as h v.head v.entries

-- 24 to 29: 4 to 9, in the body, with 20 more
unfoldable pub certificate_from : Limits → Shape → List ℕ → Reading Certificate
certificate_from limits h ws =
    and_then (framed_from 20 certificate_head_from (certificate_due limits h) ws) (λ v rest. read (certificate_of h v) rest)

-- The whole: the values, or number and place; laws go through `certificate_from_shown`.
unfoldable pub read_certificate : Limits → Shape → List ℕ → Outcome Certificate
unfolding certificate_from certificate_head_from form_when entry_count certificate_as
    framed_from body_from end_from polynomials_from polynomial_from coefficients_from
read_certificate limits h ws = outcome (length ws) (certificate_from limits h ws)
