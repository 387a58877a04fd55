-- The verdict on two lists of words, a system's and a certificate's (document 01, "Turned back"): the refusals of reading, then 31
-- to 36 in order. "The check reads the sheet, then the card, then tries 31 to 36." It is "told which right side is meant"; 40 comes
-- "after the sheet has been read and before 11 or the card" (document 02, item 1).
use Rattle.std.specs.Prelude.{ℕ, zero, suc, ◌≡◌, Bool, true, false, not, ◌&&◌, List, [], ◌∷◌, eqb}
use Rattle.std.proofs.Common.{ap}
use Rattle.algebra.specs.Coefficients.{mul, leading, divide, remainder}
use Rattle.modular.specs.Modulo.{modulo}
use Rattle.words.specs.Limits.{Limits}
use Rattle.words.specs.Outcome.{Outcome, refuse, followed_by}
use Rattle.words.specs.Outcome.Outcome.{accepted, refused}
use Rattle.words.specs.System.{System, side_entry, shape}
use Rattle.words.specs.Systems.{read_line}
use Rattle.words.specs.Certificate.{Certificate, read_certificate}
use Rattle.words.specs.Certificate.Certificate.{solution, absence}
use Rattle.truth.specs.Solution.{row_of, column_of, side_of}
use Rattle.truth.specs.Right.{certified}

abbrev pub zero? : List ℕ → Bool
zero? [] = true
zero? (a ∷ f) = false

unfoldable pub same? : List ℕ → List ℕ → Bool
same? [] [] = true
same? [] (b ∷ g) = false
same? (a ∷ f) [] = false
same? (a ∷ f) (b ∷ g) = eqb a b && same? f g

abbrev pub monic? : ℕ → List ℕ → Bool
monic? p f = eqb (leading (modulo p) f) 1

-- a row of the table for the places 0 to n - 1: the first at which the condition holds; where there is none, what comes next
unfoldable pub refuse_first : {A : Type 0} → ℕ → (ℕ → Bool) → ℕ → Outcome A → Outcome A
refuse_first zero holds number next = next
refuse_first (suc n) holds number next = refuse_first n holds number (refuse (holds n) number n next)

unfoldable pub solution_verdict : System → List ℕ → List (List ℕ) → List ℕ → List (List ℕ) → Outcome (Unit {0})
unfolding refuse_first same? row_of column_of certified modulo mul divide leading
solution_verdict s d N w Z =
    refuse (not (monic? s.modulus d)) 31 0  -- 31: d not monic, tried first
    (refuse (not (monic? s.modulus w)) 31 1  -- 31: w not monic
    (refuse_first s.rows (λ i. not (same? (row_of s N i) (mul (modulo s.modulus) d (side_entry s i)))) 32  -- 32: A_N not d·b
    (refuse_first s.columns (λ j. not (zero? (remainder (modulo s.modulus) (column_of s Z j) w))) 33  -- 33: w ∤ Z_A
    (refuse (not (same? (certified s w Z) d)) 34 0  -- 34: the denominators differ
    (accepted tt)))))

unfoldable pub absence_verdict : System → List (List ℕ) → Outcome (Unit {0})
unfolding refuse_first column_of side_of
absence_verdict s q =
    refuse_first s.columns (λ j. not (zero? (column_of s q j))) 35  -- 35: q_A not zero
    (refuse (zero? (side_of s q)) 36 0  -- 36: q·b zero
    (accepted tt))

unfoldable pub certificate_verdict : System → Certificate → Outcome (Unit {0})
unfolding solution_verdict absence_verdict
certificate_verdict s (solution d N w Z) = solution_verdict s d N w Z
certificate_verdict s (absence q) = absence_verdict s q

-- on the certificate's words cs for right side k of the systems that the words ws hold
unfoldable pub verdict : Limits → (k : ℕ) → (ws cs : List ℕ) → Outcome (Unit {0})
unfolding read_line read_certificate certificate_verdict
verdict limits k ws cs =
    followed_by (read_line limits k ws) (λ s.
    followed_by (read_certificate limits (shape s) cs) (λ c.
    certificate_verdict s c))

-- 1 to 9, and 40 "after the sheet has been read and before 11 or the card": whatever the certificate's words are
pub line_refused_first : (limits : Limits) (k : ℕ) (ws cs : List ℕ) {number place : ℕ} → read_line limits k ws ≡ refused number place
    → verdict limits k ws cs ≡ refused number place
unfolding verdict
line_refused_first limits k ws cs e =
    ap (λ o. followed_by o (λ s. followed_by (read_certificate limits (shape s) cs) (certificate_verdict s))) e
