-- The definition computes: case 1's system and certificate, each of their polynomials, also with a second right side, and the
-- example of row 12.
use Rattle.std.specs.Prelude.{◌≡◌, refl, List, [], ◌∷◌, map, ℕ}
use Rattle.words.specs.Limits.{office}
use Rattle.words.specs.Polynomial.{polynomials_words}
use Rattle.words.specs.Outcome.{Outcome}
use Rattle.words.specs.Outcome.Outcome.{accepted, refused}
use Rattle.lookup.specs.Lookup.{Part, polynomial_lookup}
use Rattle.lookup.specs.Lookup.Of.{system, certificate}

system_words : List ℕ
system_words = 0x10110002 ∷ 0x20000002 ∷ 0x30000000 ∷ 0x30000001 ∷ 0x20000001 ∷ 0x30000001 ∷ 0x40000007 ∷ []

certificate_words_lem : List ℕ
certificate_words_lem =
    0x50000001 ∷ 0x20000002 ∷ 0x30000000 ∷ 0x30000001 ∷ 0x20000001 ∷ 0x30000001 ∷ 0x20000002 ∷ 0x30000000 ∷ 0x30000001
    ∷ 0x20000001 ∷ 0x30000001 ∷ 0x4000000C
    ∷ []

x : List ℕ
x = 0x20000002 ∷ 0x30000000 ∷ 0x30000001 ∷ []

one : List ℕ
one = 0x20000001 ∷ 0x30000001 ∷ []

abbrev at : ℕ → List ℕ → Outcome Part
at from words = accepted (record { from = from; words = words })

-- x, then 1, then no more
system_words_shown : map (polynomial_lookup office system_words certificate_words_lem system) (0 ∷ 1 ∷ 2 ∷ [])
    ≡ at 1 x ∷ at 4 one ∷ refused 12 0 ∷ []
unfolding polynomial_lookup polynomials_words system_words certificate_words_lem x one
system_words_shown = refl

-- equal words at another place are another part
certificate_words_shown : map (polynomial_lookup office system_words certificate_words_lem certificate) (0 ∷ 1 ∷ 2 ∷ 3 ∷ 4 ∷ [])
    ≡ at 1 x ∷ at 4 one ∷ at 6 x ∷ at 9 one ∷ refused 12 0 ∷ []
unfolding polynomial_lookup polynomials_words system_words certificate_words_lem x one
certificate_words_shown = refl

-- with a second right side, x, behind the first: it is counted too
two_words : List ℕ
two_words =
    0x11110002 ∷ 0x20000002 ∷ 0x30000000 ∷ 0x30000001 ∷ 0x20000001 ∷ 0x30000001 ∷ 0x20000002 ∷ 0x30000000 ∷ 0x30000001 ∷ 0x4000000A
    ∷ []

two_words_shown : map (polynomial_lookup office two_words certificate_words_lem system) (0 ∷ 1 ∷ 2 ∷ 3 ∷ [])
    ≡ at 1 x ∷ at 4 one ∷ at 6 x ∷ refused 12 0 ∷ []
unfolding polynomial_lookup polynomials_words two_words certificate_words_lem x one
two_words_shown = refl

-- both are read, whichever is asked for, and the system first
first_read : polynomial_lookup office [] [] certificate 0 ∷ polynomial_lookup office system_words [] system 2 ∷ []
    ≡ refused 4 0 ∷ refused 24 0 ∷ []
unfolding polynomial_lookup system_words
first_read = refl
