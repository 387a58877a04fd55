-- Document 01's example inputs of rows 31 to 36 (34 is case 9), and its first slip of the trade: "Taking the first nonsingular
-- columns as the least: in case 7 they give x²."; and cases 7 and 6, which share a matrix, as one sheet with two right sides.
use Rattle.std.specs.Prelude.{◌≡◌, refl, List, [], ◌∷◌, map, ℕ}
use Rattle.words.specs.Outcome.{Outcome}
use Rattle.words.specs.Outcome.Outcome.{accepted, refused}
use Rattle.words.specs.Limits.{office}
use Rattle.words.specs.Systems.{Systems, systems_words, single}
use Rattle.words.specs.Certificate.{Certificate, certificate_words}
use Rattle.words.specs.Certificate.Certificate.{solution, absence}
use Rattle.truth.specs.Solution.{LeastDenominator}
use Rattle.truth.specs.Verdict.{verdict}
use Rattle.truth.specs.Demand.{True}
use Rattle.truth.proofs.Cases.{Case, case_outcome, wanted, row_true, over, case_row, case_1, case_3, case_7}
use Rattle.truth.proofs.Cases.{𝟘, 𝟙, 𝟚, x, x², x²+x}

unfoldable pub row_examples : List Case
row_examples =
    case_row case_1 (solution 𝟘 (𝟙 ∷ []) x (𝟙 ∷ [])) (refused 31 0)
    ∷ case_row case_1 (solution x (𝟙 ∷ []) 𝟘 (𝟙 ∷ [])) (refused 31 1)
    ∷ case_row case_1 (solution x (𝟘 ∷ []) x (𝟙 ∷ [])) (refused 32 0)
    ∷ case_row case_1 (solution x (𝟙 ∷ []) x² (𝟙 ∷ [])) (refused 33 0)
    ∷ case_row case_3 (absence (𝟙 ∷ 𝟘 ∷ [])) (refused 35 0)
    ∷ case_row case_3 (absence (𝟘 ∷ 𝟘 ∷ [])) (refused 36 0)
    -- of case 7 the solution by its first column, which is nonsingular
    ∷ case_row case_7 (solution x² (𝟙 ∷ 𝟘 ∷ []) x (𝟙 ∷ [])) (refused 34 0)
    ∷ []

pub row_examples_hold : map case_outcome row_examples ≡ map wanted row_examples
unfolding row_examples verdict systems_words single certificate_words
row_examples_hold = refl

-- case 7's first column alone
pub first_column_least : LeastDenominator (over 3 1 1 (x² ∷ []) (𝟙 ∷ [])) x²
unfolding True verdict systems_words single certificate_words
first_column_least =
    (row_true (case_row (over 3 1 1 (x² ∷ []) (𝟙 ∷ [])) (solution x² (𝟙 ∷ []) x² (𝟙 ∷ [])) (accepted tt)) refl refl).least

-- ---- right sides

-- right side 0 is that of case 7, right side 1 that of case 6
abbrev pub two_lines : Systems
two_lines = record {
  head = record { shape = record { modulus = 3; rows = 1; columns = 2 }; sides = 2 };
  matrix = x² ∷ x²+x ∷ [];
  side_entries = 𝟙 ∷ x ∷ [];
}

abbrev pub certificate_7 : Certificate
certificate_7 = solution x (𝟚 ∷ 𝟙 ∷ []) x (𝟙 ∷ [])

abbrev pub certificate_6 : Certificate
certificate_6 = solution 𝟙 (𝟚 ∷ 𝟙 ∷ []) 𝟙 (𝟘 ∷ [])

abbrev pub line_verdict : ℕ → Certificate → Outcome (Unit {0})
line_verdict k c = verdict office k (systems_words two_lines) (certificate_words c)

-- each is right for its own line only; of a right side that is not there no certificate is read
pub line_examples_hold :
    line_verdict 0 certificate_7 ∷ line_verdict 1 certificate_6 ∷ line_verdict 0 certificate_6 ∷ line_verdict 1 certificate_7
    ∷ line_verdict 2 certificate_7 ∷ verdict office 2 (systems_words two_lines) [] ∷ verdict office 1 (systems_words two_lines) [] ∷ []
    ≡ accepted tt ∷ accepted tt ∷ refused 32 0 ∷ refused 32 0 ∷ refused 40 0 ∷ refused 40 0 ∷ refused 24 0 ∷ []
unfolding verdict systems_words certificate_words
line_examples_hold = refl

-- "by itself": on one sheet right side 0, that of case 4, has an accepted solution, and right side 1, that of case 5, an accepted
-- absence
abbrev pub two_kinds : Systems
two_kinds = record {
  head = record { shape = record { modulus = 2; rows = 1; columns = 1 }; sides = 2 };
  matrix = 𝟘 ∷ [];
  side_entries = 𝟘 ∷ 𝟙 ∷ [];
}

abbrev pub certificate_4 : Certificate
certificate_4 = solution 𝟙 (𝟘 ∷ []) 𝟙 (𝟘 ∷ [])

abbrev pub certificate_5 : Certificate
certificate_5 = absence (𝟙 ∷ [])

abbrev pub kind_verdict : ℕ → Certificate → Outcome (Unit {0})
kind_verdict k c = verdict office k (systems_words two_kinds) (certificate_words c)

pub kind_examples_hold :
    kind_verdict 0 certificate_4 ∷ kind_verdict 1 certificate_5 ∷ kind_verdict 1 certificate_4 ∷ kind_verdict 0 certificate_5 ∷ []
    ≡ accepted tt ∷ accepted tt ∷ refused 32 0 ∷ refused 36 0 ∷ []
unfolding verdict systems_words certificate_words
kind_examples_hold = refl
