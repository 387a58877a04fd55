-- The starred systems of document 01, "Systems to try", in one table: a system, a certificate, and what the check says.
-- `cases-hold` is one proposition over its rows: the written forms, with one right side, read back, and the verdict on them is the
-- expected one.
use Rattle.std.specs.Prelude.{ℕ, ◌≡◌, refl, List, [], ◌∷◌, map}
use Rattle.std.proofs.Common.{◌∙◌, ap}
use Rattle.words.specs.Limits.{office}
use Rattle.words.specs.LimitsLaws.{office_fits}
use Rattle.words.specs.Outcome.{Outcome}
use Rattle.words.specs.Outcome.Outcome.{accepted, refused}
use Rattle.words.specs.System.{System, shape}
use Rattle.words.specs.Systems.{systems_words, single, read_line}
use Rattle.words.specs.Certificate.{Certificate, certificate_words, read_certificate}
use Rattle.words.specs.Certificate.Certificate.{solution, absence}
use Rattle.truth.specs.Verdict.{verdict}
use Rattle.truth.specs.Demand.{True}
use Rattle.truth.proofs.DemandTruth.{verdict_true}

pub record Case : Type 0 where
  pub system : System
  pub certificate : Certificate
  pub expected : Outcome (Unit {0})

-- polynomials by their coefficients
abbrev pub 𝟘 : List ℕ
𝟘 = []

abbrev pub 𝟙 : List ℕ
𝟙 = 1 ∷ []

abbrev pub x : List ℕ
x = 0 ∷ 1 ∷ []

abbrev pub x² : List ℕ
x² = 0 ∷ 0 ∷ 1 ∷ []

abbrev pub x+1 : List ℕ
x+1 = 1 ∷ 1 ∷ []

abbrev pub x²+x : List ℕ
x²+x = 0 ∷ 1 ∷ 1 ∷ []

abbrev pub 𝟚 : List ℕ
𝟚 = 2 ∷ []

-- a system modulo p with n rows and m columns, its matrix row by row
abbrev pub over : ℕ → ℕ → ℕ → List (List ℕ) → List (List ℕ) → System
over p n m A b = record { modulus = p; rows = n; columns = m; matrix = A; side = b }

abbrev pub case_row : System → Certificate → Outcome (Unit {0}) → Case
case_row s c o = record { system = s; certificate = c; expected = o }

abbrev pub case_1 : System
case_1 = over 2 1 1 (x ∷ []) (𝟙 ∷ [])

abbrev pub case_3 : System
case_3 = over 2 2 1 (x ∷ x ∷ []) (𝟙 ∷ 𝟘 ∷ [])

abbrev pub case_7 : System
case_7 = over 3 1 2 (x² ∷ x²+x ∷ []) (𝟙 ∷ [])

unfoldable pub cases : List Case
cases =
    case_row case_1 (solution x (𝟙 ∷ []) x (𝟙 ∷ [])) (accepted tt)
    ∷ case_row (over 2 1 2 (x ∷ x+1 ∷ []) (𝟙 ∷ [])) (solution 𝟙 (𝟙 ∷ 𝟙 ∷ []) 𝟙 (𝟘 ∷ [])) (accepted tt)
    ∷ case_row case_3 (absence (𝟙 ∷ 𝟙 ∷ [])) (accepted tt)
    ∷ case_row (over 2 1 1 (𝟘 ∷ []) (𝟘 ∷ [])) (solution 𝟙 (𝟘 ∷ []) 𝟙 (𝟘 ∷ [])) (accepted tt)
    ∷ case_row (over 2 1 1 (𝟘 ∷ []) (𝟙 ∷ [])) (absence (𝟙 ∷ [])) (accepted tt)
    ∷ case_row (over 3 1 2 (x² ∷ x²+x ∷ []) (x ∷ [])) (solution 𝟙 (𝟚 ∷ 𝟙 ∷ []) 𝟙 (𝟘 ∷ [])) (accepted tt)
    ∷ case_row case_7 (solution x (𝟚 ∷ 𝟙 ∷ []) x (𝟙 ∷ [])) (accepted tt)
    ∷ case_row (over 2 2 2 (x ∷ 𝟙 ∷ 𝟘 ∷ x ∷ []) (𝟘 ∷ 𝟙 ∷ [])) (solution x² (𝟙 ∷ x ∷ []) x² (x ∷ 𝟙 ∷ [])) (accepted tt)
    ∷ case_row case_1 (solution x² (x ∷ []) x (𝟙 ∷ [])) (refused 34 0)
    ∷ case_row case_1 (solution x (𝟙 ∷ []) x² (x ∷ [])) (accepted tt)
    ∷ []

-- what reading and the check give on the written forms of a row
pub record CaseOutcome : Type 0 where
  pub system : Outcome System
  pub certificate : Outcome Certificate
  pub verdict : Outcome (Unit {0})

abbrev pub case_outcome : Case → CaseOutcome
case_outcome c = record {
  system = read_line office 0 (systems_words (single c.system));
  certificate = read_certificate office (shape c.system) (certificate_words c.certificate);
  verdict = verdict office 0 (systems_words (single c.system)) (certificate_words c.certificate);
}

-- the values read back, and the expected verdict
abbrev pub wanted : Case → CaseOutcome
wanted c = record { system = accepted c.system; certificate = accepted c.certificate; verdict = c.expected }

-- the one proposition over all rows
pub cases_hold : map case_outcome cases ≡ map wanted cases
unfolding cases verdict systems_words single certificate_words
cases_hold = refl

-- what an accepted row's certificate says is true: its d is the least denominator, or there is no solution
pub row_true : (c : Case) → case_outcome c ≡ wanted c → c.expected ≡ accepted tt → True c.system c.certificate
row_true c r e = verdict_true office office_fits 0 c.system c.certificate (systems_words (single c.system))
    (ap (λ t. t.system) r) (ap (λ t. t.certificate) r) (ap (λ t. t.verdict) r ∙ e)

-- case 1's words as document 01 prints them
pub case_1_system : systems_words (single case_1)
    ≡ 269549570 ∷ 536870914 ∷ 805306368 ∷ 805306369 ∷ 536870913 ∷ 805306369 ∷ 1073741831 ∷ []
unfolding systems_words single
case_1_system = refl

pub case_1_certificate : certificate_words (solution x (𝟙 ∷ []) x (𝟙 ∷ []))
    ≡ 1342177281 ∷ 536870914 ∷ 805306368 ∷ 805306369 ∷ 536870913 ∷ 805306369 ∷ 536870914 ∷ 805306368 ∷ 805306369 ∷ 536870913 ∷
    805306369
    ∷ 1073741836 ∷ []
unfolding certificate_words
case_1_certificate = refl
