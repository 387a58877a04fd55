-- The conditions of 31 to 36 (document 01, "Turned back") as propositions on values. A certificate is turned back with a number at
-- a place exactly when that row's condition holds there and no earlier one does (`TurnedBackLaws`): "given under that condition
-- only".
use Rattle.std.specs.Prelude.{ℕ, ◌<◌, ◌≡◌, List, [], ◌∷◌}
use Rattle.algebra.specs.Coefficients.{mul}
use Rattle.modular.specs.Modulo.{modulo}
use Rattle.words.specs.System.{System, side_entry}
use Rattle.words.specs.Certificate.{Certificate}
use Rattle.words.specs.Certificate.Certificate.{solution, absence}
use Rattle.truth.specs.Solution.{row_of, column_of, side_of, DividesModulo, Monic, Denominator}

-- "first such row", "first such column": of the places 0 to n - 1 the first at which it does not hold
pub record FirstFailing (n : ℕ) (Holds : ℕ → Type 0) (place : ℕ) : Type 0 where
  pub inside : place < n
  pub before : (i : ℕ) → i < place → Holds i
  pub fails : ¬ Holds place

abbrev pub All : ℕ → (ℕ → Type 0) → Type 0
All n Holds = (i : ℕ) → i < n → Holds i

-- row i of A·N = d·b
abbrev pub RowSolved : System → List ℕ → List (List ℕ) → ℕ → Type 0
RowSolved s d N i = row_of s N i ≡ mul (modulo s.modulus) d (side_entry s i)

-- w divides column j of Z·A
abbrev pub ColumnDivided : System → List ℕ → List (List ℕ) → ℕ → Type 0
ColumnDivided s w Z j = DividesModulo s.modulus w (column_of s Z j)

-- d is the denominator of z·b, z = Z/w
abbrev pub SameDenominators : System → List ℕ → List ℕ → List (List ℕ) → Type 0
SameDenominators s d w Z = Denominator s.modulus (side_of s Z ∷ []) w d

-- column j of q·A is zero
abbrev pub ColumnZero : System → List (List ℕ) → ℕ → Type 0
ColumnZero s q j = column_of s q j ≡ []

-- the rows of the table, in its order
pub data SolutionFault (s : System) (d : List ℕ) (N : List (List ℕ)) (w : List ℕ) (Z : List (List ℕ)) (number place : ℕ) : Type 0
  where
    -- "31: d (place 0, tried first) or w (place 1) not monic"
    not_monic : number ≡ 31 → place ≡ 0 → ¬ Monic s.modulus d → SolutionFault s d N w Z number place
    certifying_not_monic : number ≡ 31 → place ≡ 1 → Monic s.modulus d → ¬ Monic s.modulus w
        → SolutionFault s d N w Z number place
    -- "32: A·N not d·b; first such row"
    row : number ≡ 32 → Monic s.modulus d → Monic s.modulus w → FirstFailing s.rows (RowSolved s d N) place
        → SolutionFault s d N w Z number place
    -- "33: w does not divide Z·A; first such column"
    column : number ≡ 33 → Monic s.modulus d → Monic s.modulus w → All s.rows (RowSolved s d N)
        → FirstFailing s.columns (ColumnDivided s w Z) place → SolutionFault s d N w Z number place
    -- "34: the denominators differ; 0"
    denominators : number ≡ 34 → place ≡ 0 → Monic s.modulus d → Monic s.modulus w → All s.rows (RowSolved s d N)
        → All s.columns (ColumnDivided s w Z) → ¬ SameDenominators s d w Z → SolutionFault s d N w Z number place

pub data AbsenceFault (s : System) (q : List (List ℕ)) (number place : ℕ) : Type 0 where
  -- "35: q·A not zero; first such column"
  product : number ≡ 35 → FirstFailing s.columns (ColumnZero s q) place → AbsenceFault s q number place
  -- "36: q·b zero; 0"
  side : number ≡ 36 → place ≡ 0 → All s.columns (ColumnZero s q) → side_of s q ≡ [] → AbsenceFault s q number place

unfoldable pub Fault : System → Certificate → ℕ → ℕ → Type 0
Fault s (solution d N w Z) number place = SolutionFault s d N w Z number place
Fault s (absence q) number place = AbsenceFault s q number place
