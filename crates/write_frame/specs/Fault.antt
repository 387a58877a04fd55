-- A value at fault, said without trying (document 01, "Turned back"): "The first value at fault in written order decides, .., at
-- the place its word would have". Numbers are greater by so many for a certificate.
use Rattle.std.specs.Prelude.{◌≡◌, List, [], ℕ, suc, ◌+◌, ◌≤◌, ◌<◌, length, get_or, take}
use Rattle.words.specs.Polynomial.{AllWithin}
use Rattle.words.specs.Frame.{entry_place}

-- among the coefficients of f, the first of whose words would stand at a place
pub data CoefficientFault (p by at : ℕ) (f : List ℕ) (number place : ℕ) : Type 0 where
  -- 7: coefficient j is p or more, and none before it is
  large : (j : ℕ) → j < length f → ((i : ℕ) → i < j → get_or f i 0 < p) → p ≤ get_or f j 0 → number ≡ 7 + by → place ≡ at + j
      → CoefficientFault p by at f number place
  -- 8: the last coefficient, j, is 0, and all are below p
  last_zero : (j : ℕ) → length f ≡ suc j → ((i : ℕ) → i < length f → get_or f i 0 < p) → get_or f j 0 ≡ 0 → number ≡ 8 + by
      → place ≡ at + j → CoefficientFault p by at f number place

-- of the polynomial f, whose start word would stand at a place
pub data PolynomialFault (p limit by at : ℕ) (f : List ℕ) (number place : ℕ) : Type 0 where
  -- 6: more than 16 coefficients (26: 121)
  many : limit < length f → number ≡ 6 + by → place ≡ at → PolynomialFault p limit by at f number place
  coefficient : length f ≤ limit → CoefficientFault p by (at + 1) f number place → PolynomialFault p limit by at f number place

-- of several in written order: of polynomial k, behind some that keep the limits
pub record ValueFault (p limit by : ℕ) (fs : List (List ℕ)) (number place : ℕ) : Type 0 where
  pub k : ℕ
  pub some : k < length fs
  pub before : AllWithin p limit (take k fs)
  pub fault : PolynomialFault p limit by (entry_place fs k) (get_or fs k []) number place
