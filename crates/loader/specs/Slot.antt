-- An area of slots of one width, a polynomial in each: its number of coefficients, then these. What stands behind them counts for
-- nothing.
use Rattle.std.specs.Prelude.{◌≡◌, List, [], ℕ, ◌+◌, ◌*◌, ◌≤◌, ◌<◌, length, get_or, take, drop}
use Rattle.modular.specs.Canonical.{Canonical}

-- the polynomial in slot k
unfoldable pub slot : ℕ → List ℕ → ℕ → List ℕ
slot width area k = take (get_or area (k * width) 0) (drop (k * width + 1) area)

-- each of these polynomials stands in its slot
pub record InSlots (width : ℕ) (area : List ℕ) (fs : List (List ℕ)) : Type 0 where
  pub sizes : (k : ℕ) → k < length fs → get_or area (k * width) 0 ≡ length (get_or fs k [])
  pub slots : (k : ℕ) → k < length fs → slot width area k ≡ get_or fs k []

-- slot k holds a polynomial modulo p
pub record SlotFilled (p width : ℕ) (area : List ℕ) (k : ℕ) : Type 0 where
  pub room : k * width + width ≤ length area
  pub size : get_or area (k * width) 0 < width
  pub canonical : Canonical p (slot width area k)
