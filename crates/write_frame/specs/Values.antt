-- How polynomials are handed to the writers: their sizes, and their coefficients at the same distance for each. What lies beyond an
-- array counts as 0, so that every pair of arrays stands for polynomials.
use Prim.Native.Nat.{ℕ, zero, suc, ◌+◌, ◌*◌}
use mathlib.Core.List.{List, [], ◌∷◌}
use Rattle.std.specs.Prelude.{get_or}

-- so many numbers of an array, from a place on
unfoldable pub numbers_from : List ℕ → ℕ → ℕ → List ℕ
numbers_from xs at zero = []
numbers_from xs at (suc count) = get_or xs at 0 ∷ numbers_from xs (at + 1) count

-- each so far behind the one before
module _ (stride : ℕ) (sizes coefficients : List ℕ) where
  -- polynomial k
  unfoldable pub polynomial_in : ℕ → List ℕ
  unfolding numbers_from
  polynomial_in k = numbers_from coefficients (stride * k) (get_or sizes k 0)

  -- so many polynomials from number k on
  unfoldable pub polynomials_in : ℕ → ℕ → List (List ℕ)
  unfolding polynomial_in
  polynomials_in k zero = []
  polynomials_in k (suc count) = polynomial_in k ∷ polynomials_in (k + 1) count
