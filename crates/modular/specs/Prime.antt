-- Prime numbers, and the test that decides them.
use Rattle.std.specs.Prelude.{◌≡◌, Bool, true, not, ◌&&◌, ℕ, zero, suc, ◌+◌, ◌-◌, ◌%◌, ◌<◌, eqb, ltb}

-- no number above 1 and below p divides p
pub record Prime (p : ℕ) : Type 0 where
  pub large : 1 < p
  pub undivided : (a : ℕ) → 1 < a → a < p → p % a ≡ 0 → ⊥

-- none of the k numbers from 2 on divides p
unfoldable pub undivided_by : ℕ → ℕ → Bool
undivided_by p zero = true
undivided_by p (suc k) = not (eqb (p % (k + 2)) 0) && undivided_by p k

unfoldable pub prime? : ℕ → Bool
unfolding undivided_by
prime? p = ltb 1 p && undivided_by p (p - 2)
