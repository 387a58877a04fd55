-- Laws of `Sums`: there is room for one product more and for a reduction, fewer places allow larger sums, and a step that adds a
-- product to some words takes one place.
use Rattle.std.specs.Prelude.{ℕ, ◌+◌, ◌-◌, ◌*◌, ◌<◌, ◌≤◌, ◌≡◌, List, get_or}
use Rattle.std.proofs.Common.{le_trans, le-add_right, mul-le-mul_right, add-mul, arith}
use Rattle.residue.specs.Sum.{SmallSum}
use Rattle.vector.specs.Stored.{stored}
use Rattle.vector.specs.Multiple.{sum_at}
use Rattle.vector.specs.Bound.{at_most_sum, at_most_stored}
use Rattle.solve_lattice.specs.Memory.{Sums}
use Rattle.solve_lattice.specs.Room.{most_products}

module _ (p : ℕ) (l : List ℕ) where
  pub sums_room : (n : ℕ) → 0 < p → Sums p n l → (i : ℕ) → SmallSum p (get_or l i 0 + p * p)
  sums_room n positive sums i =
      let le : most_products - n ≤ most_products = omega arith in
      omega (arith, sums i, mul-le-mul_right (p * p) le, mul-le-mul_right p positive)

  pub sums_small : (n : ℕ) → 0 < p → Sums p n l → (i : ℕ) → SmallSum p (get_or l i 0)
  sums_small n positive sums i = le_trans (le-add_right (get_or l i 0) (p * p)) (sums_room n positive sums i)

  pub sums_fewer : (m n : ℕ) → n ≤ m → Sums p m l → Sums p n l
  sums_fewer m n le sums i =
      let more : most_products - m ≤ most_products - n = omega arith in
      omega (arith, sums i, mul-le-mul_right (p * p) more)

  pub sums_step : (l' : List ℕ) (d : ℕ) (s : List ℕ) (b m c : ℕ) → l' ≡ stored (sum_at l d s b c) l d m
      → ((j : ℕ) → j < m → c * get_or s (b + j) 0 ≤ p * p) → (n : ℕ) → 0 < n → n ≤ most_products → Sums p n l → Sums p (n - 1) l'
  sums_step l' d s b m c stores products n some most sums i =
      let more : most_products - (n - 1) ≡ most_products - n + 1 = omega arith in
      let grown = at_most_sum (p + (most_products - n) * (p * p)) (p * p) l d s b m c sums products i in
      rw (stores, more) (omega (arith, grown, add-mul (most_products - n) 1 (p * p)))

  -- numbers of at most p stored over some words
  pub sums_stored : (f : ℕ → ℕ) (d m n : ℕ) → ((j : ℕ) → j < m → f j ≤ p) → Sums p n l → Sums p n (stored f l d m)
  sums_stored f d m n small = at_most_stored _ f l d m (λ j lt. omega (arith, small j lt))
