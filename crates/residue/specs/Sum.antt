-- How large a sum of products may be that is reduced at once.
use Rattle.std.specs.Prelude.{ℕ, ◌*◌, ◌<◌, ◌≤◌}
use Rattle.std.proofs.Common.{mul-le-mul, mul-le-mul_right, arith}
use Rattle.modular.specs.LargestPrime.{largest_modulus}
use Rattle.modular.specs.Bits.{bound64}

-- so many products of two numbers below p
abbrev pub reducible_products : ℕ
reducible_products = 8192

-- at most what they come to
abbrev pub SmallSum : ℕ → ℕ → Type 0
SmallSum p x = x ≤ reducible_products * (p * p)

-- it fits in a word
pub sum_fits : (p x : ℕ) → p ≤ largest_modulus → SmallSum p x → x < bound64
sum_fits p x limit small = omega (arith, mul-le-mul {n₁ = p} {m₁ = p} {n₂ = largest_modulus} {m₂ = largest_modulus} limit limit)

-- a number of at most p is one
pub residue_small : (p x : ℕ) → 0 < p → x ≤ p → SmallSum p x
residue_small p x positive most = omega (arith, mul-le-mul_right p positive)
