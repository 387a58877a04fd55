-- A modulus with what a remainder by it needs, as three numbers.
use Rattle.std.specs.Prelude.{◌≡◌, ℕ, ◌*◌, ◌/◌, ◌^◌, ◌≤◌, ◌<◌}
use Rattle.modular.specs.Prime.{Prime}
use Rattle.modular.specs.Bits.{bound32}
use Rattle.modular.specs.LargestPrime.{largest_modulus}

-- p as document 01, "Bounds", has it, the power of two s with 2 s ≤ p < 4 s, and 2^32 s / p rounded down
pub record Reciprocal (p shift reciprocal : ℕ) : Type 0 where
  pub prime : Prime p
  pub limit : p ≤ largest_modulus
  pub scale_low : 2 * 2 ^ shift ≤ p
  pub scale_high : p < 4 * 2 ^ shift
  pub reciprocal_is : reciprocal ≡ bound32 * 2 ^ shift / p
