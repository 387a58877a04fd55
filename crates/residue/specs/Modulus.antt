-- A modulus with its precomputed reciprocal, as the code holds it.
use Rattle.std.specs.Prelude.{◌≡◌, ◌*◌, ◌/◌, ◌^◌, ◌≤◌, ◌<◌}
use Rattle.modular.specs.Prime.{Prime}
use Rattle.modular.specs.Bits.{bound32}
use Rattle.modular.specs.LargestPrime.{largest_modulus}
use Rattle.residue.specs.declared.modulus.Modulus.{Modulus}

-- p as document 01, "Bounds", has it, the power of two s with 2 s ≤ p < 4 s, and 2^32 s / p rounded down
pub record ValidModulus (m : Modulus) : Type 0 where
  pub prime : Prime m.p
  pub limit : m.p ≤ largest_modulus
  pub scale_low : 2 * 2 ^ m.shift ≤ m.p
  pub scale_high : m.p < 4 * 2 ^ m.shift
  pub reciprocal : m.reciprocal ≡ bound32 * 2 ^ m.shift / m.p

-- every modulus that there is
pub valid_modulus : (m : Modulus) → ValidModulus m
valid_modulus m = record {
  prime = m.valid.prime;
  limit = m.valid.limit;
  scale_low = m.valid.scale_low;
  scale_high = m.valid.scale_high;
  reciprocal = m.valid.reciprocal_is;
}
