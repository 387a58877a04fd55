-- One step of Barrett's method.
use Rattle.std.specs.Prelude.{◌≡◌, ℕ, ◌+◌, ◌%◌, ◌<◌}

-- y is x less a multiple of p, and below 2p
pub record BarrettStep (p x y : ℕ) : Type 0 where
  pub same : y % p ≡ x % p
  pub near : y < p + p
