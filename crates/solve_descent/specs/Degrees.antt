-- How many coefficients the quotients have: none has one from degree k on.
use Rattle.std.specs.Prelude.{ℕ, ◌*◌, ◌≤◌, List}
use Rattle.solve_lattice.specs.Room.{product_words, lanes, product_degrees}
use Rattle.solve_lattice.specs.Memory.{ZeroFrom}

pub record FewDegrees (p : ℕ) (quotients : List ℕ) (k : ℕ) : Type 0 where
  pub most : k ≤ product_degrees
  pub behind : ZeroFrom p quotients 0 product_words (lanes * k)
