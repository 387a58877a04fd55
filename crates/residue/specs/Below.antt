-- What the operations modulo p give is again below p: what a caller needs to use a result as an operand.
use Rattle.std.specs.Prelude.{ℕ, ◌<◌}
use Rattle.std.proofs.Math.Nat.{mod-lt}
use Rattle.std.proofs.Common.{arith}
use Rattle.modular.specs.Modulo.{modulo}
use Rattle.modular.specs.Inverse.{inverse_below as below}

module _ (p : ℕ) (large : 1 < p) where
  pub add_below : (a b : ℕ) → (modulo p).add a b < p
  unfolding modulo
  add_below a b = mod-lt _ (omega arith)

  pub neg_below : (a : ℕ) → (modulo p).neg a < p
  unfolding modulo
  neg_below a = mod-lt _ (omega arith)

  pub mul_below : (a b : ℕ) → (modulo p).mul a b < p
  unfolding modulo
  mul_below a b = mod-lt _ (omega arith)

  pub inverse_below : (a : ℕ) → (modulo p).inverse a < p
  unfolding modulo
  inverse_below a = below p a large
