-- The needs are laws of Barrett's step at x.
use native.Mathlib.Omega.{arith}
use Rattle.residue.proofs.Barrett.{shift_short, multiple_low, barrett_step}
use Rattle.residue.proofs.modulus.Modulus.barrett_step.Goals as goal

pub overflow_shr-quotient : goal.overflow_shr-quotient
overflow_shr-quotient c = omega (arith, shift_short c.args.self.valid)

pub overflow_sub-result : goal.overflow_sub-result
overflow_sub-result c = multiple_low c.args.self.valid c.args.x c.requires

pub returns : goal.returns
returns c = barrett_step c.args.self.valid c.args.x c.requires
