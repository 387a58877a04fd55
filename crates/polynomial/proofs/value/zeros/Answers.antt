-- All words are zero.
use mathlib.Core.Path.{refl}
use Rattle.polynomial.specs.Value.{polynomial_room}
use Rattle.polynomial.proofs.Made.{zeros_are_zero}
use Rattle.polynomial.proofs.value.zeros.Goals as goal

pub returns : goal.returns
returns c = (refl, zeros_are_zero polynomial_room)
