-- No coefficients, no list.
use mathlib.Core.Path.{◌≡◌}
use native.Mathlib.Omega.{arith}
use lib.ListN.{length}
use borrow.Author.Rules.{rules}
use Rattle.polynomial.specs.Value.{polynomial_room, coefficients_of}
use Rattle.polynomial.proofs.Made.{decides_zero}
use Rattle.polynomial.proofs.value.Polynomial.is_zero.Goals as goal

pub returns : goal.returns
unfolding coefficients_of
returns c =
    let f = c.args.self in
    let room : length f.coefficients ≡ polynomial_room = search rules in
    decides_zero f.size f.coefficients (omega arith)
