-- The part from behind the number of coefficients on, as long as that number says.
use mathlib.Core.Path.{◌≡◌, ap}
use Prim.Native.Nat.{ℕ, ◌+◌, ◌-◌, ◌*◌}
use native.Mathlib.Omega.{arith}
use lib.ListN.{get_or, take, drop}
use Rattle.loader.specs.Slot.{slot}
use Rattle.loader.proofs.coefficients_in.Goals as goal

pub returns : goal.returns
unfolding slot
returns c =
    let S = c in
    let from : ℕ = S.args.k * S.args.width + 1 in
    let size : ℕ = get_or S.args.area.now (S.args.k * S.args.width) 0 in
    let e : from + size - from ≡ size = omega arith in
    ap (λ (n : ℕ). take n (drop from S.args.area.now)) e
