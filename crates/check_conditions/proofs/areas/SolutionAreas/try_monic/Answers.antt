-- The two tests, one after the other.
use mathlib.Core.Path.{ap}
use mathlib.Core.Bool.{not}
use Prim.Native.Nat.{◌+◌}
use native.Mathlib.Omega.{arith}
use Rattle.check_conditions.proofs.Refusals.{monic_first, monic_second, monic_passed}
use Rattle.check_conditions.proofs.areas.SolutionAreas.try_monic.Goals as goal

pub returns-then-not-is_monic_at : goal.returns-then-not-is_monic_at
returns-then-not-is_monic_at c = monic_first _ _ _ (c.is_monic_at.ensures _) (ap not c.if-not-is_monic_at.true)

pub is_monic_at-requires-2 : goal.is_monic_at-requires-2
is_monic_at-requires-2 c =
    let filled = c.args.self.now.loaded.certificate.filled (c.args.self.now.dimensions.columns + 1) (omega arith) in
    (filled.room, filled.size)

pub returns-then-not-is_monic_at-2 : goal.returns-then-not-is_monic_at-2
returns-then-not-is_monic_at-2 c =
    let first = c in
    monic_second _ _ _ (first.is_monic_at.ensures _) (ap not first.if-not-is_monic_at.false) (c.is_monic_at-2.ensures _)
    (ap not c.if-not-is_monic_at-2.true)

pub returns : goal.returns
returns c =
    let first = c in
    monic_passed _ _ _ (first.is_monic_at.ensures _) (ap not first.if-not-is_monic_at.false) (c.is_monic_at-2.ensures _)
    (ap not c.if-not-is_monic_at-2.false)
