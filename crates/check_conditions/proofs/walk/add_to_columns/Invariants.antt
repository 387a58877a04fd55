-- The loop keeps an `AddingTerms`.
use Prim.Native.Nat.{◌+◌, ◌-◌, ◌*◌}
use lib.ListN.{get_or}
use Rattle.words.specs.Limits.{office}
use Rattle.vector.specs.Reduced.{polynomial}
use Rattle.loader.specs.Slot.{slot}
use Rattle.loader.specs.Widths.{system_width}
use Rattle.check_conditions.proofs.Adding.{AddingTerms}
use Rattle.check_conditions.proofs.walk.add_to_columns.Given as goal

abbrev pub invariant-loop-j : goal.invariant-loop-j
invariant-loop-j l =
    AddingTerms l.areas.dimensions.modulus.p l.e (l.i * office.system_coefficients + l.k) l.areas.dimensions.columns
    (polynomial l.areas.dimensions.modulus.p l.window (office.system_coefficients - l.k) l.e)
    (λ n. get_or (slot system_width l.areas.system.now (l.i * l.areas.dimensions.columns + n)) l.k 0) l.initial.carried l.carried l.j
