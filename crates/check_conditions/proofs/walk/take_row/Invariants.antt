-- The loop keeps a `Walking`: what is carried, and what the coefficients that are left add.
use Prim.Native.Nat.{◌+◌, ◌*◌}
use Rattle.algebra.specs.Coefficients.{mul}
use Rattle.modular.specs.Modulo.{modulo}
use Rattle.modular.specs.Delay.{degree}
use Rattle.words.specs.Limits.{office}
use Rattle.loader.specs.Slot.{slot}
use Rattle.loader.specs.Widths.{system_width, certificate_width}
use Rattle.check_conditions.specs.Walk.{carried_in, take_along}
use Rattle.check_conditions.proofs.Walking.{Walking}
use Rattle.check_conditions.proofs.walk.take_row.Given as goal

abbrev pub invariant-loop-k : goal.invariant-loop-k
invariant-loop-k l =
    Walking l.areas.dimensions.modulus.p l.w l.areas.dimensions.columns (l.i * office.system_coefficients)
    (λ j. slot system_width l.areas.system.now (l.i * l.areas.dimensions.columns + j))
    (λ j. take_along l.areas.dimensions.modulus.p l.w (carried_in l.areas.dimensions.modulus.p (degree l.w) l.initial.carried j)
    (mul (modulo l.areas.dimensions.modulus.p) (slot certificate_width l.areas.certificate.now (l.areas.dimensions.columns + 2 + l.i))
    (slot system_width l.areas.system.now (l.i * l.areas.dimensions.columns + j))))
    l.longest l.carried l.window l.k
