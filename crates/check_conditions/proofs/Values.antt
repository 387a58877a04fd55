-- What is computed from values stands for what the definitions compute from their polynomials.
use mathlib.Core.Path.{ap, ap₂, ◌∙◌}
use mathlib.Core.List.{List}
use Prim.Native.Nat.{ℕ, ◌<◌}
use native.Mathlib.Omega.{arith}
use lib.ListN.{length}
use Rattle.algebra.specs.Coefficients.{monic, quotient, gcd}
use Rattle.modular.specs.Prime.{Prime}
use Rattle.modular.specs.Modulo.{modulo}
use Rattle.modular.specs.Lists.{leading_gcd}
use Rattle.polynomial.specs.declared.value.Polynomial.{Polynomial}
use Rattle.polynomial.specs.Value.{coefficients_of, Represents, size_length, represents_is}
use Rattle.check_conditions.proofs.Monic.{monic_some}

pub value_size : {p : ℕ} {x : Polynomial} {f : List ℕ} → Represents p x f → 0 < length f → 0 < x.size
value_size {p} {x} r some = omega (arith, size_length p x r.valid, ap length r.same)

module _ {p : ℕ} {x y : Polynomial} {f g : List ℕ} (hx : Represents p x f) (hy : Represents p y g) where
  module _ {d : Polynomial} (hd : Represents p d (gcd (modulo p) (coefficients_of x) (coefficients_of y))) where
    -- the divisor of x, which is not zero, and y is not zero
    pub gcd_some : Prime p → 0 < length f → 0 < d.size
    gcd_some prime some =
        value_size hd (monic_some p _ (leading_gcd p prime _ _ hx.valid.canonical hy.valid.canonical
        (omega (arith, ap length hx.same))))

    -- x divided by it, made monic
    pub certified_value : {q r : Polynomial} → Represents p q (quotient (modulo p) (coefficients_of x) (coefficients_of d))
        → Represents p r (monic (modulo p) (coefficients_of q))
        → Represents p r (monic (modulo p) (quotient (modulo p) f (gcd (modulo p) f g)))
    certified_value hq hr =
        represents_is hr (ap (monic (modulo p)) (hq.same
        ∙ ap₂ (quotient (modulo p)) hx.same (hd.same ∙ ap₂ (gcd (modulo p)) hx.same hy.same)))
