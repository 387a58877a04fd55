-- A product added to zero.
use mathlib.Core.Path.{ap}
use mathlib.Core.List.{List}
use Prim.Native.Nat.{ℕ}
use Rattle.algebra.specs.Coefficients.{add, mul}
use Rattle.modular.specs.Modulo.{modulo}
use Rattle.polynomial.specs.Value.{coefficients_of, represents_is}
use Rattle.polynomial.proofs.value.Polynomial.multiply.Goals as goal

pub returns : goal.returns
unfolding add
returns c =
    let S = c in
    let p : ℕ = S.args.modulus.p in
    represents_is
    c.add_product.ensures
    (ap
    (λ (f : List ℕ). add (modulo p) f (mul (modulo p) (coefficients_of S.args.self) (coefficients_of S.args.g)))
    (c.zero.ensures p).same)
