-- A multiple added to zero.
use mathlib.Core.Path.{ap}
use mathlib.Core.List.{List}
use Prim.Native.Nat.{ℕ}
use Rattle.algebra.specs.Coefficients.{add, scale}
use Rattle.modular.specs.Modulo.{modulo}
use Rattle.polynomial.specs.Value.{coefficients_of, represents_is}
use Rattle.polynomial.proofs.value.Polynomial.scale.Goals as goal

pub returns : goal.returns
unfolding add
returns c =
    let S = c in
    let p : ℕ = S.args.modulus.p in
    represents_is
    c.add_multiple.ensures
    (ap
    (λ (f : List ℕ). add (modulo p) f (scale (modulo p) S.args.c (coefficients_of S.args.self)))
    (c.zero.ensures p).same)
