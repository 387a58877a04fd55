-- Zero as it is; any other leading coefficient has an inverse.
use mathlib.Core.Path.{◌≡◌, sym, ap, ◌∙◌}
use Prim.Native.Nat.{ℕ, ◌<◌}
use native.Mathlib.Omega.{arith}
use lib.ListN.{length}
use Rattle.algebra.specs.Coefficients.{scale, monic}
use Rattle.modular.specs.Modulo.{modulo}
use Rattle.residue.specs.Below.{inverse_below}
use Rattle.residue.specs.Modulus.{ValidModulus, valid_modulus}
use Rattle.polynomial.specs.Value.{coefficients_of, size_length, leading_residue, represents_is}
use Rattle.polynomial.proofs.Multiple.{monic_zero}
use Rattle.polynomial.proofs.value.Polynomial.monic.Goals as goal

pub returns-then-self-lt1 : goal.returns-then-self-lt1
returns-then-self-lt1 c =
    let S = c in
    let none : length (coefficients_of S.args.self) ≡ 0 =
    size_length S.args.modulus.p S.args.self S.requires ∙ omega arith in
    record { valid = S.requires; same = sym (monic_zero S.args.modulus.p (coefficients_of S.args.self) none) }

pub inverse-inverse-requires : goal.inverse-inverse-requires
inverse-inverse-requires c =
    let S = c in
    let p : ℕ = S.args.modulus.p in
    let m : ValidModulus S.args.modulus = valid_modulus S.args.modulus in
    let first = leading_residue p S.args.self S.requires (omega (arith, m.prime.large)) (omega arith) in
    let is = c.leading.ensures p in
    (rw is first.0, rw is first.1)

pub scale-requires : goal.scale-requires
scale-requires c =
    let S = c in
    let m : ValidModulus S.args.modulus = valid_modulus S.args.modulus in
    let below : c.inverse-inverse.result < S.args.modulus.p = rw c.inverse-inverse.ensures (inverse_below _ m.prime.large _) in
    (S.requires, omega (arith, m.prime.large))

pub returns : goal.returns
unfolding monic
returns c =
    let S = c in
    let p : ℕ = S.args.modulus.p in
    represents_is
    c.scale.ensures
    (ap
    (λ (x : ℕ). scale (modulo p) x (coefficients_of S.args.self))
    (c.inverse-inverse.ensures ∙ ap (modulo p).inverse (c.leading.ensures p)))
