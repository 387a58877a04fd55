-- Long division on the words of the values, then the values of quotient and remainder.
use mathlib.Core.Path.{ap, ◌∙◌}
use Prim.Native.Nat.{ℕ, ◌<◌}
use native.Mathlib.Omega.{arith}
use Rattle.modular.specs.Modulo.{modulo}
use Rattle.residue.specs.Modulus.{ValidModulus, valid_modulus}
use Rattle.polynomial.specs.Value.{coefficients_of, word_below, leading_residue, represents_is}
use Rattle.division.proofs.Values.{divisor, divided}
use Rattle.division.proofs.divide.Goals as goal

pub inverse-inverse-requires : goal.inverse-inverse-requires
inverse-inverse-requires c =
    let S = c in
    let p : ℕ = S.args.modulus.p in
    let m : ValidModulus S.args.modulus = valid_modulus S.args.modulus in
    let first = leading_residue p S.args.d S.requires.1 (omega (arith, m.prime.large)) S.requires.2 in
    let is = c.leading.ensures p in
    (rw is first.0, rw is first.1)

pub divide_words-requires : goal.divide_words-requires
unfolding coefficients_of
divide_words-requires c =
    let S = c in
    let p : ℕ = S.args.modulus.p in
    let m : ValidModulus S.args.modulus = valid_modulus S.args.modulus in
    let positive : 0 < p = omega (arith, m.prime.large) in
    let f = S.requires.0 in
    let fresh = c.zeros-q in
    let inverse = c.inverse-inverse in
    let first = c.leading in
    let inverts = inverse.ensures ∙ ap (modulo p).inverse (first.ensures p) in record {
      bounds = (omega (arith, f.within), omega (arith, f.room, f.within), omega (arith, f.within, fresh.ensures.0));
      dividend = (f.canonical, λ i. omega (arith, word_below p S.args.f f positive i));
      divisor = divisor p positive S.args.d S.requires.1 S.requires.2 inverse.result inverts;
      zero = λ i. omega (arith, fresh.ensures.1 i);
    }

pub returns : goal.returns
unfolding coefficients_of
returns c =
    let divided-by = c in
    let S = divided-by in
    let p : ℕ = S.args.modulus.p in
    let by = divided-by.divide_words.ensures in
    let done = divided p (omega (arith, (valid_modulus S.args.modulus).prime.large)) S.args.d S.requires.1 S.requires.2 by in record {
      quotient = represents_is c.from_words-quotient.ensures done.quotient;
      remainder = represents_is c.from_words-remainder.ensures done.remainder;
    }
