-- One multiple added to the words, then the value of these (`Multiple`).
use Prim.Native.Nat.{◌+◌, ◌<◌}
use native.Mathlib.Omega.{arith}
use Rattle.residue.specs.Modulus.{ValidModulus, valid_modulus}
use Rattle.polynomial.specs.Value.{word_below, represents_is}
use Rattle.polynomial.proofs.Multiple.{multiple_fits, multiple_small, multiple_is}
use Rattle.polynomial.proofs.value.Polynomial.add_multiple.Goals as goal

pub add_scaled-requires-clause-small : goal.add_scaled-requires-clause-small
add_scaled-requires-clause-small c =
    let m : ValidModulus c.args.modulus = valid_modulus c.args.modulus in
    let positive : 0 < c.args.modulus.p = omega (arith, m.prime.large) in
    λ j lt. omega (arith, word_below c.args.modulus.p c.args.g c.requires.2 positive (0 + j), m.limit)

pub add_scaled-requires-clause-fits : goal.add_scaled-requires-clause-fits
add_scaled-requires-clause-fits c =
    let m : ValidModulus c.args.modulus = valid_modulus c.args.modulus in
    let positive : 0 < c.args.modulus.p = omega (arith, m.prime.large) in
    λ j lt. multiple_fits c.args.modulus.p positive c.requires.0 c.requires.2 c.args.c c.requires.1 m.limit j

pub from_words-requires-clause-small : goal.from_words-requires-clause-small
from_words-requires-clause-small c =
    let m : ValidModulus c.args.modulus = valid_modulus c.args.modulus in
    let positive : 0 < c.args.modulus.p = omega (arith, m.prime.large) in
    let small = multiple_small c.args.modulus.p positive c.requires.0 c.requires.2 c.args.c c.requires.1 _ c.add_scaled.ensures.words in
    λ i lt. small (0 + i)

pub returns : goal.returns
returns c =
    let S = c in
    let m : ValidModulus S.args.modulus = valid_modulus S.args.modulus in
    let positive : 0 < S.args.modulus.p = omega (arith, m.prime.large) in
    let called = c.add_scaled in
    represents_is
    c.from_words.ensures
    (multiple_is
    S.args.modulus.p
    positive
    S.requires.0
    S.requires.2
    S.args.c
    S.requires.1
    called.new.h
    c.max.result
    called.ensures.polynomials
    (omega (arith, c.max.ensures))
    (omega (arith, c.max.ensures)))
