-- The products added to the words, then the value of these (`Products`).
use Prim.Native.Nat.{◌+◌, ◌-◌, ◌<◌, ◌≤◌}
use native.Mathlib.Omega.{arith}
use Rattle.modular.specs.Bits.{most16}
use Rattle.residue.specs.Modulus.{ValidModulus, valid_modulus}
use Rattle.polynomial.specs.Value.{represents_is}
use Rattle.polynomial_words.specs.Product.{sum_most}
use Rattle.polynomial.proofs.Products.{words_at_most, products_small, products_are}
use Rattle.polynomial.proofs.value.Polynomial.add_product.Goals as goal

pub add_rows-requires-clause-small : goal.add_rows-requires-clause-small
add_rows-requires-clause-small c =
    let m : ValidModulus c.args.modulus = valid_modulus c.args.modulus in
    let positive : 0 < c.args.modulus.p = omega (arith, m.prime.large) in
    let limit : c.args.modulus.p ≤ most16 = omega (arith, m.limit) in
    let small = words_at_most c.args.modulus.p positive most16 limit in
    let sum = words_at_most c.args.modulus.p positive sum_most (omega arith) in
    let given = c.requires.polynomials in
    (sum c.args.self given.0, small c.args.f given.1, small c.args.g given.2)

pub from_words-requires-clause-small : goal.from_words-requires-clause-small
from_words-requires-clause-small c =
    let m : ValidModulus c.args.modulus = valid_modulus c.args.modulus in
    let given = c.requires.polynomials in
    let small =
    products_small c.args.modulus.p (omega (arith, m.prime.large)) given.0 given.1 given.2 (omega (arith, given.1.within))
    c.add_rows.ensures in
    λ i lt. small (0 + i)

pub returns : goal.returns
returns c =
    let S = c in
    let called = c.add_rows in
    let n = c.max.result in
    represents_is
    c.from_words.ensures
    (products_are
    S.args.modulus.p
    (omega (arith, (valid_modulus S.args.modulus).prime.large))
    S.requires.polynomials.0
    S.requires.polynomials.1
    S.requires.polynomials.2
    called.ensures
    (n - 1)
    (omega (arith, c.max.ensures))
    (omega (arith, c.max.ensures)))
