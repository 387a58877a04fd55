use Prim.Native.Nat.{◌*◌, ◌≤◌}
use mathlib.Core.Path.{◌≡◌}
use native.Mathlib.Nat.{mul-le-mul_right}
use native.Mathlib.Omega.{arith}
use borrow.Author.Rules.{rules}
use lib.ListN.{length}
use Rattle.residue.specs.Modulus.{valid_modulus}
use Rattle.solve_lattice.specs.Room.{product_words, most_coefficients}
use Rattle.solve_descent.proofs.Multiples.{nothing_taken, multiple_taken}
use Rattle.solve_descent.proofs.multiple.subtract_multiple.Goals as goal

pub returns-then-count-eq0 : goal.returns-then-count-eq0
returns-then-count-eq0 c =
    nothing_taken c.args.modulus.p c.args.quotients.now c.args.y.now c.args.factors.now _ _ c.requires.words
    c.find_leading.ensures.size c.min-count.ensures c.if-count-eq0.true

pub reduce_range-requires-clause-sums : goal.reduce_range-requires-clause-sums
reduce_range-requires-clause-sums c j lt =
    let m = valid_modulus c.args.modulus in
    let positive : 1 ≤ c.args.modulus.p = omega (arith, m.prime.large) in
    let square = mul-le-mul_right c.args.modulus.p positive in
    let few : c.min-count.result ≤ most_coefficients = omega (arith, c.min-count.ensures) in
    let products = mul-le-mul_right (c.args.modulus.p * c.args.modulus.p) few in
    omega (arith, products, c.subtract_product.ensures.bound c.args.modulus.p (λ i. omega (arith, c.requires.words i)) j)

pub returns : goal.returns
returns c =
    let rows = c.count_words-words.ensures in
    let quotients : length c.args.quotients.now ≡ product_words = search rules in
    multiple_taken (valid_modulus c.args.modulus).prime _ _ _ c.find_leading.ensures.size c.min-count.ensures rows.0 rows.1
    c.subtract_product.ensures c.reduce_range.ensures quotients c.requires.factors.0 c.requires.words
