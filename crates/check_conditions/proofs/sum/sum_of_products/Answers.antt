use mathlib.Core.Path.{◌≡◌, refl}
use Prim.Native.Nat.{◌<◌}
use native.Mathlib.Omega.{arith}
use lib.ListN.{length}
use borrow.Author.Rules.{rules}
use Rattle.residue.specs.Modulus.{ValidModulus, valid_modulus}
use Rattle.polynomial.specs.Value.{represents_is, polynomial_room}
use Rattle.loader.specs.SlotLaws.{taken_canonical, taken_size, canonical_word}
use Rattle.check_conditions.specs.Products.{product}
use Rattle.check_conditions.proofs.Summing.{summing_start, summing_fits, summing_turn, summing_end}
use Rattle.check_conditions.proofs.sum.sum_of_products.Goals as goal

pub loop-k-init : goal.loop-k-init
loop-k-init c =
    let S = c in
    summing_start _ (omega (arith, (valid_modulus S.args.modulus).prime.large)) _ _ _ c.zeros-h.ensures.0 c.zeros-h.ensures.1

pub overflow_add-start : goal.overflow_add-start
overflow_add-start c =
    omega (
      arith,
      (c.requires.certificate c.loop-k.k
          c.loop-k-test.true).room,
    )

pub coefficients_in-g-requires : goal.coefficients_in-g-requires
coefficients_in-g-requires c =
    let filled = c.requires.certificate c.loop-k.k
    c.loop-k-test.true in
    (filled.room, filled.size)

pub add_rows-requires : goal.add_rows-requires
add_rows-requires c =
    let S = c in
    let L = c.loop-k in
    let taken = c.loop-k-test.true in
    let m : ValidModulus S.args.modulus = valid_modulus S.args.modulus in
    let positive : 0 < S.args.modulus.p = omega (arith, m.prime.large) in
    let f = S.requires.system L.k taken in
    let g = S.requires.certificate L.k taken in
    let is_f = c.coefficients_in-f.ensures in
    let is-g = c.coefficients_in-g.ensures in
    let long : length L.h ≡ polynomial_room = L.invariant.long in record {
      n_in_bounds = (omega arith, omega arith, omega (arith, taken_size is_f f, taken_size is-g g), omega (arith, taken_size is_f f));
      small = (
        summing_fits _ positive _ _ _ _ L.invariant S.requires.bounds m.limit,
        λ i. omega (arith, canonical_word _ positive _ (taken_canonical is_f f) i, m.limit),
        λ i. omega (arith, canonical_word _ positive _ (taken_canonical is-g g) i, m.limit),
      );
    }

pub loop-k-preserved : goal.loop-k-preserved
unfolding product
loop-k-preserved c =
    let S = c in
    let L = c.loop-k in
    let taken = c.loop-k-test.true in
    let positive : 0 < S.args.modulus.p = omega (arith, (valid_modulus S.args.modulus).prime.large) in
    let f = S.requires.system L.k taken in
    let g = S.requires.certificate L.k taken in
    let is_f = c.coefficients_in-f.ensures in
    let is-g = c.coefficients_in-g.ensures in
    let called = c.add_rows in
    summing_turn
    _
    positive
    _
    _
    _
    _
    L.invariant
    _
    _
    (taken_canonical is_f f)
    (taken_canonical is-g g)
    (omega (arith, taken_size is_f f))
    (omega (arith, taken_size is-g g))
    (rw (is_f, is-g) refl)
    taken
    called.new.h
    (search rules)
    called.ensures

pub returns : goal.returns
returns c =
    let S = c in
    let L = c.loop-k in
    represents_is c.from_words.ensures (summing_end _ _ _ _ _ L.invariant c.loop-k-test.false)
