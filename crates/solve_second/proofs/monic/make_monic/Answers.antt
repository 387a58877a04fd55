-- What is found says which of the two ways is taken, and the law of that way says the rest.
use Prim.Native.Nat.{◌<◌}
use mathlib.Core.Path.{◌≡◌, sym, subst}
use native.Mathlib.Omega.{arith}
use lib.ListN.{length}
use borrow.Author.Rules.{rules}
use Rattle.residue.specs.Modulus.{valid_modulus}
use Rattle.residue.specs.Below.{inverse_below}
use Rattle.solve_lattice.specs.Room.{block_words}
use Rattle.solve_second.specs.MonicLaws.{found_most, monic_empty, value_positive, value_below, monic_made}
use Rattle.solve_second.proofs.monic.make_monic.Goals as goal

pub returns-then-found-eq0 : goal.returns-then-found-eq0
returns-then-found-eq0 c =
    let m = valid_modulus c.args.modulus in
    let room : length c.args.d.now ≡ block_words = search rules in
    monic_empty m.prime c.args.tail.now c.requires.tail.0 c.find_leading-found.result.size c.find_leading-found.ensures.size
    c.args.d.now _ room c.if-found-eq0.true c.clear.ensures

pub inverse-inverse-requires : goal.inverse-inverse-requires
inverse-inverse-requires c =
    let m = valid_modulus c.args.modulus in
    let found = c.find_leading-found.ensures in
    let some : 0 < c.find_leading-found.result.size = omega (arith, c.if-found-eq0.false) in (
      value_positive m.prime c.args.tail.now c.requires.tail.0 _ found.size _ found.value some,
      value_below m.prime c.args.tail.now c.requires.tail.0 _ found.size _ found.value some,
    )

pub store_scaled-requires-clause-bounds : goal.store_scaled-requires-clause-bounds
store_scaled-requires-clause-bounds c =
    let m = valid_modulus c.args.modulus in
    let within = found_most m.prime c.args.tail.now c.requires.tail.0 _ c.find_leading-found.ensures.size in (
      omega (arith, within),
      omega (arith, within),
      subst (λ w. w < c.args.modulus.p) (sym c.inverse-inverse.ensures)
          (inverse_below c.args.modulus.p m.prime.large c.find_leading-found.result.value),
    )

pub returns : goal.returns
returns c =
    let m = valid_modulus c.args.modulus in
    let found = c.find_leading-found.ensures in
    let some : 0 < c.find_leading-found.result.size = omega (arith, c.if-found-eq0.false) in
    let room : length c.args.d.now ≡ block_words = search rules in
    monic_made m.prime c.args.tail.now c.requires.tail.0 _ found.size c.find_leading-found.result.value found.value some
    _ c.inverse-inverse.ensures c.args.d.now _ _ room c.clear.ensures c.store_scaled.ensures
