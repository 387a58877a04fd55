use Prim.Native.Nat.{◌+◌, ◌≤◌}
use mathlib.Core.Path.{◌≡◌}
use native.Mathlib.Omega.{arith}
use borrow.Author.Rules.{rules}
use lib.ListN.{length}
use Rattle.residue.specs.Modulus.{valid_modulus}
use Rattle.solve_lattice.specs.Room.{product_words, output_words, block_words}
use Rattle.solve_descent.proofs.Columns.{stored_length, stored_below, column_taken}
use Rattle.solve_descent.proofs.column.take_column.Goals as goal

pub subtract_product-requires-clause-factors : goal.subtract_product-requires-clause-factors
subtract_product-requires-clause-factors c =
    let prime = (valid_modulus c.args.modulus).prime in
    let h = c.args.output.now in
    let stores = c.store_negated.ensures in
    let output : length h ≡ output_words = search rules in
    let room : c.args.place + block_words ≤ length h = omega (arith, c.requires.bounds.0) in
    let size = stored_length prime h _ c.args.place c.args.y.now block_words stores room in (
      omega (arith, c.min.ensures, room),
      stored_below prime h _ c.args.place c.args.y.now block_words stores room (λ i out. c.requires.coordinates i),
    )

pub returns : goal.returns
returns c =
    let t : length c.args.t.now ≡ product_words = search rules in
    let output : length c.args.output.now ≡ output_words = search rules in
    column_taken (valid_modulus c.args.modulus).prime c.args.t.now c.args.output.now c.args.place c.args.y.now c.args.input.now
    c.args.at _ _ _ _ t (omega (arith, c.requires.bounds.0)) c.store_negated.ensures c.find_leading-found.ensures.size
    c.min.ensures c.subtract_product.ensures
