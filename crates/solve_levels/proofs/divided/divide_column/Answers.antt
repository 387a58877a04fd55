-- `divide_column` meets its contract: the block is the column.
use mathlib.Core.Path.{◌≡◌, ◌∙◌}
use native.Mathlib.Omega.{arith}
use lib.ListN.{length}
use borrow.Author.Rules.{rules}
use Rattle.solve_lattice.specs.Room.{block_words}
use Rattle.solve_levels.specs.Column.{copied_zero, copied_sums, column_divided}
use Rattle.solve_levels.proofs.divided.divide_column.Goals as goal

pub divide-requires-clause-block : goal.divide-requires-clause-block
divide-requires-clause-block c =
    let A = c.args in
    let long : length A.rest.now ≡ block_words = search rules in
    let zero = copied_zero A.modulus.p A.input.now A.at A.rest.now long c.requires.areas.0 in
    let sums = copied_sums A.modulus.p A.input.now A.at A.rest.now long c.requires.areas.0 c.requires.column.1 in
    (omega (arith, c.copy.auto.h), omega arith, rw c.copy.ensures zero, rw c.copy.ensures sums)

pub returns : goal.returns
returns c =
    let A = c.args in
    let long : length A.rest.now ≡ block_words = search rules in
    column_divided A.modulus.p A.input.now A.at A.rest.now long c.requires.areas.0 A.modulus.valid.prime
    c.copy.ensures c.divide.ensures (c.divide.auto.block ∙ c.copy.auto.h ∙ long)
