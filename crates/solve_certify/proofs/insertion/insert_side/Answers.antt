-- `insert_side` meets its contract: the laws are `side-column` and `side-inserted`.
use mathlib.Core.Path.{refl, subst₂}
use mathlib.Core.List.{List}
use Prim.Native.Nat.{ℕ}
use borrow.Author.Rules.{rules}
use Rattle.residue.specs.Modulus.{valid_modulus}
use Rattle.vector.specs.Bound.{zeros_none, below_reducible}
use Rattle.solve_lattice.specs.Room.{block_words}
use Rattle.solve_certify.specs.Inserted.{LastInserted, block_below, side_column, side_inserted}
use Rattle.solve_certify.proofs.insertion.insert_side.Goals as goal

pub find_leading-found-requires-clause-sums : goal.find_leading-found-requires-clause-sums
find_leading-found-requires-clause-sums c =
    below_reducible _ _ _
    (block_below (valid_modulus c.args.modulus).prime c.args.input.now c.args.columns c.requires.bounds.1.below _ refl
    (zeros_none block_words) c.copy.ensures)

pub start_column-start-requires-clause-column : goal.start_column-start-requires-clause-column
start_column-start-requires-clause-column c =
    side_column (valid_modulus c.args.modulus).prime c.args.input.now c.args.columns c.requires.bounds.1.below _ refl
    (zeros_none block_words) c.copy.ensures c.find_leading-found.ensures.size

pub returns : goal.returns
returns c =
    let A = c.args in
    let end = c.insert.new.self in
    let Q : List ℕ → List ℕ → Type 0 = λ l t. LastInserted A.modulus.p A.columns A.input.now A.level.now l t end.hand.size in
    subst₂ Q (search rules) (search rules) (side_inserted c.start_column-start.ensures _ refl c.copy.ensures c.insert.ensures.inserts)
