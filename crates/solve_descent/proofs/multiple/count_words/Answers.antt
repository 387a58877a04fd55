-- What is found is at most 128, a number of whole rows.
use native.Mathlib.Omega.{arith}
use Rattle.solve_lattice.specs.Room.{block_words}
use Rattle.solve_descent.proofs.Multiples.{found_most}
use Rattle.solve_descent.proofs.multiple.count_words.Goals as goal

pub next_multiple_of-requires-clause-fits : goal.next_multiple_of-requires-clause-fits
next_multiple_of-requires-clause-fits c =
    omega (arith, found_most _ c.args.factors.now block_words _ c.find_leading-found.ensures.size)

pub returns : goal.returns
returns c =
    let most = found_most _ c.args.factors.now block_words _ c.find_leading-found.ensures.size in
    (omega (arith, c.find_leading-found.ensures.size), omega arith)
