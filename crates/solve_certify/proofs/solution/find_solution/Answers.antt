-- `find_solution` meets its contract: the law is `solution-found`.
use Rattle.vector.specs.Bound.{zeros_none}
use Rattle.solve_lattice.specs.Room.{product_words}
use Rattle.solve_lattice.specs.Stage.{valid_stage}
use Rattle.solve_certify.specs.Solution.{vanished_tail, vanished_monic, solution_found}
use Rattle.solve_certify.proofs.solution.find_solution.Goals as goal

pub find_denominator-size-requires-clause-tail : goal.find_denominator-size-requires-clause-tail
find_denominator-size-requires-clause-tail c =
    (vanished_tail (valid_stage c.args.stage).rows c.requires.vanished, c.requires.tail.0, c.requires.tail.1)

pub find_denominator-size-requires-clause-cleared : goal.find_denominator-size-requires-clause-cleared
find_denominator-size-requires-clause-cleared c = zeros_none product_words

pub solve_short-requires-clause-tops : goal.solve_short-requires-clause-tops
solve_short-requires-clause-tops c =
    vanished_monic (valid_stage c.args.stage).rows c.requires.level.1 c.requires.vanished c.find_denominator-size.ensures

pub returns : goal.returns
returns c =
    let S = c.requires in
    let stage = valid_stage c.args.stage in
    solution_found stage.rows S.level.1 c.find_denominator-size.ensures c.solve_short.ensures
    c.divide.ensures
    stage.modulus.prime stage.columns c.multiply.ensures S.areas.1 c.store_solution.ensures
