-- `solve_short` meets its contract: all slots are in Popov form when the second system is solved.
use Rattle.solve_popov.specs.Short.{has_some, has_small, popov_has, short_solved}
use Rattle.solve_popov.proofs.popov.solve_short.Goals as goal

pub reduce_slots-requires-clause-kernel : goal.reduce_slots-requires-clause-kernel
reduce_slots-requires-clause-kernel c =
    let P = c.requires in
    let ends = P.multiple.1 in
    (record { ends = ends; below = P.multiple.0 }, has_some P.tops ends, has_small P.tops ends)

pub solve_second-requires-clause-tops : goal.solve_second-requires-clause-tops
solve_second-requires-clause-tops c = popov_has c.reduce_slots.ensures c.requires.tops

pub returns : goal.returns
returns c = short_solved c.reduce_slots.ensures c.solve_second.ensures
