-- `find_absence` meets its contract: the law is `absence-found`.
use native.Mathlib.Omega.{arith}
use Rattle.residue.specs.Modulus.{valid_modulus}
use Rattle.solve_certify.specs.Absence.{stuck_tops, absence_found}
use Rattle.solve_certify.proofs.absence.find_absence.Goals as goal

pub solve_second-requires-clause-tops : goal.solve_second-requires-clause-tops
solve_second-requires-clause-tops c =
    let S = c.requires in
    let has = S.stuck in
    stuck_tops S.bounds.0 S.bounds.2 has.prime has.equations has.slots has.stuck

pub returns : goal.returns
returns c =
    let S = c.requires in
    absence_found (valid_modulus c.args.modulus).prime S.bounds.0 S.bounds.1 S.bounds.2 c.solve_second.ensures
    (omega (arith, c.solve_second.auto, S.area.room)) c.negate.ensures c.copy.ensures
