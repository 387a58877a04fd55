-- The system in the input area is held by it, and what is then certified is that system (`CertifiedWords`).
use Rattle.solver.proofs.CertifiedWords.{area_system, area_certified}
use Rattle.solver.proofs.certifying.certify_laid.Goals as goal

pub certify-requires-clause-system : goal.certify-requires-clause-system
certify-requires-clause-system c =
    area_system c.requires.shape_within.0 c.requires.shape_within.1 _ c.new-modulus.ensures

pub returns : goal.returns
returns c =
    area_certified c.requires.shape_within.0 c.requires.shape_within.1 _ c.new-modulus.ensures c.certify.ensures
