use mathlib.Core.Path.{subst}
use Rattle.residue.specs.declared.modulus.Modulus.{Modulus}
use Rattle.solve_lattice.specs.Moves.{Stepped}
use Rattle.solve_lattice.specs.References.{memory_of}
use Rattle.solve_lattice.specs.Leading.{lengthened_stepped}
use Rattle.solve_lattice.proofs.insertion.Insertion.turn.Goals as goal

pub returns-clause-stepped : goal.returns-clause-stepped
returns-clause-stepped c =
    let P : Modulus → Type 0 = λ m. Stepped m.p (memory_of c.lengthen.new.self) (memory_of c.take_from_hand.new.self) in
    lengthened_stepped c.lengthen.ensures.lengthened (subst P c.lengthen.ensures.same.modulus c.take_from_hand.ensures.stepped)
