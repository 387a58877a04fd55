-- The loop keeps an `Inserting`; its measure is the places.
use Rattle.solve_lattice.specs.Memory.{places}
use Rattle.solve_lattice.specs.References.{memory_of, SameReferences}
use Rattle.solve_lattice.proofs.Inserting.{Inserting}
use Rattle.solve_lattice.proofs.insertion.Insertion.insert.Given as goal

abbrev pub invariant-loop-self : goal.invariant-loop-self
invariant-loop-self l = Inserting l.initial.self.modulus.p (memory_of l.initial.self) (memory_of l.self) × SameReferences l.initial.self l.self

abbrev pub decreases-loop-self : goal.decreases-loop-self
decreases-loop-self l = places (memory_of l.self)
