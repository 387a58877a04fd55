use Rattle.solve_lattice.proofs.insertion.Insertion.take_from_hand.Goals as goal

pub invariant_of-self : goal.invariant_of-self
invariant_of-self c = record { valid = c.take_from_hand-self.ensures.moved.valid }
