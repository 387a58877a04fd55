-- `reduce_slot` meets its contract: the law is `slot-reworked`.
use mathlib.Core.Path.{sym, subst}
use Rattle.residue.specs.Modulus.{valid_modulus}
use Rattle.vector.specs.Bound.{zeros_none}
use Rattle.solve_lattice.specs.Room.{block_words, tail_words}
use Rattle.solve_popov.specs.Rework.{SlotReworked}
use Rattle.solve_popov.specs.SlotStored.{slot_reworked}
use Rattle.solve_popov.proofs.slot.reduce_slot.Goals as goal

pub find_reduced-requires-clause-zeros : goal.find_reduced-requires-clause-zeros
find_reduced-requires-clause-zeros c = (zeros_none block_words, zeros_none tail_words)

pub returns : goal.returns
returns c =
    let P = c.requires in
    subst (SlotReworked c.args.modulus.p c.args.level.now c.args.i c.args.d.now) (sym c.store_slot.ensures)
    (slot_reworked (valid_modulus c.args.modulus).prime P.bounds.1 P.bounds.0 P.bounds.2 P.kernel.0 P.kernel.1 P.kernel.2 c.find_reduced.ensures)
