-- `find_reduced` meets its contract: the law is `reduced-found`.
use Prim.Native.Nat.{◌+◌, ◌*◌}
use native.Mathlib.Omega.{arith}
use Rattle.residue.specs.Modulus.{valid_modulus}
use Rattle.solve_lattice.specs.Room.{block_words, slot_words}
use Rattle.solve_popov.specs.Reduced.{copied_most, reduced_found}
use Rattle.solve_popov.proofs.slot.find_reduced.Goals as goal

pub reduce_words-requires-clause-words : goal.reduce_words-requires-clause-words
reduce_words-requires-clause-words c =
    let P = c.requires in
    let i = c.args.i in (
      copied_most P.bounds.1 (slot_words * i) (omega (arith, P.bounds.0)) c.args.block.now (omega (arith, P.room.0))
          P.zeros.0 c.copy.new.h c.copy.ensures,
      copied_most P.bounds.1 (slot_words * i + block_words) (omega (arith, P.bounds.0)) c.args.tail.now
          (omega (arith, P.room.1)) P.zeros.1 c.copy-2.new.h c.copy-2.ensures,
    )

pub returns : goal.returns
returns c =
    let P = c.requires in
    reduced_found (valid_modulus c.args.modulus).prime P.bounds.1 P.bounds.0 P.bounds.2 c.args.block.now c.args.tail.now P.room.0
    P.zeros.0 P.room.1 P.zeros.1 c.copy.new.h c.copy-2.new.h c.copy.ensures c.copy-2.ensures
    c.reduce_words.ensures P.kernel.1 c.reduce_by_kernel.ensures
