-- The loop keeps a `TakesCombination`: the slots before q are done.
use Prim.Native.Nat.{◌*◌}
use Rattle.solve_lattice.specs.Memory.{slot_size}
use Rattle.solve_lattice.specs.Room.{product_words, slot_words, lanes}
use Rattle.solve_descent.specs.Combination.{TakesCombination}
use Rattle.solve_descent.specs.Blocks.{block_terms}
use Rattle.solve_descent.proofs.blocks.subtract_blocks.Given as goal

abbrev pub invariant-loop-q : goal.invariant-loop-q
invariant-loop-q l = TakesCombination l.modulus.p lanes product_words l.quotients (λ r. block_terms l.degrees (slot_size l.level r))
    l.level (λ r. slot_words * r) l.q l.initial.t l.t
