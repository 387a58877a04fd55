-- The loop keeps a `TakesCombination`: the slots before q are done.
use Prim.Native.Nat.{◌+◌, ◌*◌}
use Rattle.solve_lattice.specs.Room.{block_words, slot_words, tail_words}
use Rattle.solve_descent.specs.Combination.{TakesCombination}
use Rattle.solve_descent.proofs.tails.subtract_combination.Given as goal

abbrev pub invariant-loop-q : goal.invariant-loop-q
invariant-loop-q l = TakesCombination l.modulus.p 1 tail_words l.quotients (λ _. l.count) l.level (λ r. slot_words * r + block_words)
    l.q l.initial.y l.y
