use Prim.Native.Nat.{◌+◌, ◌-◌}
use native.Mathlib.Omega.{arith}
use Rattle.solve_lattice.specs.Room.{block_words, most_products}
use Rattle.solve_lattice.specs.Sums.{sums_fewer}
use Rattle.solve_lattice.proofs.Reducing.{reducing_start, reducing_multiple, reducing_skip, reducing_turn}
use Rattle.solve_lattice.proofs.remainder.reduce_words.Goals.{in-Some, in_default}
use Rattle.solve_lattice.proofs.remainder.reduce_words.Goals as goal

pub loop-k-init : goal.loop-k-init
loop-k-init c =
    let P = c.requires in
    reducing_start c.args.modulus.valid.prime P.level.0 P.level.1 P.room.0 P.room.1 P.words.0 P.words.1

pub take_word-requires-clause-sums : goal.take_word-requires-clause-sums
take_word-requires-clause-sums c =
    let L = c.loop-k in (
      sums_fewer _ L.block (most_products - block_words + L.k) 1 (omega arith) L.invariant.sums,
      sums_fewer _ L.tail (most_products - block_words + L.k) 1 (omega arith) L.invariant.tail_sums,
    )

pub loop-k-preserved : goal.loop-k-preserved
loop-k-preserved c =
    let P = c.requires in
    let prime = c.args.modulus.valid.prime in
    let I = c.loop-k.invariant in
    elim c.match-word_to_take.branch [
      | in-Some w ↦ rw (w.block-is, w.tail-is)
          (let found = w.in-Some.ensures in
          reducing_turn prime P.level.0 P.level.1 P.room.0 P.room.1 I (omega arith)
          (reducing_multiple prime P.level.0 P.level.1 P.room.0 P.room.1 I (omega arith) found.1 found.0)
          found.0 w.take_word.ensures)
      | in_default w ↦ rw (w.block-is, w.tail-is)
          (reducing_skip prime P.level.0 P.level.1 P.room.0 P.room.1 I (omega arith) (w.in_default.ensures.none (omega arith)))
    ]
