-- `settle` meets its contract: the two cases are laws of `Settled`.
use mathlib.Core.Path.{◌≡◌}
use native.Mathlib.Omega.{arith}
use lib.ListN.{length}
use borrow.Author.Rules.{rules}
use Rattle.std.proofs.iter.Serving.{serving}
use Rattle.solve_lattice.specs.Sums.{sums_small}
use Rattle.solve_lattice.specs.Room.{block_words}
use Rattle.solve_levels.specs.Settled.{settled_stuck, settled_vanished}
use Rattle.solve_levels.proofs.settling.settle.Goals as goal

pub find_leading-requires-clause-sums : goal.find_leading-requires-clause-sums
find_leading-requires-clause-sums c =
    λ j lt. sums_small _ c.args.work.now.tail.now _ (omega (arith, c.args.work.now.modulus.valid.prime.large)) c.args.work.now.valid.hand.tail_sums j

pub store_each-requires-clause-callable : goal.store_each-requires-clause-callable
store_each-requires-clause-callable c =
    let W = c.args.work.now in
    let small = sums_small _ W.tail.now _ (omega (arith, W.modulus.valid.prime.large)) W.valid.hand.tail_sums in
    grind (serving, arith, small)

pub returns-then-work-eq0-clause-settled : goal.returns-then-work-eq0-clause-settled
returns-then-work-eq0-clause-settled c =
    let A = c.args in
    let kernel : length A.kernel.now ≡ block_words = search rules in
    settled_vanished A.work.now.modulus.valid.prime c.args.work.now.valid c.requires.stopped A.kernel.now kernel (omega arith)
    _ c.find_leading.ensures.size _ (c.store_each.ensures _ (λ j x lt post. search rules))

pub returns-clause-settled : goal.returns-clause-settled
returns-clause-settled c =
    let A = c.args in
    let kernel : length A.kernel.now ≡ block_words = search rules in
    settled_stuck A.work.now.modulus.valid.prime c.args.work.now.valid c.requires.stopped A.kernel.now kernel
    (omega (arith, c.if-work-eq0.false)) c.swap_with_slot.ensures.swapped
    _ c.clear.ensures
