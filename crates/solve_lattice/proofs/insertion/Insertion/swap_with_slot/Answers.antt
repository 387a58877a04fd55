-- Two calls of `exchange`, for the blocks and for the tails; what they leave is the memory of `Swapping`.
use Prim.Native.Nat.{◌<◌}
use native.Mathlib.Nat.{le_of_lt}
use Rattle.solve_lattice.specs.Sums.{sums_small}
use Rattle.solve_lattice.proofs.SwappedWords.{swap_of, tails_there, block_reducible}
use Rattle.solve_lattice.proofs.Swapping.{swapping}
use Rattle.solve_lattice.proofs.insertion.Insertion.swap_with_slot.Goals as goal

pub find_leading-hand_tail-requires-clause-sums : goal.find_leading-hand_tail-requires-clause-sums
find_leading-hand_tail-requires-clause-sums c =
    λ j lt. sums_small _ c.args.self.now.tail.now _ (le_of_lt c.args.self.now.modulus.valid.prime.large) c.args.self.now.valid.hand.tail_sums j

pub exchange-requires-clause-sums : goal.exchange-requires-clause-sums
exchange-requires-clause-sums c =
    λ j lt. sums_small _ c.args.self.now.block.now _ (le_of_lt c.args.self.now.modulus.valid.prime.large) c.args.self.now.valid.hand.sums j

pub exchange-requires-2 : goal.exchange-requires-2
exchange-requires-2 c =
    let valid = c.args.self.now.valid in
    let positive : 0 < c.args.self.now.modulus.p = le_of_lt c.args.self.now.modulus.valid.prime.large in
    let q = c.pivot_row-q.ensures in
    let E = swap_of positive valid c.requires.room _ c.find_leading-hand_tail.ensures.size _ (rw q at c.max-words.ensures)
    _ (rw q at c.max-tail_words.ensures) in
    let there = tails_there E c.exchange.new.s c.exchange.auto.s in record {
      bounds = (there.0, rw q there.1);
      sums = λ j lt. sums_small _ c.args.self.now.tail.now _ positive valid.hand.tail_sums j;
    }

pub find_leading-found-requires-clause-sums : goal.find_leading-found-requires-clause-sums
find_leading-found-requires-clause-sums c =
    let valid = c.args.self.now.valid in
    let positive : 0 < c.args.self.now.modulus.p = le_of_lt c.args.self.now.modulus.valid.prime.large in
    let q = c.pivot_row-q.ensures in
    let E = swap_of positive valid c.requires.room _ c.find_leading-hand_tail.ensures.size _ (rw q at c.max-words.ensures)
    _ (rw q at c.max-tail_words.ensures) in
    λ j lt. block_reducible E _ (rw q at c.exchange.ensures.hand) positive j

pub returns-clause-swapped : goal.returns-clause-swapped
returns-clause-swapped c =
    let valid = c.args.self.now.valid in
    let positive : 0 < c.args.self.now.modulus.p = le_of_lt c.args.self.now.modulus.valid.prime.large in
    let q = c.pivot_row-q.ensures in
    let E = swap_of positive valid c.requires.room _ c.find_leading-hand_tail.ensures.size _ (rw q at c.max-words.ensures)
    _ (rw q at c.max-tail_words.ensures) in
    let blocks = rw q at c.exchange.ensures in
    let tails = rw q at c.exchange-2.ensures in
    let found = rw q at c.find_leading-found.ensures in
    rw q (swapping c.args.self.now.modulus.valid.prime E _ _ _ _ _ _ _ blocks.hand blocks.slot tails.hand tails.slot c.inverse.ensures
    found.size found.value)

pub invariant_of-self : goal.invariant_of-self
invariant_of-self c =
    let valid = c.args.self.now.valid in
    let positive : 0 < c.args.self.now.modulus.p = le_of_lt c.args.self.now.modulus.valid.prime.large in
    let q = c.pivot_row-q.ensures in
    let E = swap_of positive valid c.requires.room _ c.find_leading-hand_tail.ensures.size _ (rw q at c.max-words.ensures)
    _ (rw q at c.max-tail_words.ensures) in
    let blocks = rw q at c.exchange.ensures in
    let tails = rw q at c.exchange-2.ensures in
    let found = rw q at c.find_leading-found.ensures in
    let done = swapping c.args.self.now.modulus.valid.prime E _ _ _ _ _ _ _ blocks.hand blocks.slot tails.hand tails.slot c.inverse.ensures found.size found.value in
    record { valid = rw q done.valid }
