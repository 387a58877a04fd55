-- The insertion's contract, and that a tail of at most 121 coefficients can be made monic.
use mathlib.Core.Path.{subst}
use mathlib.Core.List.{List}
use Prim.Native.Nat.{ℕ}
use borrow.Author.Rules.{rules}
use Rattle.solve_lattice.specs.Room.{tail_words, most_coefficients}
use Rattle.solve_lattice.specs.Memory.{ZeroFrom, Sums}
use Rattle.solve_second.specs.Denominator.{tail_reducible}
use Rattle.solve_second.proofs.denominator.second_denominator.Goals as goal

pub make_monic-requires : goal.make_monic-requires
make_monic-requires c =
    let done = c.insert.ensures.inserts in
    let p = c.args.modulus.p in
    let Q : List ℕ → Type 0 = λ t. ZeroFrom p t 0 tail_words most_coefficients × Sums p 0 t in
    record { tail = subst Q (search rules) (done.tail, tail_reducible done.valid) }

pub invariant_of-work : goal.invariant_of-work
invariant_of-work c = record { valid = rw (c.begin-hand.ensures.tail, c.begin-hand.ensures.hand) c.requires.memory }

pub returns : goal.returns
returns c = record {
  after = _;
  inserts = rw (c.begin-hand.ensures.tail, c.begin-hand.ensures.hand) at c.insert.ensures.inserts;
  monic = search rules;
}
