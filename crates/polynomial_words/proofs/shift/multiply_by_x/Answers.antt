-- One multiple of d taken off, then all words reduced.
use mathlib.Core.Path.{◌≡◌}
use Prim.Native.Nat.{ℕ, ◌+◌, ◌≤◌, ◌<◌}
use native.Mathlib.Nat.{mul-le-mul}
use native.Mathlib.Omega.{arith}
use lib.ListN.{length}
use borrow.Author.Rules.{rules}
use Rattle.modular.specs.LargestPrime.{largest_modulus}
use Rattle.residue.specs.Below.{mul_below, inverse_below}
use Rattle.polynomial_words.proofs.Sliding.{slide_small, slide_reducible, slide_value, slide_window, slide_rest}
use Rattle.polynomial_words.proofs.shift.multiply_by_x.Goals as goal

pub mul-c-requires : goal.mul-c-requires
mul-c-requires c =
    (c.requires.bounds.1.below _, rw c.requires.divisor.inverts (inverse_below c.args.modulus.p c.args.modulus.valid.prime.large _))

pub overflow_sub-modulus : goal.overflow_sub-modulus
overflow_sub-modulus c =
    let p : ℕ = c.args.modulus.p in
    let below : c.mul-c.result < p = rw c.mul-c.ensures
    (mul_below p c.args.modulus.valid.prime.large _ _) in
    omega arith

pub add_scaled-requires : goal.add_scaled-requires
add_scaled-requires c =
    let p : ℕ = c.args.modulus.p in
    let limit : p ≤ largest_modulus = c.args.modulus.valid.limit in
    let divisor = c.requires.divisor in
    let called = c.mul-c in record {
      n_in_bounds = (omega (arith, c.requires.bounds.0), omega (arith, divisor.room), omega arith);
      small = (λ j lt. omega (arith, divisor.small (0 + j)));
      fits = λ j lt.
          omega (
            arith,
            slide_small c.args.modulus.valid.prime c.args.a divisor c.requires.bounds.1 c.requires.bounds.0 called.result
                (c.args.a + j) (0 + j),
            mul-le-mul limit limit,
          );
    }

pub reduce_range-requires : goal.reduce_range-requires
reduce_range-requires c =
    let called = c.mul-c in
    let added = c.add_scaled in
    let long : length added.new.h ≡ length c.args.h.now = search rules in record {
      bounds = omega (arith, c.requires.bounds.0);
      sums = slide_reducible c.args.modulus.valid.prime c.args.a c.requires.divisor c.requires.bounds.1 c.requires.bounds.0 called.result
          added.ensures.words _;
    }

pub returns : goal.returns
returns c =
    let called = c.mul-c in
    let added = c.add_scaled in
    let reduced = c.reduce_range.ensures in record {
      value = slide_value c.args.modulus.valid.prime c.args.a c.requires.divisor c.requires.bounds.1 c.requires.bounds.0 called.result added.ensures.words
          called.ensures added.ensures.polynomials reduced;
      reduced = slide_window c.args.modulus.valid.prime c.args.a c.requires.divisor c.requires.bounds.1 c.requires.bounds.0 called.result
          added.ensures.words called.ensures added.ensures.polynomials reduced;
      rest = slide_rest c.args.modulus.valid.prime c.args.a c.requires.divisor c.requires.bounds.1 c.requires.bounds.0 called.result added.ensures.words
          called.ensures added.ensures.polynomials reduced;
    }
