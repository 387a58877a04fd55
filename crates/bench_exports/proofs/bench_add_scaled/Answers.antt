use mathlib.Core.Path.{◌≡◌, refl, sym, ap, ◌∙◌}
use Prim.Native.Nat.{ℕ, ◌+◌}
use native.Mathlib.Omega.{arith}
use native.Mathlib.Nat.{min-eq_left}
use lib.ListN.{length}
use borrow.Author.Rules.{rules}
use Rattle.std.proofs.lemmas.List.{length_push}
use Rattle.std.proofs.lemmas.Slice.Zip.{zip_turn, zip_end}
use Rattle.bench_exports.specs.Rounds.{allowed, rounds}
use Rattle.bench_exports.proofs.Rounding.{fits, start, sums_fit, turn}
use Rattle.bench_exports.proofs.bench_add_scaled.Goals as goal

pub returns-then-not-steps_fit : goal.returns-then-not-steps_fit
unfolding allowed rounds
returns-then-not-steps_fit c = record {
  count = rw (sym c.steps_fit.ensures ∙ c.if-not-steps_fit.true);
  words = refl;
}

pub loop-factor-init : goal.loop-factor-init
loop-factor-init c = start (fits _ _ _ _ (sym c.steps_fit.ensures ∙ c.if-not-steps_fit.false))

pub add_scaled-requires : goal.add_scaled-requires
add_scaled-requires c =
    let I = c.loop-factor.invariant in
    let factors : c.into_iter-factor-iterator.result.a.rest.now ≡ c.args.factors.now = search rules in
    let counts : c.into_iter-factor-iterator.result.b.rest.now ≡ c.args.counts.now = search rules in
    let at = zip_turn c.args.factors.now c.args.counts.now c.loop-factor.yielded c.into_iter-factor-iterator.result
    c.loop-factor.factor-iterator c.next.new.self c.next.result factors counts c.loop-factor.yielded_by _ c.in-Some.is
    c.next.ensures.steps in
    let t : ℕ = length c.loop-factor.yielded in
    let room = I.given.room in
    let count = I.given.count t in
    let factor = I.given.factor t in
    rw (at.2 0, at.3 0) (record {
      n_in_bounds = (omega arith, omega arith, omega arith);
      small = (λ j lt. omega (arith, I.given.slot (0 + j)));
      fits = sums_fit I at.0;
    })

pub loop-factor-preserved : goal.loop-factor-preserved
loop-factor-preserved c =
    let factors : c.into_iter-factor-iterator.result.a.rest.now ≡ c.args.factors.now = search rules in
    let counts : c.into_iter-factor-iterator.result.b.rest.now ≡ c.args.counts.now = search rules in
    let at = zip_turn c.args.factors.now c.args.counts.now c.loop-factor.yielded c.into_iter-factor-iterator.result
    c.loop-factor.factor-iterator c.next.new.self c.next.result factors counts c.loop-factor.yielded_by _ c.in-Some.is
    c.next.ensures.steps in
    rw length_push (turn c.loop-factor.invariant at.0 _ (rw (← at.2 0, ← at.3 0) c.add_scaled.ensures.words))

pub returns : goal.returns
unfolding allowed
returns c =
    let I = c.loop-factor.invariant in
    let factors : c.into_iter-factor-iterator.result.a.rest.now ≡ c.args.factors.now = search rules in
    let counts : c.into_iter-factor-iterator.result.b.rest.now ≡ c.args.counts.now = search rules in
    let all = zip_end c.args.factors.now c.args.counts.now c.loop-factor.yielded c.into_iter-factor-iterator.result
    c.loop-factor.factor-iterator c.next.new.self c.next.result factors counts c.loop-factor.yielded_by c.in-None.is
    c.next.ensures.steps ∙ min-eq_left I.given.all in
    record {
      count = rw (sym c.steps_fit.ensures ∙ c.if-not-steps_fit.false) refl;
      words = I.words ∙ ap (λ t. rounds t c.args.factors.now c.args.counts.now c.args.s.now c.args.h.now) all;
    }
