use mathlib.Core.Path.{◌≡◌, sym, ap, ◌∙◌, subst}
use Prim.Native.Nat.{ℕ, ◌+◌, ◌*◌, ◌<◌}
use native.Mathlib.Nat.{le_antisymm, mul-le-mul_right}
use native.Mathlib.Omega.{arith}
use lib.ListN.{length}
use Rattle.algebra.specs.Coefficients.{leading, divide, remainder}
use Rattle.modular.specs.Modulo.{modulo}
use Rattle.modular.specs.Delay.{degree}
use Rattle.modular.specs.Coefficientwise.{leading_positive}
use Rattle.words.specs.Limits.{office}
use Rattle.truth.specs.Solution.{total_modulo}
use Rattle.polynomial.proofs.Made.{leading_last}
use Rattle.polynomial_words.proofs.Rest.{polynomial_zero}
use Rattle.loader.specs.SlotLaws.{taken_canonical, canonical_word}
use Rattle.check_conditions.specs.Areas.{system_in_slots, certifying_denominator_in, certifying_numerators_in}
use Rattle.check_conditions.specs.Walk.{carried_width, column_so_far}
use Rattle.check_conditions.proofs.WalkLaws.{carries_on}
use Rattle.check_conditions.proofs.Walking.{counted, reduced_below, reduced_sums, reduced_carried}
use Rattle.check_conditions.proofs.walk.walk_columns.Goals as goal

pub inverse-inverse-requires : goal.inverse-inverse-requires
inverse-inverse-requires c =
    let S = c in
    let p : ℕ = S.args.areas.now.dimensions.modulus.p in
    let positive : 0 < p = omega (arith, S.args.areas.now.loaded.certificate.dimensions.modulus.prime.large) in
    let is = c.coefficients_in-w.ensures in
    let filled = S.args.areas.now.loaded.certificate.filled (S.args.areas.now.dimensions.columns + 1) (omega arith) in
    let hw = taken_canonical is filled in
    let some = subst (λ l. 0 < length l) (sym is) S.requires.divisor in
    (subst (λ a. 0 < a) (sym (leading_last p _)) (leading_positive p _ hw some), canonical_word p positive _ hw _)

pub loop-i-init : goal.loop-i-init
unfolding system_in_slots column_so_far total_modulo divide
loop-i-init c =
    let S = c in
    let D = S.args.areas.now.dimensions in
    let positive : 0 < D.modulus.p = omega (arith, S.args.areas.now.loaded.certificate.dimensions.modulus.prime.large) in (
      record {
        remainders = λ j lt.
            polynomial_zero D.modulus.p positive S.args.carried.now (j * carried_width)
            (degree (certifying_denominator_in D S.args.areas.now.certificate.now)) (λ x. omega (arith, S.requires.zeros.small x));
        sums = S.requires.zeros;
      },
      omega arith,
    )

pub take_row-requires : goal.take_row-requires
unfolding system_in_slots
take_row-requires c =
    let S = c in
    let p : ℕ = S.args.areas.now.dimensions.modulus.p in
    let L = c.loop-i in
    let is = c.coefficients_in-w.ensures in
    let inverse = c.inverse-inverse.ensures in record {
      bounds = c.loop-i-test.true;
      divisor = (S.requires.divisor, inverse ∙ ap (modulo p).inverse (leading_last p _ ∙ ap (leading (modulo p)) is));
      sums = L.invariant.0.sums;
    }

pub loop-i-preserved : goal.loop-i-preserved
unfolding system_in_slots
loop-i-preserved c =
    let S = c in
    let D = S.args.areas.now.dimensions in
    let L = c.loop-i in
    let loaded = S.args.areas.now.loaded.certificate in
    let w = loaded.filled (D.columns + 1) (omega arith) in (
      carries_on (system_in_slots D S.args.areas.now.system.now) loaded.dimensions.modulus.prime
          (certifying_denominator_in D S.args.areas.now.certificate.now) w.canonical S.requires.divisor
          (certifying_numerators_in D S.args.areas.now.certificate.now) L.i L.carried _ L.invariant.0 c.take_row.ensures,
      omega (arith, c.loop-i-test.true),
    )

pub reduce_range-requires : goal.reduce_range-requires
unfolding system_in_slots
reduce_range-requires c =
    let S = c in
    let D = S.args.areas.now.dimensions in
    let p : ℕ = D.modulus.p in
    let valid = S.args.areas.now.loaded.certificate.dimensions in
    let L = c.loop-i in
    let sums = L.invariant.0.sums in
    let few = mul-le-mul_right {m = L.i} {n = office.rows} (office.system_coefficients * (p * p))
    (omega (arith, L.invariant.1, valid.rows)) in
    record {
      bounds = omega (arith, sums.room);
      sums = λ x lt. omega (arith, sums.small x, few);
    }

pub returns : goal.returns
unfolding system_in_slots
returns c =
    let S = c in
    let D = S.args.areas.now.dimensions in
    let positive : 0 < D.modulus.p = omega (arith, S.args.areas.now.loaded.certificate.dimensions.modulus.prime.large) in
    let L = c.loop-i in
    let all : L.i ≡ D.rows = le_antisymm L.invariant.1 c.loop-i-test.false in
    let room = L.invariant.0.sums.room in
    let reduces = c.reduce_range.ensures in record {
      carries = record {
        remainders = λ j lt.
            reduced_carried D.modulus.p positive L.carried _ room reduces
            (degree (certifying_denominator_in D S.args.areas.now.certificate.now)) j
            ∙ L.invariant.0.remainders j lt
            ∙ ap (λ n. remainder (modulo D.modulus.p) (column_so_far (system_in_slots D S.args.areas.now.system.now)
            (certifying_numerators_in D S.args.areas.now.certificate.now) j n) (certifying_denominator_in D S.args.areas.now.certificate.now))
            all;
        sums = counted (ap (λ n. n * office.system_coefficients) all)
            (reduced_sums D.modulus.p positive L.carried _ room reduces L.invariant.0.sums);
      };
      reduced = reduced_below D.modulus.p positive L.carried _ room reduces;
    }
