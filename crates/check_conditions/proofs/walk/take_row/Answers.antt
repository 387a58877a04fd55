use mathlib.Core.Path.{◌≡◌, sym, ap₂, ◌∙◌, subst}
use mathlib.Core.List.{List}
use Prim.Native.Nat.{ℕ, ◌+◌, ◌-◌, ◌*◌, ◌<◌}
use native.Mathlib.Omega.{arith}
use lib.ListN.{length}
use borrow.Author.Rules.{rules}
use Rattle.algebra.specs.Coefficients.{mul}
use Rattle.modular.specs.Modulo.{modulo}
use Rattle.modular.specs.Canonical.{Canonical}
use Rattle.modular.specs.Delay.{degree}
use Rattle.words.specs.Limits.{office}
use Rattle.vector.specs.Bound.{zeros_none}
use Rattle.polynomial_words.specs.Window.{ReducedFrom}
use Rattle.loader.specs.Slot.{slot}
use Rattle.loader.specs.SlotLaws.{taken_canonical, taken_size}
use Rattle.loader.specs.Widths.{system_width, certificate_width}
use Rattle.check_conditions.specs.Areas.{system_in_slots, certifying_denominator_in, certifying_numerators_in}
use Rattle.check_conditions.specs.Walk.{carried_in, take_along, window_words}
use Rattle.check_conditions.proofs.Terms.{row_filled, entry_in, vector_in_lem}
use Rattle.check_conditions.proofs.Starting.{divisor_of}
use Rattle.check_conditions.proofs.Walking.{counted, walking_start, walking_turn, walking_end, walking_words, slid}
use Rattle.check_conditions.proofs.walk.take_row.Goals as goal

pub store_remainder-requires : goal.store_remainder-requires
store_remainder-requires c =
    let S = c in
    let loaded = S.args.areas.now.loaded.certificate in
    let is-w = c.coefficients_in-w.ensures in
    let is-z = c.coefficients_in-z.ensures in
    let w = loaded.filled (S.args.areas.now.dimensions.columns + 1) (omega arith) in
    let z = loaded.filled (S.args.areas.now.dimensions.columns + 2 + S.args.i) (omega (arith, S.requires.bounds)) in record {
      bounds = (search rules, zeros_none window_words);
      dividend = (taken_canonical is-z z, omega (arith, taken_size is-z z));
      divisor = (taken_canonical is-w w, rw is-w S.requires.divisor.0, omega (arith, taken_size is-w w), rw is-w S.requires.divisor.1);
    }

pub loop-k-init : goal.loop-k-init
unfolding system_in_slots
loop-k-init c =
    let S = c in
    let p : ℕ = S.args.areas.now.dimensions.modulus.p in
    let loaded = S.args.areas.now.loaded.certificate in
    let is-w = c.coefficients_in-w.ensures in
    let is-z = c.coefficients_in-z.ensures in
    let w = loaded.filled (S.args.areas.now.dimensions.columns + 1) (omega arith) in
    let z = loaded.filled (S.args.areas.now.dimensions.columns + 2 + S.args.i) (omega (arith, S.requires.bounds)) in
    let started = c.store_remainder.ensures in
    walking_start p loaded.dimensions.modulus.prime _ (taken_canonical is-w w) (rw is-w S.requires.divisor.0) _ _ _
    (λ j lt. (row_filled _ _ _ S.args.areas.now.loaded _ S.requires.bounds j lt).canonical) _ _ is-z z.canonical _ _ _ S.requires.sums
    started.reduced.1 started.reduced.0 started.value

pub add_to_columns-requires : goal.add_to_columns-requires
add_to_columns-requires c =
    let S = c in
    let loaded = S.args.areas.now.loaded in
    let L = c.loop-k in
    let is-w = c.coefficients_in-w.ensures in
    let w = loaded.certificate.filled (S.args.areas.now.dimensions.columns + 1) (omega arith) in
    let most = c.longest_entry-longest.ensures.0 in record {
      bounds = (
        S.requires.bounds,
        omega (arith, most, c.loop-k-test.true),
      );
      sums = L.invariant.words;
      window = (L.invariant.room, omega (arith, taken_size is-w w), L.invariant.slides);
    }

pub multiply_by_x-requires : goal.multiply_by_x-requires
multiply_by_x-requires c =
    let M = c in
    let S = M in
    let p : ℕ = S.args.areas.now.dimensions.modulus.p in
    let m = S.args.areas.now.loaded.certificate.dimensions.modulus in
    let L = M.loop-k in
    let is-w = M.coefficients_in-w.ensures in
    let w = S.args.areas.now.loaded.certificate.filled (S.args.areas.now.dimensions.columns + 1) (omega arith) in
    let most = M.longest_entry-longest.ensures.0 in
    let taken = c.loop-k-test.true in
    let place : office.system_coefficients - L.k ≡ office.system_coefficients - (L.k + 1) + 1 = omega (arith, most, taken) in record {
      bounds = (omega (arith, L.invariant.room, taken_size is-w w), subst (ReducedFrom p L.window) place L.invariant.slides);
      divisor = divisor_of (omega (arith, m.prime.large)) _ (taken_canonical is-w w) (rw is-w S.requires.divisor.0) _
          (rw is-w S.requires.divisor.1);
    }

pub loop-k-preserved : goal.loop-k-preserved
loop-k-preserved c =
    let M = c in
    let S = M in
    let p : ℕ = S.args.areas.now.dimensions.modulus.p in
    let loaded = S.args.areas.now.loaded.certificate in
    let prime = loaded.dimensions.modulus.prime in
    let L = M.loop-k in
    let is-w = M.coefficients_in-w.ensures in
    let w = loaded.filled (S.args.areas.now.dimensions.columns + 1) (omega arith) in
    let most = M.longest_entry-longest.ensures.0 in
    let taken = c.loop-k-test.true in
    let added = c.add_to_columns.ensures in
    let moved = c.multiply_by_x.ensures in
    let hw = taken_canonical is-w w in
    let some = subst (λ l. 0 < length l) (sym is-w) S.requires.divisor.0 in
    let D = S.args.areas.now.dimensions in
    let entries : (j : ℕ) → j < D.columns → Canonical p (slot system_width S.args.areas.now.system.now (S.args.i * D.columns + j)) =
    λ j lt. (row_filled _ _ _ S.args.areas.now.loaded _ S.requires.bounds j lt).canonical in
    walking_turn p prime _ hw some _ _ _ entries _ _ _ _ _ L.invariant taken _ _ added.terms added.sums (search rules) moved.reduced
    (slid p prime _ hw some _ _ _ entries _ _ _ _ _ L.invariant (omega (arith, most, taken)) _ moved.value)

pub returns : goal.returns
unfolding system_in_slots
returns c =
    let S = c in
    let D = S.args.areas.now.dimensions in
    let p : ℕ = D.modulus.p in
    let loaded = S.args.areas.now.loaded.certificate in
    let prime = loaded.dimensions.modulus.prime in
    let L = c.loop-k in
    let is-w = c.coefficients_in-w.ensures in
    let w = loaded.filled (D.columns + 1) (omega arith) in
    let longest = c.longest_entry-longest.ensures in
    let hw = taken_canonical is-w w in
    let some = subst (λ l. 0 < length l) (sym is-w) S.requires.divisor.0 in
    let s = system_in_slots D S.args.areas.now.system.now in
    let W = certifying_denominator_in D S.args.areas.now.certificate.now in
    let Z = certifying_numerators_in D S.args.areas.now.certificate.now in
    let A : ℕ → List ℕ = λ j. slot system_width S.args.areas.now.system.now (S.args.i * D.columns + j) in
    let entries : (j : ℕ) → j < D.columns → Canonical p (A j) =
    λ j lt. (row_filled _ _ _ S.args.areas.now.loaded _ S.requires.bounds j lt).canonical in
    let count : S.args.i * office.system_coefficients + office.system_coefficients ≡ (S.args.i + 1) * office.system_coefficients =
    omega arith in
    record {
      along = λ j lt.
          let r = carried_in p (degree W) S.args.carried.now j in
          let done = walking_end p prime _ hw some _ _ _ entries _ _ _ _ _ L.invariant longest.1 c.loop-k-test.false j lt in
          subst (λ l. carried_in p (degree l) L.carried j ≡ take_along p l (carried_in p (degree l) S.args.carried.now j)
          (mul (modulo p) (slot certificate_width S.args.areas.now.certificate.now (D.columns + 2 + S.args.i)) (A j))) is-w done
          ∙ ap₂ (λ f g. take_along p W r (mul (modulo p) f g))
          (sym (vector_in_lem D S.args.areas.now.system.now S.args.areas.now.certificate.now D.rows (D.columns + 2) S.args.i
          S.requires.bounds))
          (sym (entry_in D S.args.areas.now.system.now S.args.areas.now.certificate.now S.args.i j S.requires.bounds lt));
      sums = counted count (walking_words p prime _ hw some _ _ _ entries _ _ _ _ _ L.invariant longest.0);
    }
