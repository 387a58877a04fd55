use mathlib.Core.Path.{refl}
use Prim.Native.Nat.{ℕ, ◌+◌, ◌<◌}
use native.Mathlib.Nat.{mul-le-mul_right}
use native.Mathlib.Omega.{arith}
use Rattle.words.specs.Limits.{office}
use Rattle.loader.specs.SlotLaws.{taken_canonical, canonical_word}
use Rattle.check_conditions.specs.Areas.{valid_dimensions}
use Rattle.check_conditions.proofs.Terms.{row_filled}
use Rattle.check_conditions.proofs.Adding.{adding_small, adding_turn}
use Rattle.check_conditions.proofs.walk.add_to_columns.Goals as goal

pub add_term-requires : goal.add_term-requires
add_term-requires c =
    let S = c in
    let L = c.loop-j in
    let m = (valid_dimensions S.args.areas.now.dimensions).modulus in
    let positive : 0 < S.args.areas.now.dimensions.modulus.p = omega (arith, m.prime.large) in
    let taken = c.loop-j-test.true in
    let f = taken_canonical c.coefficients_in-f.ensures (row_filled _ _ _ S.args.areas.now.loaded _ S.requires.bounds.0 _ taken) in
    let window = S.requires.window in
    let few = mul-le-mul_right {m = S.args.i + 1} {n = office.rows} office.system_coefficients (omega (arith, S.requires.bounds.0, (valid_dimensions S.args.areas.now.dimensions).rows))
    in record {
      carried_len = (L.invariant.room, omega (arith, taken, (valid_dimensions S.args.areas.now.dimensions).columns), omega (arith, S.requires.bounds.1), window.0, window.1);
      small = (
        adding_small _ _ _ _ positive _ _ _ S.requires.sums _ _ L.invariant (omega (arith, few, S.requires.bounds.1)) m.limit,
        (λ i. omega (arith, canonical_word _ positive _ f i, m.limit)),
        λ i. omega (arith, window.2.below i, m.limit),
      );
    }

pub loop-j-preserved : goal.loop-j-preserved
loop-j-preserved c =
    let S = c in
    let L = c.loop-j in
    let m = (valid_dimensions S.args.areas.now.dimensions).modulus in
    let p : ℕ = S.args.areas.now.dimensions.modulus.p in
    let positive : 0 < p = omega (arith, m.prime.large) in
    let taken = c.loop-j-test.true in
    let is = c.coefficients_in-f.ensures in
    let filled = row_filled _ _ _ S.args.areas.now.loaded _ S.requires.bounds.0 _ taken in
    let window = S.requires.window in
    adding_turn _ _ _ _ positive _ _ _ S.requires.sums _ _ L.invariant taken (valid_dimensions S.args.areas.now.dimensions).columns window.1
    S.args.window.now _
    refl window.2.below (canonical_word p positive _ filled.canonical S.args.k) _
    (rw is at c.add_term.ensures)
