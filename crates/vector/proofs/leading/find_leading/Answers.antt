use mathlib.Core.Path.{◌≡◌, refl, sym, ap, ◌∙◌}
use Prim.Native.Nat.{◌+◌, ◌-◌}
use native.Mathlib.Omega.{arith}
use lib.ListN.{length}
use Rattle.algebra.specs.Coefficients.{leading}
use Rattle.vector.specs.Row.{reduced_take_row}
use Rattle.vector.specs.RowStored.{row_words}
use Rattle.vector.proofs.leading.find_leading.Goals as goal

pub loop-k-init : goal.loop-k-init
loop-k-init c = (omega arith, refl)

pub loop-k-preserved : goal.loop-k-preserved
loop-k-preserved c =
    let L = c in
    let A = L.args in
    let none = sym c.or_of_row.ensures ∙ c.if-or_of_row-eq0.true in
    let next : L.loop-k.k ≡ L.loop-k.k - row_words + row_words = omega arith in
    (omega arith, L.loop-k.invariant.1 ∙ reduced_take_row A.modulus.p A.h.now _ _ next (omega arith) none)

pub find_leading_near-requires : goal.find_leading_near-requires
find_leading_near-requires c =
    let given = c.requires in
    record {
      bounds = omega arith;
      sums = λ j lt. given.sums j (omega arith);
    }

pub returns : goal.returns
returns c =
    let L = c in
    let found = c.find_leading_near.ensures in
    record {
      size = found.size ∙ sym (ap length L.loop-k.invariant.1);
      value = found.value ∙ sym (ap (leading _) L.loop-k.invariant.1);
    }
