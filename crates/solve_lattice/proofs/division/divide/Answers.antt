use Prim.Native.Nat.{ℕ, ◌+◌, ◌*◌, ◌<◌, ◌≤◌}
use mathlib.Core.Logic.{inl, inr}
use native.Mathlib.Nat.{le_of_lt, le_trans, pos_of_ne-zero}
use native.Mathlib.Omega.{arith}
use Rattle.solve_lattice.specs.Room.{product_words, slot_places, lanes}
use Rattle.solve_lattice.specs.Memory.{height}
use Rattle.solve_lattice.specs.Found.{found_ends, found_leading, found_within}
use Rattle.solve_lattice.specs.Sums.{sums_fewer}
use Rattle.solve_lattice.specs.Step.{takes_left}
use Rattle.solve_lattice.proofs.Stepping
use Rattle.solve_lattice.proofs.Dividing.{dividing_start, dividing_step, dividing_turn, dividing_end}
use Rattle.solve_lattice.proofs.division.divide.Goals.{
  then-size-eq0-via-then-size-eq0,
  then-size-eq0-via-else-size-eq0+then-k-size,
}
use Rattle.solve_lattice.proofs.division.divide.Goals as goal

-- fewer words lie within fewer degrees
degrees_fewer : {j k m : ℕ} → j ≤ k → height k * lanes ≤ m → height j * lanes ≤ m
degrees_fewer fewer there = omega arith

pub loop-found-init : goal.loop-found-init
loop-found-init c =
    let m = c.args.modulus.valid in
    let positive : 0 < c.args.modulus.p = le_of_lt m.prime.large in
    let given = c.requires.block in
    let found = c.find_leading-found.ensures in
    let fewer = found_within _ positive _ product_words _ given.1 given.2 _ found.size in
    dividing_start m.prime (degrees_fewer fewer given.0) (le_trans fewer c.requires.quotients.0)
    (found_ends _ positive _ product_words _ given.1 given.2 _ found.size)
    (found_leading _ positive _ product_words _ given.1 given.2 _ found.size _ found.value) given.3 c.requires.quotients.1

pub returns-then-size-eq0 : goal.returns-then-size-eq0
returns-then-size-eq0 c =
    dividing_end c.args.modulus.valid.prime c.loop-found.invariant c.requires.level (inr (elim c.then-size-eq0.branch [
      | then-size-eq0-via-then-size-eq0 w ↦ inl (rw c.pivot_row-q.ensures at w.if-size-eq0.true)
      | then-size-eq0-via-else-size-eq0+then-k-size w ↦ inr (rw c.pivot_row-q.ensures at w.if-k-size.true)
    ]))

pub take_multiple-left-requires-clause-sums : goal.take_multiple-left-requires-clause-sums
take_multiple-left-requires-clause-sums c =
    let L = c.loop-found in
    sums_fewer _ L.block (slot_places + L.found.size) 1 (omega arith) L.invariant.sums

pub add-requires : goal.add-requires
add-requires c =
    let prime = c.args.modulus.valid.prime in
    let I = c.loop-found.invariant in
    let q = c.pivot_row-q.ensures in
    let filled = pos_of_ne-zero (rw q at c.if-size-eq0.false) in
    let step = dividing_step prime I c.requires.level c.loop-found-test.true filled (rw q at c.if-k-size.false) in
    (I.below _, Stepping.step_factor _ prime step.multiple _ c.take_multiple-left.ensures.factor)

pub loop-found-preserved : goal.loop-found-preserved
loop-found-preserved c =
    let prime = c.args.modulus.valid.prime in
    let I = c.loop-found.invariant in
    let q = c.pivot_row-q.ensures in
    let filled = pos_of_ne-zero (rw q at c.if-size-eq0.false) in
    let step = dividing_step prime I c.requires.level c.loop-found-test.true filled (rw q at c.if-k-size.false) in
    rw q (dividing_turn prime I step.multiple
    (takes_left step.multiple.some c.take_multiple-left.ensures c.find_rest-found.ensures) _ (rw q at c.add.ensures))
