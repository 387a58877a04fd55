use mathlib.Core.Path.{◌≡◌, subst}
use mathlib.Core.List.{List}
use Prim.Native.Nat.{ℕ, ◌+◌, ◌-◌, ◌<◌, ◌≤◌}
use native.Mathlib.Nat.{mod-lt, mul-le-mul, mul-le-mul_right}
use native.Mathlib.Omega.{arith}
use lib.ListN.{length, get_or, take}
use Rattle.modular.specs.Canonical.{Canonical}
use Rattle.modular.specs.LargestPrime.{largest_modulus}
use Rattle.residue.specs.declared.modulus.Modulus.{Modulus}
use Rattle.residue.specs.Below.{mul_below, inverse_below}
use Rattle.polynomial_words.specs.Long.{Divisor}
use Rattle.polynomial_words.proofs.Dividing.{Task, Dividing, dividing_start, dividing_turn}
use Rattle.polynomial_words.proofs.Dividing.{dividing_end, word_small, factor_is}
use Rattle.polynomial_words.proofs.division.divide_words.Goals as goal

-- the preconditions as a task
task : {h q : List ℕ} {n : ℕ} {d : List ℕ} {e inverse : ℕ} (m : Modulus) → n ≤ length h → n ≤ length q →
    Canonical m.p (take n h) → Divisor m.p d e inverse → Task m.p h q n d e inverse
task m room_h room_q canonical divisor =
    record { large = m.valid.prime.large; divisor = divisor; canonical = canonical; room_h = room_h; room_q = room_q }

pub loop-k-init : goal.loop-k-init
loop-k-init c =
    let by = task c.args.modulus c.requires.bounds.1 c.requires.bounds.2 c.requires.dividend.0 c.requires.divisor in
    dividing_start by c.requires.zero c.requires.dividend.1

pub reduce-requires : goal.reduce-requires
reduce-requires c =
    let positive : 0 < c.args.modulus.p = omega (arith, c.args.modulus.valid.prime.large) in
    let L = c.loop-k in
    let small = L.invariant.small_remainder in
    let word = word_small c.args.modulus.p c.args.n (L.k - c.args.e) L.h positive c.requires.bounds.0 small in
    omega (arith, word (L.k - 1))

pub mul-c-requires : goal.mul-c-requires
mul-c-requires c = (
  rw c.reduce.ensures (mod-lt _ (omega (arith, c.args.modulus.valid.prime.large))),
  rw c.requires.divisor.inverts (inverse_below c.args.modulus.p c.args.modulus.valid.prime.large _),
)

pub overflow_sub-modulus : goal.overflow_sub-modulus
overflow_sub-modulus c =
    let p : ℕ = c.args.modulus.p in
    let below : c.mul-c.result < p =
    rw c.mul-c.ensures (mul_below p c.args.modulus.valid.prime.large _ _) in
    omega arith

pub add_scaled-requires : goal.add_scaled-requires
add_scaled-requires c =
    let L = c.loop-k in
    let e : ℕ = c.args.e in
    let by = c.requires.divisor in
    let p : ℕ = c.args.modulus.p in
    let v : ℕ = c.mul-c.result in
    let limit : p ≤ largest_modulus = c.args.modulus.valid.limit in
    let positive : 0 < p = omega (arith, c.args.modulus.valid.prime.large) in
    let small = L.invariant.small_remainder in
    let word = word_small p c.args.n (L.k - e) L.h positive c.requires.bounds.0 small in record {
      n_in_bounds = (omega (arith, L.invariant.same_remainder), omega (arith, by.room), omega arith);
      small = (λ j lt. omega (arith, by.small (0 + j)));
      fits = λ j lt.
          omega (
            arith,
            word (L.k - 1 - e + j),
            mul-le-mul_right p limit,
            mul-le-mul {n₁ = p - v} {m₁ = get_or c.args.d.now (0 + j) 0} {n₂ = p} {m₂ = p} (omega arith) (by.small (0 + j)),
          );
    }

pub loop-k-preserved : goal.loop-k-preserved
loop-k-preserved c =
    let L = c.loop-k in
    let p : ℕ = c.args.modulus.p in
    let e : ℕ = c.args.e in
    let i : ℕ = L.k - 1 - e in
    let place : L.k - 1 ≡ i + e = omega arith in
    let next : L.k - e ≡ i + 1 = omega arith in
    let by = task c.args.modulus c.requires.bounds.1 c.requires.bounds.2 c.requires.dividend.0 c.requires.divisor in
    let reduced = c.reduce.ensures in
    let multiplied = c.mul-c.ensures in
    let factor = factor_is p (get_or L.h (L.k - 1) 0) c.args.inverse reduced multiplied in
    let called = c.add_scaled in
    let so_far =
    subst
    (λ (j : ℕ). Dividing p c.args.h.now c.args.q.now c.args.n (take (e + 1) c.args.d.now) L.q L.h j)
    next
    L.invariant in
    dividing_turn by i so_far (omega arith) _ (rw place at factor) called.ensures.words called.ensures.polynomials

pub returns : goal.returns
returns c =
    dividing_end c.args.modulus.p (omega (arith, c.args.modulus.valid.prime.large)) c.requires.bounds.0 (omega arith) c.loop-k.invariant
