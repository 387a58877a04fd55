-- `vector::sum::sum_at` meets its contract: the remainders change nothing. Assumes nothing.
use mathlib.Core.Path.{◌≡◌, ap, ap₂}
use Prim.Native.Nat.{ℕ, ◌+◌, ◌*◌, ◌%◌}
use native.Mathlib.Omega.{arith}
use native.Mathlib.Nat.{mod-eq_of_lt}
use lib.ListN.{get_or}
use Rattle.modular.specs.Bits.{bound32}
use Rattle.vector.proofs.sum.sum_at.Goals as goal
use Rattle.vector.proofs.sum.sum_at.Goals.{After-shared_slice_known-2-1 as The-After-shared_slice_known-2-1}

abbrev Read : Type 0
Read = The-After-shared_slice_known-2-1

same-product : (c : Read) →
    let A = c.args in
    A.c % bound32 * (get_or A.s.now (A.a + A.j) 0 % bound32) ≡ A.c * get_or A.s.now (A.a + A.j) 0
same-product c =
    let given = c.requires in
    ap₂ ◌*◌ (mod-eq_of_lt given.0.2) (mod-eq_of_lt given.0.3)

pub overflow_mul-result : goal.overflow_mul-result
overflow_mul-result c = omega (arith, same-product c)

pub overflow_add-result-3 : goal.overflow_add-result-3
overflow_add-result-3 c = omega (arith, same-product c)

pub returns : goal.returns
returns c =
    let A = c.args in
    ap (λ (x : ℕ). get_or A.h.now (A.d + A.j) 0 + x) (same-product c)
