-- `vector::sum::sums_at` meets its contract. Assumes nothing.
use native.Mathlib.Omega.{arith}
use Rattle.vector.specs.Sum.{each_fits}
use Rattle.vector.proofs.sum.sums_at.Goals as goal

pub sum_at-requires : goal.sum_at-requires
sum_at-requires c = let A = c.args in each_fits A.h.now A.d A.s.now A.a 4 A.c c.requires 0 (omega arith)

pub sum_at-requires-2 : goal.sum_at-requires-2
sum_at-requires-2 c = let A = c.args in each_fits A.h.now A.d A.s.now A.a 4 A.c c.requires 1 (omega arith)

pub sum_at-requires-3 : goal.sum_at-requires-3
sum_at-requires-3 c = let A = c.args in each_fits A.h.now A.d A.s.now A.a 4 A.c c.requires 2 (omega arith)

pub sum_at-requires-4 : goal.sum_at-requires-4
sum_at-requires-4 c = let A = c.args in each_fits A.h.now A.d A.s.now A.a 4 A.c c.requires 3 (omega arith)

pub returns : goal.returns
returns c = record {
  first = c.sum_at.ensures;
  second = c.sum_at-2.ensures;
  third = c.sum_at-3.ensures;
  fourth = c.sum_at-4.ensures;
}
