-- `vector::sum::store_four` meets its contract. Assumes nothing.
use mathlib.Core.Path.{refl}
use native.Mathlib.Omega.{arith}
use lib.ListN.{length-set}
use Rattle.vector.proofs.sum.store_four.Goals as goal

pub bounds-h-d-2 : goal.bounds-h-d-2
bounds-h-d-2 c = simp length-set (omega arith)

pub bounds-h-d-3 : goal.bounds-h-d-3
bounds-h-d-3 c = simp length-set (omega arith)

pub bounds-h-d-4 : goal.bounds-h-d-4
bounds-h-d-4 c = simp length-set (omega arith)

pub shape_of-h : goal.shape_of-h
shape_of-h c = simp length-set

pub returns : goal.returns
returns c = refl
