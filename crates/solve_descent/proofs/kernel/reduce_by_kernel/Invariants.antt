-- The loop keeps a `Reducing`: the places from i on are done.
use Rattle.solve_descent.proofs.Kernels.{Reducing}
use Rattle.solve_descent.proofs.kernel.reduce_by_kernel.Given as goal

abbrev pub invariant-loop-i : goal.invariant-loop-i
invariant-loop-i l = Reducing l.modulus.p l.initial.y l.kernel l.i l.y
