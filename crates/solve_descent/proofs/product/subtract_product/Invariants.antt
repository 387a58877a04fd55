-- The loop keeps a `TakesProduct`: the coefficients of f before k are done.
use Rattle.solve_descent.specs.Product.{TakesProduct}
use Rattle.solve_descent.proofs.product.subtract_product.Given as goal

abbrev pub invariant-loop-k : goal.invariant-loop-k
invariant-loop-k l = TakesProduct l.modulus.p l.w l.initial.h l.f l.at l.step l.k l.s l.a l.m l.h
