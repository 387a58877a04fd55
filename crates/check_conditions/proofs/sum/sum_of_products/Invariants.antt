-- The loop keeps a `Summing`.
use Rattle.check_conditions.specs.Products.{product}
use Rattle.check_conditions.proofs.Summing.{Summing}
use Rattle.check_conditions.proofs.sum.sum_of_products.Given as goal

abbrev pub invariant-loop-k : goal.invariant-loop-k
invariant-loop-k l =
    Summing l.modulus.p (product l.modulus.p l.system l.first l.step l.certificate l.start) l.count l.h l.k
