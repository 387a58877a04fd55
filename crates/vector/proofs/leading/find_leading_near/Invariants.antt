-- What lies from k on is 0 modulo p.
use Rattle.std.proofs.Common.{◌≡◌}
use Rattle.vector.specs.Reduced.{polynomial}
use Rattle.vector.proofs.leading.find_leading_near.Given as goal

abbrev pub invariant-loop-k : goal.invariant-loop-k
invariant-loop-k l = polynomial l.modulus.p l.h 0 l.n ≡ polynomial l.modulus.p l.h 0 l.k
