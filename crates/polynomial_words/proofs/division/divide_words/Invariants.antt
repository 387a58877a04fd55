-- The loop keeps a `Dividing` at the place k - e.
use Prim.Native.Nat.{◌+◌, ◌-◌}
use lib.ListN.{take}
use Rattle.polynomial_words.proofs.Dividing.{Dividing}
use Rattle.polynomial_words.proofs.division.divide_words.Given as goal

abbrev pub invariant-loop-k : goal.invariant-loop-k
invariant-loop-k l = Dividing l.modulus.p l.initial.h l.initial.q l.n (take (l.e + 1) l.d) l.q l.h (l.k - l.e)
