-- The invariant: the sizes before k are stored.
use Rattle.std.proofs.Common.{◌≡◌, length}
use Rattle.limits.specs.Counts.{certificate_polynomials}
use Rattle.writer.specs.Output.{SizesTaken}
use Rattle.writer.proofs.output.store_sizes.Given as goal

abbrev pub invariant-loop-k : goal.invariant-loop-k
invariant-loop-k l = (length l.sizes ≡ certificate_polynomials) × SizesTaken l.output l.sizes l.k
