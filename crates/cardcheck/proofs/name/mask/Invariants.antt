-- The first bytes are as they are said, the others as they were.
use Rattle.std.proofs.Common.{◌≡◌, length}
use Rattle.cardcheck.proofs.Masked.{masked_to}
use Rattle.cardcheck.proofs.name.mask.Given as goal

abbrev pub invariant-loop-byte : goal.invariant-loop-byte
invariant-loop-byte l = (length l.byte-items ≡ length l.fn.name) × (l.byte-items ≡ masked_to l.byte-index l.fn.name)
