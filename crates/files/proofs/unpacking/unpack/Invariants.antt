-- The words before the loop's place are unpacked, those from it on are as they were lent.
use Rattle.std.proofs.Common.{◌≡◌}
use Rattle.words.specs.Bytes.{words_of}
use Rattle.files.proofs.Filling.{filled}
use Rattle.files.proofs.unpacking.unpack.Given as goal

abbrev pub invariant-loop-i : goal.invariant-loop-i
invariant-loop-i l = l.words ≡ filled (words_of l.bytes) l.initial.words l.i
