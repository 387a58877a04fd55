-- The bytes of the words before the loop's place are written, those from it on are as they were lent.
use Rattle.std.proofs.Common.{◌≡◌, ◌*◌}
use Rattle.words.specs.Bytes.{bytes_of, word_bytes}
use Rattle.files.proofs.Filling.{filled}
use Rattle.files.proofs.writing.write_bytes.Given as goal

abbrev pub invariant-loop-i : goal.invariant-loop-i
invariant-loop-i l = l.bytes ≡ filled (bytes_of l.words) l.initial.bytes (word_bytes * l.i)
