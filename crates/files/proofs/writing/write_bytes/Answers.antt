use Rattle.std.proofs.Common.{◌∙◌, arith}
use Rattle.files.proofs.WordBytes.{bytes_next}
use Rattle.files.proofs.writing.write_bytes.Goals as goal

pub loop-i-preserved : goal.loop-i-preserved
loop-i-preserved c = c.write_word.ensures ∙ bytes_next c.args.words.now c.args.bytes.now _ _ c.loop-i.invariant (omega arith) (omega arith)
