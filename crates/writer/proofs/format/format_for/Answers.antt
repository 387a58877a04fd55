-- The format of a system is made here.
use Rattle.std.proofs.Common.{sym, ap}
use Rattle.words.specs.Limits.{office}
use Rattle.words.specs.Systems.{head_word}
use Rattle.writer.specs.Values.{shape_with}
use Rattle.writer.specs.Formats.{format_of}
use Rattle.writer.proofs.format.format_for.Goals as goal

pub returns-in-System : goal.returns-in-System
unfolding head_word
returns-in-System c = ap (format_of office (shape_with c.args.modulus c.args.rows c.args.columns)) (sym c.in-System.is)
