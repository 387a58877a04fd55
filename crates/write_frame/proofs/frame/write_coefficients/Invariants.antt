-- The invariant: the first i of the coefficients' words are written.
use Rattle.std.proofs.Common.{◌≡◌, map, take}
use Rattle.words.specs.Word.{word}
use Rattle.write_frame.specs.Overwriting.{overwritten}
use Rattle.write_frame.proofs.frame.write_coefficients.Given as goal

abbrev pub invariant-loop-i : goal.invariant-loop-i
invariant-loop-i l = l.words ≡ overwritten (take l.i (map (word 3) l.f)) l.initial.words
