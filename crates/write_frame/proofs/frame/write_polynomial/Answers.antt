-- The start word, and a callee's coefficients behind it.
use Rattle.std.proofs.Common.{refl, [], ◌∷◌, map, length, set, arith}
use Rattle.words.specs.Word.{word}
use Rattle.words.specs.Polynomial.{polynomial_words}
use Rattle.write_frame.proofs.Overwriting.{set_written, part_written}
use Rattle.write_frame.proofs.frame.write_polynomial.Goals as goal

pub returns : goal.returns
unfolding polynomial_words
returns c =
    let lent = c.args.words.now in
    let w = word 2 (length c.args.f.now) in
    part_written (w ∷ []) (map (word 3) c.args.f.now) lent (set lent 0 w) 1 _
    (set_written [] lent lent 0 w refl refl (omega arith)) refl
    c.write_coefficients.ensures
