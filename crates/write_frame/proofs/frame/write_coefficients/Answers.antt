use Rattle.std.proofs.Common.{◌≡◌, ℕ, ◌+◌, map, take, set, subst, arith}
use Rattle.std.proofs.Math.ListN.{length-map, get_or-map}
use Rattle.words.specs.Word.{word}
use Rattle.write_frame.specs.Overwriting.{overwritten}
use Rattle.write_frame.proofs.Overwriting.{written_next}
use Rattle.write_frame.proofs.frame.write_coefficients.Goals as goal

pub loop-i-preserved : goal.loop-i-preserved
loop-i-preserved c =
    let f = c.args.f.now in
    let i = c.loop-i.i in
    let n = length-map f (word 3) in
    let room = c.requires.0 in
    subst (λ (w : ℕ). set c.loop-i.words i w ≡ overwritten (take (i + 1) (map (word 3) f)) c.args.words.now)
    (get_or-map (word 3) f i 0)
    (written_next (map (word 3) f) _ _ i (word 3 0) c.loop-i.invariant (omega arith) (omega arith))
