use Rattle.std.proofs.Common.{◌≡◌, ℕ, sym, ap, ◌∙◌, arith}
use Rattle.words.specs.Bytes.{words_of}
use Rattle.words.proofs.BytesLaws.{length_words_of, words_of_at}
use Rattle.files.proofs.Filling.{filled, filled_next}
use Rattle.files.proofs.unpacking.unpack.Goals as goal

pub loop-i-preserved : goal.loop-i-preserved
loop-i-preserved c =
    let bytes = c.args.bytes.now in
    let n = length_words_of bytes in
    let i : ℕ = c.loop-i.i in
    filled_next (words_of bytes) c.args.words.now i _ _ c.loop-i.invariant (omega (arith, n)) (omega arith)
    (c.word_at.ensures ∙ sym (words_of_at bytes i (omega arith))) _ (omega arith)

pub returns : goal.returns
returns c =
    let bytes = c.args.bytes.now in
    let end : c.loop-i.i ≡ c.min-count.result = omega arith in
    record {
      number = omega (arith, length_words_of bytes);
      words = c.loop-i.invariant ∙ ap (filled (words_of bytes) c.args.words.now) end;
    }
