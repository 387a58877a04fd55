-- The part that is copied over has the four bytes.
use Rattle.std.proofs.Common.{ℕ, List, [], ◌∷◌, ◌/◌, ◌%◌, ◌∙◌, refl, arith}
use Rattle.std.proofs.lemmas.Slice.{put_mid-paste}
use Rattle.modular.specs.Bits.{bound8}
use Rattle.words.specs.Bytes.{second_byte_unit, third_byte_unit, fourth_byte_unit}
use Rattle.files.proofs.WordBytes.{four_set}
use Rattle.files.proofs.writing.write_word.Goals as goal

pub returns : goal.returns
returns c =
    let w = c.args.word in
    let bytes : List ℕ = w % bound8 ∷ w / second_byte_unit % bound8 ∷ w / third_byte_unit % bound8 ∷ w / fourth_byte_unit % bound8 ∷ [] in
    put_mid-paste _ _ _ _ bytes 4 (c.copy_from_slice.ensures.after ∙ rw c.to_le_bytes.ensures refl) (omega arith) refl
    ∙ four_set c.args.bytes.now c.args.at _ _ _ _ _ c.requires (omega arith)
