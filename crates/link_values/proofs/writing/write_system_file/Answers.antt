-- The answer, packed; its count and its place are small.
use mathlib.Core.Path.{sym, subst}
use Rattle.writer.specs.Values.{head_with}
use Rattle.answers.specs.Packed.{packed_most, AnswerMost}
use Rattle.link_values.proofs.Small.{write_small}
use Rattle.link_values.proofs.writing.write_system_file.Goals as goal

pub pack_counted-requires : goal.pack_counted-requires
pack_counted-requires c =
    let call = c in
    let a = call.args in
    subst (AnswerMost packed_most packed_most) (sym call.write_to_bytes.ensures.told)
    (write_small _ (head_with a.modulus a.rows a.columns a.sides) a.sizes.now a.coefficients.now)
