-- The sizes are found, and the words are lent as they lie.
use Rattle.std.proofs.Common.{refl}
use Rattle.answers.specs.Answer.{shape_of}
use Rattle.writer.specs.OutputLaws.{format_few, output_ready, output_wrote}
use Rattle.writer.proofs.output.write_output.Goals as goal

pub store_sizes-requires : goal.store_sizes-requires
store_sizes-requires c =
    (format_few (shape_of c.args.shape) c.requires.0 c.requires.1 _ (c.certificate_format-format.ensures _), refl)

pub invariant_of-polynomials : goal.invariant_of-polynomials
invariant_of-polynomials c =
    let ready = output_ready (shape_of c.args.shape) c.requires.0 c.requires.1 _ (c.certificate_format-format.ensures _) _ _
    c.store_sizes.ensures.0 c.store_sizes.ensures.1 c.told-output c.requires.2 c.requires.3 in
    record { covered = ready.0 }

pub write_framed-requires : goal.write_framed-requires
write_framed-requires c =
    let ready = output_ready (shape_of c.args.shape) c.requires.0 c.requires.1 _ (c.certificate_format-format.ensures _) _ _
    c.store_sizes.ensures.0 c.store_sizes.ensures.1 c.told-output c.requires.2 c.requires.3 in
    (ready.1, ready.2)

pub returns : goal.returns
returns c =
    output_wrote (shape_of c.args.shape) c.requires.0 c.requires.1 _ (c.certificate_format-format.ensures _) _ _
    c.store_sizes.ensures.0 c.write_framed.ensures
