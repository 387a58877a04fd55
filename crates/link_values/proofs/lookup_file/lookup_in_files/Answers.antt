-- The answer, packed; its count and its place are small.
use mathlib.Core.Path.{sym, subst}
use Rattle.answers.specs.Packed.{packed_most, AnswerMost}
use Rattle.link_values.proofs.Small.{lookup_small}
use Rattle.link_values.proofs.lookup_file.lookup_in_files.Goals as goal

pub pack_counted-requires : goal.pack_counted-requires
pack_counted-requires c =
    subst (AnswerMost packed_most packed_most) (sym c.write_coefficients.ensures.told) (lookup_small _ _ _ _)
