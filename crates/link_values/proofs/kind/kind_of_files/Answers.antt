-- The answer, packed; its place is small.
use mathlib.Core.Path.{sym, subst}
use Rattle.answers.specs.Packed.{packed_most, AnswerMost}
use Rattle.link_values.proofs.Small.{kind_small}
use Rattle.link_values.proofs.kind.kind_of_files.Goals as goal

pub pack_counted-requires : goal.pack_counted-requires
pack_counted-requires c = subst (AnswerMost packed_most packed_most) (sym c.read_kind.ensures) (kind_small _ _)
