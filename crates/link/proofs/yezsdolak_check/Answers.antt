-- The verdict, packed; its place is small.
use mathlib.Core.Path.{sym, subst}
use native.Mathlib.Omega.{arith}
use Rattle.words.specs.Limits.{office}
use Rattle.words.specs.LimitsLaws.{office_fits}
use Rattle.answers.specs.Packed.{packed_most, VerdictMost}
use Rattle.verifier.specs.FileLaws.{file_verdict_most}
use Rattle.link.proofs.yezsdolak_check.Goals as goal

pub pack_verdict-requires : goal.pack_verdict-requires
pack_verdict-requires c =
    let most = file_verdict_most office office_fits _ _ _ packed_most (omega arith) (omega arith) (omega arith) in
    subst (VerdictMost packed_most) (sym c.check_files.ensures) most
