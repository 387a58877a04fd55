-- The answer, packed; its count and its place are small.
use Rattle.words.specs.Limits.{office}
use Rattle.words.specs.LimitsLaws.{office_fits}
use native.Mathlib.Omega.{arith}
use Rattle.answers.specs.Packed.{most_wider}
use Rattle.solver.specs.FileLaws.{solves_file_most}
use Rattle.link.proofs.yezsdolak_solve.Goals as goal

pub pack_counted-requires : goal.pack_counted-requires
pack_counted-requires c =
    let call = c in
    let lent = call.args.certificate.now in
    most_wider (omega arith) (omega arith) (solves_file_most office office_fits _ _ lent call.solve_file.new.bytes _
    call.solve_file.ensures)
