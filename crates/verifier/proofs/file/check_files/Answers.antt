-- `verifier::file::check_files` meets its contract: the office's limits are kept, and a system's file has a limit.
use mathlib.Core.Path.{ap, ◌∙◌}
use Prim.Native.Nat.{◌*◌}
use Rattle.words.specs.Limits.{Limits, office, longest_system}
use Rattle.words.specs.LimitsLaws.{office_fits}
use Rattle.words.specs.Bytes.{word_bytes}
use Rattle.verifier.specs.File.{bytes_verdict}
use Rattle.verifier.specs.Panel.{bytes_office}
use Rattle.verifier.proofs.Tried.{office_areas}
use Rattle.verifier.proofs.file.check_files.Goals as goal

pub check_bytes-requires-clause-areas : goal.check_bytes-requires-clause-areas
check_bytes-requires-clause-areas c = office_areas _

pub returns : goal.returns
returns c =
    let a = c.args in
    c.check_bytes.ensures
    ∙ ap (λ (l : Limits). bytes_verdict office l (word_bytes * longest_system office) a.side a.system.now a.certificate.now)
    c.limits.ensures
    ∙ bytes_office office office_fits a.side a.system.now a.certificate.now
