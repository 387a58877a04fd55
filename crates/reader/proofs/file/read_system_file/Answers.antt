-- `reader::file::read_system_file` meets its contract: number 10, or what the words that were left tell.
use Rattle.std.proofs.Common.{sym, ap, ◌∙◌, arith}
use Rattle.words.specs.Limits.{office}
use Rattle.words.specs.Outcome.{mapped}
use Rattle.words.specs.Systems.{systems_head, read_systems}
use Rattle.answers.specs.Answer.{counted_outcome, system_outcome}
use Rattle.files.specs.OpeningLaws.{system_file_refused, system_file_read}
use Rattle.reader.specs.ReadLaws.{system_told}
use Rattle.reader.proofs.Told.{passed_on}
use Rattle.reader.proofs.file.read_system_file.Goals as goal

pub returns-in_err-count : goal.returns-in_err-count
returns-in_err-count c =
    ap system_outcome (passed_on _ c.in_err-count.field-0.0 c.from_residual.ensures.1)
    ∙ ap (mapped systems_head) (sym (system_file_refused office c.open_file.ensures (ap counted_outcome c.in_err-count.was)))

pub returns : goal.returns
returns c =
    system_told read_systems systems_head _ _ c.limits.ensures c.read_system.ensures
    ∙ ap (mapped systems_head) (sym (system_file_read office c.open_file.ensures (omega arith)
    (ap counted_outcome c.in_ok-count.was)))
