use Rattle.std.proofs.Common.{◌*◌, rules}
use Rattle.words.specs.Limits.{office}
use Rattle.writer.specs.Values.{certificate_stride}
use Rattle.writer.proofs.Sizes.{FoundIn, size_by}
use Rattle.writer.proofs.output.size_of.Goals as goal

pub returns : goal.returns
returns c =
    let found : FoundIn c.args.output.now (certificate_stride * c.args.k) office.certificate_coefficients c.rposition.result = search rules in
    size_by _ _ _ _ found (search rules)
