-- `reader::line::read_line` meets its contract: what is told of the sheet is told of its line.
use Rattle.std.proofs.Common.{rules, ◌∙◌}
use Rattle.limits.specs.Value.{limits_of}
use Rattle.reader.proofs.LineSteps.{line_shape, line_mapped}
use Rattle.reader.proofs.line.read_line.Goals as goal

pub returns : goal.returns
returns c =
    let m = line_mapped c.read_sided.result c.map.result _ c.map.ensures.cases in
    m (λ h x k. search rules) ∙ line_shape (limits_of c.args.limits) c.args.side c.args.words.now c.read_sided.ensures
