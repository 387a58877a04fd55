-- The library writes the digits into an array, whose first bytes are then appended.
use mathlib.Core.Path.{◌∙◌}
use Rattle.report_text.proofs.Digits.{digits_decimal}
use Rattle.report_text.proofs.text.Text.append_decimal.Goals as goal

pub append-requires : goal.append-requires
append-requires c =
    let e = c.decimal-count.ensures in
    rw (e.digits ∙ digits_decimal c.decimal-count.result c.args.n e.len) c.requires

pub returns : goal.returns
returns c =
    let e = c.decimal-count.ensures in
    rw (e.digits ∙ digits_decimal c.decimal-count.result c.args.n e.len) at c.append.ensures
