-- First the shape, then the values in the format of its kind.
use Rattle.std.proofs.Common.{sym, rules, arith}
use Rattle.words.specs.Limits.{office}
use Rattle.words.specs.LimitsLaws.{office_fits}
use Rattle.write_frame.specs.Trial.{passed}
use Rattle.writer.specs.WritingLaws.{shape_passed}
use Rattle.writer.specs.Values.{shape_with}
use Rattle.writer.specs.Formats.{format_of}
use Rattle.writer.proofs.Answers.{shape_refused, shape_written}
use Rattle.writer.proofs.Ready.{ready_as, kind_ready}
use Rattle.writer.proofs.values.write_shaped.Goals as goal

pub returns-in_err-try_shape : goal.returns-in_err-try_shape
returns-in_err-try_shape c =
    let h = shape_with c.args.modulus c.args.rows c.args.columns in
    let w = shape_refused office h (format_of office h c.args.kind) c.args.sizes.now c.args.coefficients.now c.args.words.now
    c.in_err-try_shape.field-0.0 c.in_err-try_shape.ensures in
    search rules

pub format_for-format-requires : goal.format_for-format-requires
format_for-format-requires c = ((shape_passed office _ passed (sym c.in_ok-try_shape.ensures)).0, c.requires.0)

pub invariant_of-polynomials : goal.invariant_of-polynomials
invariant_of-polynomials c =
    let within = (shape_passed office (shape_with c.args.modulus c.args.rows c.args.columns) passed (sym c.in_ok-try_shape.ensures)).0 in
    let ready = ready_as c.format_for-format.ensures
    (kind_ready office office_fits _ within c.args.kind c.requires.0 _ _ (omega arith) c.requires.1 c.requires.2) in
    record { covered = ready.0 }

pub write_values-requires : goal.write_values-requires
write_values-requires c =
    let within = (shape_passed office (shape_with c.args.modulus c.args.rows c.args.columns) passed (sym c.in_ok-try_shape.ensures)).0 in
    let ready = ready_as c.format_for-format.ensures
    (kind_ready office office_fits _ within c.args.kind c.requires.0 _ _ (omega arith) c.requires.1 c.requires.2) in
    (ready.1, ready.2)

pub returns : goal.returns
returns c =
    shape_written office (shape_with c.args.modulus c.args.rows c.args.columns) _ _ _ _ c.in_ok-try_shape.ensures
    c.format_for-format.ensures c.write_values.ensures
