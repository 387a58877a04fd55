-- The shape, then what the reader says of the words, and what the loop stores of them.
use Rattle.std.proofs.Common.{sym, rules, arith}
use Rattle.words.specs.Limits.{office}
use Rattle.answers.specs.Answer.{shape_of}
use Rattle.write_frame.specs.Trial.{passed}
use Rattle.writer.specs.WritingLaws.{shape_passed}
use Rattle.values.proofs.Answers.{shape_refused, certificate_refused, certificate_asked, certificate_loads}
use Rattle.values.proofs.load_certificate.Goals as goal

pub returns-in_err-try_shape : goal.returns-in_err-try_shape
returns-in_err-try_shape c =
    let l = shape_refused (shape_of c.args.shape) c.args.words.now c.args.sizes.now c.args.values.now c.in_err-try_shape.field-0.0
    c.in_err-try_shape.ensures in
    search rules

pub returns-in_err-form : goal.returns-in_err-form
returns-in_err-form c =
    let l = certificate_refused (shape_of c.args.shape) c.args.words.now c.in_ok-try_shape.ensures c.args.sizes.now c.args.values.now
    c.in_err-form.field-0.0 (rw c.limits.ensures at c.in_err-form.ensures) in
    search rules

pub format_for-format-requires : goal.format_for-format-requires
format_for-format-requires c = ((shape_passed office (shape_of c.args.shape) passed (sym c.in_ok-try_shape.ensures)).0, tt)

pub load_entries-requires : goal.load_entries-requires
load_entries-requires c =
    certificate_asked (shape_of c.args.shape) _ c.in_ok-try_shape.ensures c.in_ok-form.form (rw c.limits.ensures at c.in_ok-form.ensures)
    c.format_for-format.ensures _ _ (omega arith) (omega arith)

pub returns : goal.returns
returns c =
    certificate_loads (shape_of c.args.shape) _ c.in_ok-try_shape.ensures _ (rw c.limits.ensures at c.in_ok-form.ensures)
    c.format_for-format.ensures _ _ c.load_entries.ensures
