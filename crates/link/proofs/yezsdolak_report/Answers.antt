-- The count is small, so that its multiple fits.
use native.Mathlib.Omega.{arith}
use Rattle.report.specs.ReportingLaws.{reports_short}
use Rattle.link.proofs.yezsdolak_report.Goals as goal

pub overflow_mul-result : goal.overflow_mul-result
overflow_mul-result c =
    let call = c in
    let lent = call.args.text.now in
    omega (arith, reports_short _ lent call.write_report.new.out call.write_report.ensures)
