-- The report is among the bytes lent for it.
use Rattle.std.proofs.Common.{replicate, sym}
use Rattle.std.proofs.Math.Seq.{length-take-le}
use Rattle.words.specs.Limits.{office}
use Rattle.report.specs.ReportingLaws.{reports_most}
use Rattle.stored_cases.proofs.solution.answer.Goals as goal

pub slice_bounds-report-end : goal.slice_bounds-report-end
slice_bounds-report-end c = reports_most (replicate 1024 0) _ office _ c.write_report-n.ensures

pub slice_bounds-show-end : goal.slice_bounds-show-end
slice_bounds-show-end c = sym (length-take-le _ _ (reports_most (replicate 1024 0) _ office _ c.write_report-n.ensures))
