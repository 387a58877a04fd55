-- The certificate is among the bytes lent for it.
use Rattle.std.proofs.Common.{ap, sym}
use Rattle.std.proofs.Math.Seq.{length-take-le}
use Rattle.answers.specs.Answer.{counted_outcome}
use Rattle.solver.specs.SolvingLaws.{solves_fits}
use Rattle.stored_cases.proofs.solution.show_solved.Goals as goal

pub slice_bounds-certificate-end : goal.slice_bounds-certificate-end
slice_bounds-certificate-end c = solves_fits _ _ _ _ _ _ c.solve_file.ensures _ (ap counted_outcome c.in-Ok.is)

pub slice_bounds-show_accepted-end : goal.slice_bounds-show_accepted-end
slice_bounds-show_accepted-end c =
    sym (length-take-le _ _ (solves_fits _ _ _ _ _ _ c.solve_file.ensures _ (ap counted_outcome c.in-Ok.is)))
