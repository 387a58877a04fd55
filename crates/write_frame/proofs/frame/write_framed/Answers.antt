-- The head, a callee's polynomials behind it and the end are written one behind another.
use Rattle.std.proofs.Common.{arith}
use Rattle.write_frame.proofs.Framed.{framed_written}
use Rattle.write_frame.proofs.frame.write_framed.Goals as goal

pub returns : goal.returns
returns c = framed_written _ _ _ _ _ (omega arith) c.write_polynomials-end.ensures.0
