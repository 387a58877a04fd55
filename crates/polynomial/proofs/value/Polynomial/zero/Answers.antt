-- No coefficients, zeros behind them.
use Rattle.polynomial.proofs.Made.{represents_zero}
use Rattle.polynomial.proofs.value.Polynomial.zero.Goals as goal

pub returns : goal.returns
returns c = λ p. represents_zero p _ c.zeros-words.ensures.0 c.zeros-words.ensures.1
