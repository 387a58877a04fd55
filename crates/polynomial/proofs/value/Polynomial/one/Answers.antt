-- The coefficient 1, zeros behind it.
use Rattle.polynomial.proofs.Made.{represents_one}
use Rattle.polynomial.proofs.value.Polynomial.one.Goals as goal

pub returns : goal.returns
returns c = λ p large. represents_one p _ c.zeros-words.ensures.0 c.zeros-words.ensures.1 large
