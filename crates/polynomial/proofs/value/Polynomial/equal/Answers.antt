-- Values of one size are compared word by word; of two sizes they differ.
use borrow.Author.Rules.{rules}
use borrow.Author.Tests.{ne_eqb}
use Rattle.polynomial.specs.Value.{coefficients_of}
use Rattle.polynomial_words.proofs.Compared.{compared_sizes}
use Rattle.polynomial.proofs.value.Polynomial.equal.Goals as goal

pub returns-then-self-g : goal.returns-then-self-g
unfolding coefficients_of
returns-then-self-g c = rw (← c.if-self-g.true) c.same_words.ensures

pub returns-else-self-g : goal.returns-else-self-g
unfolding coefficients_of
returns-else-self-g c =
    rw (ne_eqb _ _ c.if-self-g.false) (compared_sizes _ _ _ _ (search rules) (search rules) c.if-self-g.false)
