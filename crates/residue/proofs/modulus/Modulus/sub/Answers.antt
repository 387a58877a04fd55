-- The sum is below 2p, and -b need not be reduced before it is added.
use mathlib.Core.Path.{sym, ◌∙◌}
use native.Mathlib.Nat.{add-mod-mod}
use Rattle.modular.specs.Modulo.{modulo}
use Rattle.residue.proofs.modulus.Modulus.sub.Goals as goal

pub returns : goal.returns
unfolding modulo
returns c = c.wrap.ensures ∙ sym (add-mod-mod _ _ _)
