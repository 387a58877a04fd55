-- The last of the coefficients, 0 where there is none.
use mathlib.Core.Path.{ap, ◌∙◌}
use mathlib.Core.List.{List}
use lib.ListN.{length, take}
use Prim.Native.Nat.{ℕ, ◌-◌}
use Rattle.std.specs.Option.{unwrap_or}
use Rattle.std.proofs.lemmas.Option.{unwrap_or-slice_get}
use Rattle.polynomial.specs.Value.{coefficients_of}
use Rattle.polynomial.proofs.Made.{leading_last}
use Rattle.polynomial.proofs.value.Polynomial.leading.Goals as goal

pub returns : goal.returns
unfolding coefficients_of
returns c = λ p.
    let words : List ℕ = take c.args.self.size c.args.self.coefficients in
    c.unwrap_or.ensures
    ∙ ap (λ o. unwrap_or o 0) (c.copied.ensures ∙ c.last.ensures.value)
    ∙ unwrap_or-slice_get words (length words - 1) 0
    ∙ leading_last p words
