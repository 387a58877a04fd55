-- The leading coefficient is the last word; without one it is 0.
use mathlib.Core.Path.{◌≡◌, refl, ap, ◌∙◌}
use mathlib.Core.List.{List}
use Prim.Native.Nat.{ℕ, ◌-◌}
use denote.Ref.{Bor}
use lib.Dec.{eqb}
use lib.ListN.{length}
use Rattle.std.proofs.Common.{Option, Some, None}
use Rattle.std.specs.Option.{option_eq, option_copied, unwrap_or}
use Rattle.std.proofs.lemmas.Option.{unwrap_or-slice_get}
use Rattle.algebra.specs.Coefficients.{leading}
use Rattle.modular.specs.Modulo.{modulo}
use Rattle.polynomial.proofs.Made.{leading_last}
use Rattle.check_conditions.proofs.solution.is_monic_at.Goals as goal

is_some_one : (o : Option (Bor ℕ)) (one : Bor ℕ) → one.now ≡ 1
    → option_eq (λ x y. eqb x.now y.now) o (Some one) ≡ eqb (unwrap_or (option_copied o) 0) 1
is_some_one None one e = refl
is_some_one (Some x) one e = ap (eqb x.now) e

pub returns : goal.returns
returns c = λ p.
    let is = c.coefficients_in.ensures in
    let f : List ℕ = c.coefficients_in.result.now in
    c.eq.ensures
    ∙ is_some_one c.last.result _ refl
    ∙ ap (λ o. eqb (unwrap_or o 0) 1) c.last.ensures.value
    ∙ ap (λ a. eqb a 1) (unwrap_or-slice_get f (length f - 1) 0 ∙ leading_last p f ∙ ap (leading (modulo p)) is)
