-- The zeros in front of a list are its delay.
use Rattle.std.proofs.Common.{◌≡◌, ◌==◌, ℕ, zero, suc, List, [], ◌∷◌, refl, arith}
use Rattle.std.specs.List.{prefix_len}
use Rattle.std.proofs.lemmas.Bool.Decides.{nat_tests}
use Rattle.modular.specs.Delay.{delay}

pub delay_is : (f : List ℕ) → prefix_len (λ x. x == 0) f ≡ delay f
unfolding delay
delay_is [] = refl
delay_is (zero ∷ f) = omega (arith, delay_is f)
delay_is (suc a ∷ f) = grind (arith, nat_tests)
