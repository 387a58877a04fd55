-- The definitions compute: small examples.
use Rattle.std.specs.Prelude.{◌≡◌, refl, [], ◌∷◌, ◌+◌}
use Rattle.algebra.specs.Coefficients.{cons}
use Rattle.modular.specs.Modulo.{modulo}
use Rattle.vector.specs.Stored.{stored}
use Rattle.vector.specs.Multiple.{sum_at}
use Rattle.vector.specs.Reduced.{reduced, polynomial}

-- two words from the place 1 on
two_stored : stored (λ j. j + 7) (1 ∷ 2 ∷ 3 ∷ 4 ∷ []) 1 2 ≡ 1 ∷ 7 ∷ 8 ∷ 4 ∷ []
unfolding stored
two_stored = refl

-- the words 7, 10, 11, 15 are 2 + x² modulo 5
words_modulo_five : reduced 5 (7 ∷ 10 ∷ 11 ∷ 15 ∷ []) ≡ 2 ∷ 0 ∷ 1 ∷ []
unfolding reduced cons modulo
words_modulo_five = refl

-- 1 + 2x + 3x², and 4·x times 1 + x added to it: 1 + 6x + 7x², which is 1 + x + 2x² modulo 5
step : stored (sum_at (1 ∷ 2 ∷ 3 ∷ []) 1 (1 ∷ 1 ∷ []) 0 4) (1 ∷ 2 ∷ 3 ∷ []) 1 2 ≡ 1 ∷ 6 ∷ 7 ∷ []
unfolding stored
step = refl

step_modulo_five : polynomial 5 (1 ∷ 6 ∷ 7 ∷ []) 0 3 ≡ 1 ∷ 1 ∷ 2 ∷ []
unfolding reduced cons modulo
step_modulo_five = refl
