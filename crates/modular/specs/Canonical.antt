-- What a polynomial modulo p is, as a value: the list of its coefficients, lowest power first, each below p, the last not 0.
use Rattle.std.specs.Prelude.{List, [], ◌∷◌, ℕ, ◌<◌}

-- of the coefficient a with f behind it: it is not the last, or it is not 0
unfoldable pub LastNonzero : ℕ → List ℕ → Type 0
LastNonzero a [] = 0 < a
LastNonzero a (b ∷ f) = Unit {0}

unfoldable pub Canonical : ℕ → List ℕ → Type 0
unfolding LastNonzero
Canonical p [] = Unit {0}
Canonical p (a ∷ f) = (a < p) × LastNonzero a f × Canonical p f
