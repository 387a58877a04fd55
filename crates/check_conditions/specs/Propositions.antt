-- That areas are loaded is one fact: it holds in one way at the most.
use Rattle.std.specs.Prelude.{List, [], ◌∷◌, ℕ}
use Rattle.std.specs.Coded.{Unit-prop, le_prop}
use Rattle.std.proofs.Props as std
use Rattle.modular.specs.Canonical.{Canonical, LastNonzero}

last_prop : (a : ℕ) (f : List ℕ) → IsProp (LastNonzero a f)
unfolding LastNonzero
last_prop a [] = le_prop
last_prop a (b ∷ f) = Unit-prop

pub canonical_prop : (p : ℕ) (f : List ℕ) → IsProp (Canonical p f)
unfolding Canonical LastNonzero
canonical_prop p [] = Unit-prop
canonical_prop p (a ∷ f) = λ x y.
    λ i. (le_prop x.0 y.0 i, last_prop a f x.1 y.1 i, canonical_prop p f x.2 y.2 i)

-- for `hlevel`
pub ruleset loaded_props = (std.props, canonical_prop)
