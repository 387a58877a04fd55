-- The terms that count at a block have room, in t and in the quotients. Here, since `omega` meets too many differences in a proof.
use Prim.Native.Nat.{ℕ, ◌+◌, ◌*◌, ◌≤◌, min}
use mathlib.Core.Path.{◌≡◌, ◌∙◌, ap}
use native.Mathlib.Omega.{arith}
use Rattle.solve_lattice.specs.Room.{product_words, block_words, lanes, product_degrees}
use Rattle.solve_descent.specs.Blocks.{most_terms, block_terms}

-- the lesser of the two bounds
pub terms_are : (degrees size : ℕ) {m k : ℕ} → m ≡ most_terms size → k ≡ min degrees m → k ≡ block_terms degrees size
terms_are degrees size most least = least ∙ ap (min degrees) most

pub terms_room : (degrees size : ℕ) {k : ℕ} → k ≡ block_terms degrees size → size ≤ block_words
    → (k ≤ product_degrees) × (k * lanes + size ≤ product_words + lanes)
terms_room degrees size is within = (omega arith, omega arith)
