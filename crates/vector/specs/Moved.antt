-- What storing into a range does to polynomials: `copy`, `exchange` and `reduce_range` carry a polynomial over.
use Rattle.std.specs.Prelude.{◌≡◌, List, [], ℕ, ◌+◌, ◌%◌, ◌≤◌, ◌<◌, length, get_or}
use Rattle.std.proofs.Common.{◌∙◌}
use Rattle.std.proofs.Math.Seq.{take-nil}
use Rattle.vector.specs.Stored.{stored, stored_inside}
use Rattle.vector.specs.Reduced.{reduced, polynomial, residue_same, polynomial_same}

pub polynomial_nil : (p n : ℕ) → polynomial p [] 0 n ≡ []
unfolding reduced
polynomial_nil p n = rw take-nil

module _ (p : ℕ) (positive : 0 < p) (f : ℕ → ℕ) (l : List ℕ) (d n : ℕ) (room : d + n ≤ length l) where
  -- the range stored to stands for what a range of m stands for, where the words are the same modulo p
  pub polynomial_stored : (m : List ℕ) (b : ℕ) → ((j : ℕ) → j < n → f j % p ≡ get_or m (b + j) 0 % p)
      → polynomial p (stored f l d n) d n ≡ polynomial p m b n
  polynomial_stored m b e =
      polynomial_same p positive _ m d b n (λ j lt. residue_same p (stored_inside f l d n j room lt) ∙ e j lt)
