-- The product of two ranges of words added to a third, before any reduction. Modulo any p it is the sum with the product of the
-- polynomials that the ranges stand for; a bound on the words is all that is needed against overflow.
use Rattle.std.specs.Prelude.{◌≡◌, List, ℕ, ◌+◌, ◌*◌, ◌≤◌, ◌<◌}
use Rattle.algebra.specs.Coefficients.{add, mul}
use Rattle.modular.specs.Modulo.{modulo}
use Rattle.vector.specs.Bound.{AtMost}
use Rattle.vector.specs.Reduced.{polynomial}

-- the most terms of a sum of products that is not reduced before its end: half of what `SmallSum` has room for
abbrev pub unreduced_terms : ℕ
unreduced_terms = 4096

-- what a word may be, at most, to which products are added
abbrev pub sum_most : ℕ
sum_most = 4611686018427387904

-- h' is h with the product of n words of f and k words of g added
pub record GainsProduct (h : List ℕ) (f : List ℕ) (n : ℕ) (g : List ℕ) (k : ℕ) (h' : List ℕ) : Type 0 where
  pub bound : (b q : ℕ) → AtMost b h → AtMost q f → AtMost q g → AtMost (b + n * (q * q)) h'
  pub sum : (p m : ℕ) → 0 < p → n + k ≤ m + 1 →
      polynomial p h' 0 m ≡ add (modulo p) (polynomial p h 0 m) (mul (modulo p) (polynomial p f 0 n) (polynomial p g 0 k))
