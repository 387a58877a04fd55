-- Polynomials as lists of coefficients, lowest power first, the last not zero; the empty list is the zero polynomial. The
-- operations are those that contracts cite: they are executable over any operations on coefficients, and `Polynomial` has their
-- laws.
use Rattle.std.specs.Prelude.{Bool, true, false, length}
use mathlib.Core.List.{List, [], ◌∷◌}
use Prim.Native.Nat.{ℕ, zero, suc, ◌-◌}
use Rattle.algebra.specs.Operations.{Operations}

pub record Division (A : Type 0) : Type 0 where
  pub quotient : List A
  pub remainder : List A

-- the list of a alone; none where a is zero, as the flag says
unfoldable pub single : {A : Type 0} → Bool → A → List A
single true a = []
single false a = a ∷ []

module _ {A : Type 0} (o : Operations A) where
  -- a + x·f
  unfoldable pub cons : A → List A → List A
  unfolding single
  cons a [] = single (o.zero? a) a
  cons a (b ∷ f) = a ∷ b ∷ f

  unfoldable pub constant : A → List A
  unfolding cons
  constant a = cons a []

  unfoldable pub one : List A
  unfolding constant
  one = constant o.one

  -- the coefficient of the power n
  unfoldable pub coefficient : List A → ℕ → A
  coefficient [] n = o.zero
  coefficient (a ∷ f) zero = a
  coefficient (a ∷ f) (suc n) = coefficient f n

  -- the coefficient of the highest power; zero's is zero
  unfoldable pub leading : List A → A
  leading [] = o.zero
  leading (a ∷ []) = a
  leading (a ∷ b ∷ f) = leading (b ∷ f)

  unfoldable pub add : List A → List A → List A
  unfolding cons
  add [] g = g
  add (a ∷ f) [] = a ∷ f
  add (a ∷ f) (b ∷ g) = cons (o.add a b) (add f g)

  unfoldable pub negate : List A → List A
  unfolding cons
  negate [] = []
  negate (a ∷ f) = cons (o.neg a) (negate f)

  unfoldable pub subtract : List A → List A → List A
  unfolding add negate
  subtract f g = add f (negate g)

  -- c·f
  unfoldable pub scale : A → List A → List A
  unfolding cons
  scale c [] = []
  scale c (a ∷ f) = cons (o.mul c a) (scale c f)

  -- x^k·f
  unfoldable pub shift : ℕ → List A → List A
  unfolding cons
  shift zero f = f
  shift (suc k) f = cons o.zero (shift k f)

  unfoldable pub mul : List A → List A → List A
  unfolding add scale
  mul [] g = []
  mul (a ∷ f) g = add (scale a g) (cons o.zero (mul f g))

  -- f times the inverse of its leading coefficient; zero's is zero
  unfoldable pub monic : List A → List A
  unfolding scale leading
  monic f = scale (o.inverse (leading f)) f

  -- the c for which r - c·d has no coefficient at d's highest power
  abbrev pub factor : List A → List A → A
  factor d r = o.mul (coefficient r (length d - 1)) (o.inverse (leading d))

  -- from f = q·d + r to a + x·f
  unfoldable pub extend_division : List A → A → Division A → Division A
  unfolding subtract scale coefficient leading
  extend_division d a w =
      let r = cons a w.remainder in
      let c = factor d r in
      record { quotient = cons c w.quotient; remainder = subtract r (scale c d) }

  -- f by d; by zero, f is left as the remainder
  unfoldable pub divide : List A → List A → Division A
  unfolding extend_division
  divide [] d = record { quotient = []; remainder = [] }
  divide (a ∷ f) d = extend_division d a (divide f d)

  abbrev pub quotient : List A → List A → List A
  quotient f d = (divide f d).quotient

  abbrev pub remainder : List A → List A → List A
  remainder f d = (divide f d).remainder

  -- Euclid's algorithm in at most so many divisions
  unfoldable pub euclid : ℕ → List A → List A → List A
  unfolding divide
  euclid zero f g = f
  euclid (suc k) f [] = f
  euclid (suc k) f (b ∷ g) = euclid k (b ∷ g) (remainder f (b ∷ g))

  -- the monic greatest common divisor; as many divisions as g has coefficients are enough
  unfoldable pub gcd : List A → List A → List A
  unfolding euclid monic
  gcd f g = monic (euclid (length g) f g)

  -- and the least common multiple
  abbrev pub lcm : List A → List A → List A
  lcm f g = mul (quotient f (gcd f g)) g
