-- Arithmetic modulo p on the numbers below p: K of document 01, "The system", as it is computed. Its laws are in `Residue`.
use Rattle.std.specs.Prelude.{ℕ, zero, suc, ◌+◌, ◌-◌, ◌*◌, ◌/◌, ◌%◌, eqb}
use Rattle.algebra.specs.Operations.{Operations}

-- The inverse of a in at most so many steps. From p = a·(p / a) + p % a follows that a·(p / a) is -(p % a) modulo p, so that
-- the inverse of a is -(p / a) times the inverse of p % a, which is a smaller number.
unfoldable pub inverse_in : ℕ → ℕ → ℕ → ℕ
inverse_in zero p a = 1
inverse_in (suc steps) p zero = 1
inverse_in (suc steps) p (suc zero) = 1
inverse_in (suc steps) p (suc (suc a)) = (p - p / suc (suc a)) * inverse_in steps p (p % suc (suc a)) % p

-- a steps are enough: each takes at least 1 off
unfoldable pub inverse : ℕ → ℕ → ℕ
unfolding inverse_in
inverse p a = inverse_in a p a

unfoldable pub modulo : ℕ → Operations ℕ
unfolding inverse
modulo p = record {
  add = λ a b. (a + b) % p;
  mul = λ a b. a * b % p;
  neg = λ a. (p - a) % p;
  zero = 0;
  one = 1;
  inverse = inverse p;
  zero? = λ a. eqb a 0;
}
