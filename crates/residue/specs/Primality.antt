-- Trial division: a number with no divisor up to its square root is prime, and one with such a divisor is not.
use Rattle.std.specs.Prelude.{◌≡◌, refl, Bool, true, false, ℕ, ◌+◌, ◌*◌, ◌/◌, ◌%◌, ◌≤◌, ◌<◌, eqb, ltb}
use Rattle.std.proofs.Common.{sym, ap, ◌∙◌, subst, div-add-mod', mul-le-mul, mul-le-mul_right, arith, eqb-true, ltb-true, ltb-false}
use Rattle.std.proofs.Math.Nat.{mul-mod_right}
use Rattle.std.proofs.lemmas.Bool.{eqb-false}
use Rattle.modular.specs.Prime.{Prime, prime?}
use Rattle.modular.specs.Primality.{prime_of_true}

-- no number from 2 on and below n divides p
abbrev pub Undivided : ℕ → ℕ → Type 0
Undivided p n = (a : ℕ) → 1 < a → a < n → p % a ≡ 0 → ⊥

pub undivided_suc : (p n : ℕ) → Undivided p n → (p % n ≡ 0 → ⊥) → Undivided p (n + 1)
undivided_suc p n below here a lo hi e = go (eqb a n) refl
  where
    go : (b : Bool) → eqb a n ≡ b → ⊥
    go true t = here (ap (λ (m : ℕ). p % m) (sym (eqb-true a n t)) ∙ e)
    go false t = let ne = eqb-false a n t in below a lo (omega arith) e

pub false_of_composite : (p : ℕ) → (Prime p → ⊥) → prime? p ≡ false
false_of_composite p h = go (prime? p) refl
  where
    go : (b : Bool) → prime? p ≡ b → b ≡ false
    go true t = absurd (h (prime_of_true p t))
    go false t = refl

-- Where p is less than d², of a divisor and its cofactor one is below d: divisors below d are all that need be tried.
pub prime_of_root : (p d : ℕ) → 1 < p → Undivided p d → p < d * d → Prime p
prime_of_root p d large none h = record { large = large; undivided = λ a lo hi e. go a lo hi e (ltb a d) refl }
  where
    go : (a : ℕ) → 1 < a → a < p → p % a ≡ 0 → (b : Bool) → ltb a d ≡ b → ⊥
    go a lo hi e true t = none a lo (ltb-true a d t) e
    go a lo hi e false t =
        let cofactor = p / a in
        let whole : cofactor * a ≡ p = omega (arith, div-add-mod' p a) in
        let under : (d ≤ cofactor → ⊥) = λ le. omega (arith, mul-le-mul le (ltb-false a d t)) in
        let over : (cofactor ≤ 1 → ⊥) = λ le. omega (arith, mul-le-mul_right a le) in
        none cofactor (omega arith) (omega arith) (subst (λ (x : ℕ). x % cofactor ≡ 0) whole (mul-mod_right cofactor a))

-- a number that has a divisor up to its square root is not prime
pub composite_of_root : (p d : ℕ) → 1 < d → d * d ≤ p → p % d ≡ 0 → Prime p → ⊥
composite_of_root p d lo s e h = h.undivided d lo (omega (arith, mul-le-mul_right d lo)) e
