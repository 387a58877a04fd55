-- A prime below 2^16 is at most 65,521: each of the fourteen numbers above has a factor, listed from the highest number down.
use Rattle.std.specs.Prelude.{◌≡◌, List, [], ◌∷◌, ℕ, ◌+◌, ◌%◌, ◌≤◌, ◌<◌, length}
use Rattle.std.proofs.Common.{subst, arith, rules}
use Rattle.std.proofs.Math.Decide.{ℕ_discrete}
use Rattle.modular.specs.Prime.{Prime}
use Rattle.modular.specs.Bits.{bound16}

-- "p: any prime from 2 to 65,521", the largest prime of 16 bits
abbrev pub largest_modulus : ℕ
largest_modulus = 65521

-- the numbers from `start` on have these factors
Composite : ℕ → List ℕ → Type 0
Composite start [] = Unit {0}
Composite start (a ∷ factors) = (1 < a) × (a < start) × ((start + length factors) % a ≡ 0) × Composite start factors

prime_before : (p start : ℕ) → Prime p → (factors : List ℕ) → Composite start factors → p < start + length factors → p < start
unfolding Composite
prime_before p start prime [] c h = omega arith
prime_before p start prime (a ∷ factors) c h =
    go (prime_before p start prime factors c.3) (ℕ_discrete (start + length factors) p)
  where
    go : (p < start + length factors → p < start) → Dec (start + length factors ≡ p) → p < start
    go before (yes e) =
        let l = c.1 in
        absurd (prime.undivided a c.0 (omega arith) (subst (λ (n : ℕ). n % a ≡ 0) e c.2))
    go before (no n) = before (omega (arith, n))

pub prime_largest : (p : ℕ) → Prime p → p < bound16 → p ≤ largest_modulus
unfolding Composite
prime_largest p prime h =
    let factors : List ℕ = 3 ∷ 2 ∷ 13 ∷ 2 ∷ 19 ∷ 2 ∷ 3 ∷ 2 ∷ 7 ∷ 2 ∷ 5 ∷ 2 ∷ 3 ∷ 2 ∷ [] in
    omega (arith, prime_before p (1 + largest_modulus) prime factors (search rules) h)
