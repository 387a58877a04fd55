-- The test `prime?` decides `Prime`.
use Rattle.std.specs.Prelude.{◌≡◌, refl, true, not, ◌&&◌, ℕ, zero, suc, ◌+◌, ◌-◌, ◌%◌, ◌<◌, eqb, ltb}
use Rattle.std.proofs.Common.{sym, ◌∙◌, ap, ap₂, arith, ltb-true, lt-ltb, ne_eqb}
use Rattle.std.proofs.Math.Bool.{and-eq-true_iff}
use Rattle.std.proofs.Math.Decide.{ℕ_discrete}
use Rattle.std.proofs.lemmas.Bool.{eqb-false, not-true}
use Rattle.modular.specs.Prime.{Prime, undivided_by, prime?}

-- the k numbers from 2 on are those above 1 and below k + 2
pub undivided_by_sound : (p k : ℕ) → undivided_by p k ≡ true → (a : ℕ) → 1 < a → a < k + 2 → p % a ≡ 0 → ⊥
unfolding undivided_by
undivided_by_sound p zero e a h l = absurd (omega arith)
undivided_by_sound p (suc k) e a h l = go (undivided_by_sound p k both.1 a h) (ℕ_discrete a (k + 2))
  where
    both : (not (eqb (p % (k + 2)) 0) ≡ true) × (undivided_by p k ≡ true)
    both = (and-eq-true_iff (not (eqb (p % (k + 2)) 0)) (undivided_by p k)).0 e

    go : (a < k + 2 → p % a ≡ 0 → ⊥) → Dec (a ≡ k + 2) → p % a ≡ 0 → ⊥
    go before (yes q) z = eqb-false (p % (k + 2)) 0 (not-true _ both.0) (ap (λ x. p % x) (sym q) ∙ z)
    go before (no q) z = before (omega arith) z

pub undivided_by_complete : (p k : ℕ) → ((a : ℕ) → 1 < a → a < k + 2 → p % a ≡ 0 → ⊥) → undivided_by p k ≡ true
unfolding undivided_by
undivided_by_complete p zero h = refl
undivided_by_complete p (suc k) h =
    ap₂ (λ x y. not x && y) (ne_eqb (p % (k + 2)) 0 (h (k + 2) (omega arith) (omega arith)))
    (undivided_by_complete p k (λ a g l. h a g (omega arith)))

pub prime_of_true : (p : ℕ) → prime? p ≡ true → Prime p
unfolding prime?
prime_of_true p e = record {
  large = large;
  undivided = λ a h l. undivided_by_sound p (p - 2) both.1 a h (omega arith);
}
  where
    both : (ltb 1 p ≡ true) × (undivided_by p (p - 2) ≡ true)
    both = (and-eq-true_iff (ltb 1 p) (undivided_by p (p - 2))).0 e

    large : 1 < p
    large = ltb-true 1 p both.0

pub true_of_prime : (p : ℕ) → Prime p → prime? p ≡ true
unfolding prime?
true_of_prime p prime =
    let large = prime.large in
    ap₂ ◌&&◌ (lt-ltb 1 p large) (undivided_by_complete p (p - 2) (λ a h l. prime.undivided a h (omega arith)))

pub prime_positive : (p : ℕ) → Prime p → 0 < p
prime_positive p prime = let large = prime.large in omega arith
