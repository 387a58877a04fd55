-- Finite sums of numbers, over the indices below n, and their remainders: terms may be reduced before or after.
use Rattle.std.specs.Prelude.{◌≡◌, refl, ℕ, zero, suc, ◌+◌, ◌*◌, ◌%◌, ◌≤◌, ◌<◌}
use Rattle.std.proofs.Common.{sym, ◌∙◌, ap, ap₂, add-zero, add_assoc, suc-mul, arith}
use Rattle.std.proofs.Math.Nat.{add-mod}
use Rattle.std.proofs.Math.Decide.{le_ind}
use Rattle.ring.specs.Total.{total}

pub total_front : (n : ℕ) (t : ℕ → ℕ) → total (suc n) t ≡ t 0 + total n (λ i. t (suc i))
unfolding total
total_front zero t = omega arith
total_front (suc n) t = ap (λ x. x + t (suc n)) (total_front n t) ∙ add_assoc (t 0) (total n (λ i. t (suc i))) (t (suc n))

-- terms that are 0 from n on do not count
pub total_beyond : (n m : ℕ) (t : ℕ → ℕ) → ((i : ℕ) → n ≤ i → t i ≡ 0) → n ≤ m → total m t ≡ total n t
unfolding total
total_beyond n m t e = le_ind (λ k. total k t ≡ total n t) refl (λ k h q. ap₂ ◌+◌ q (e k h) ∙ add-zero (total n t)) m

-- equal sums where the terms have equal remainders
pub total_mod : (p n : ℕ) (t u : ℕ → ℕ) → ((i : ℕ) → i < n → t i % p ≡ u i % p) → total n t % p ≡ total n u % p
unfolding total
total_mod p zero t u e = refl
total_mod p (suc n) t u e =
    add-mod (total n t) (t n) p
    ∙ ap₂ (λ x y. (x + y) % p) (total_mod p n t u (λ i h. e i (omega arith))) (e n (omega arith))
    ∙ sym (add-mod (total n u) (u n) p)

pub total_bound : (n b : ℕ) (t : ℕ → ℕ) → ((i : ℕ) → i < n → t i ≤ b) → total n t ≤ n * b
unfolding total
total_bound zero b t e = omega arith
total_bound (suc n) b t e = omega (arith, total_bound n b t (λ i h. e i (omega arith)), e n (omega arith), suc-mul n b)
