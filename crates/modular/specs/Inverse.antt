-- Inverses modulo a prime, found by descent: their equations, that they are inverses, and that there is no other.
use Rattle.std.specs.Prelude.{◌≡◌, refl, ℕ, zero, suc, ◌+◌, ◌-◌, ◌*◌, ◌/◌, ◌%◌, ◌<◌, ◌≤◌}
use Rattle.std.proofs.Common.{sym, ◌∙◌, ap, mod-lt, mod-eq_of_lt, add-mul, mul_assoc, mul_comm, mul-zero, mul-one, one-mul, mul-suc, arith}
use Rattle.std.proofs.Math.Nat.{div-add-mod, add-mul-mod_self_left, zero-mod, mul-sub}
use Rattle.modular.specs.Prime.{Prime}
use Rattle.modular.specs.Modulo.{inverse, inverse_in}
use Rattle.modular.specs.Remainder.{mod_mul_mod, mul_mod_mod}

-- a steps are enough, and more change nothing
inverse_in_enough : (k m p a : ℕ) → a ≤ k → a ≤ m → inverse_in k p a ≡ inverse_in m p a
unfolding inverse_in
inverse_in_enough zero zero p a h g = refl
inverse_in_enough zero (suc m) p zero h g = refl
inverse_in_enough zero (suc m) p (suc a) h g = absurd (omega arith)
inverse_in_enough (suc k) zero p zero h g = refl
inverse_in_enough (suc k) zero p (suc a) h g = absurd (omega arith)
inverse_in_enough (suc k) (suc m) p zero h g = refl
inverse_in_enough (suc k) (suc m) p (suc zero) h g = refl
inverse_in_enough (suc k) (suc m) p (suc (suc a)) h g =
    let below : p % suc (suc a) < suc (suc a) = mod-lt p (omega arith) in
    ap (λ x. (p - p / suc (suc a)) * x % p) (inverse_in_enough k m p (p % suc (suc a)) (omega arith) (omega arith))

-- where the descent ends
pub inverse_small : (p a : ℕ) → a ≤ 1 → inverse p a ≡ 1
unfolding inverse
inverse_small p zero h = refl
inverse_small p (suc zero) h = refl
inverse_small p (suc (suc a)) h = absurd (omega arith)

pub inverse_one : (p : ℕ) → inverse p 1 ≡ 1
inverse_one p = inverse_small p 1 (omega arith)

pub inverse_step : (p a : ℕ) → 1 < a → inverse p a ≡ (p - p / a) * inverse p (p % a) % p
unfolding inverse
inverse_step p zero h = absurd (omega arith)
inverse_step p (suc zero) h = absurd (omega arith)
inverse_step p (suc (suc a)) h =
    let r = p % suc (suc a) in
    let below : r < suc (suc a) = mod-lt p (omega arith) in
    ap (λ x. (p - p / suc (suc a)) * x % p) (inverse_in_enough (suc a) r p r (omega arith) (omega arith))

inverse_in_below : (k p a : ℕ) → 1 < p → inverse_in k p a < p
unfolding inverse_in
inverse_in_below zero p a h = h
inverse_in_below (suc k) p zero h = h
inverse_in_below (suc k) p (suc zero) h = h
inverse_in_below (suc k) p (suc (suc a)) h = mod-lt _ (omega arith)

pub inverse_below : (p a : ℕ) → 1 < p → inverse p a < p
unfolding inverse
inverse_below p a = inverse_in_below a p a

-- (a + 1)·(p - p / (a + 1)) is p % (a + 1) modulo p
descent : (p a : ℕ) → suc a * (p - p / suc a) ≡ p % suc a + p * a
descent p a = omega (arith, mul-sub (suc a) p (p / suc a), div-add-mod p (suc a), mul_comm (suc a) p, mul-suc p a)

-- so that a times -(p / a)·b is p % a times b
descended : (p a b : ℕ) → suc a * ((p - p / suc a) * b % p) % p ≡ p % suc a * b % p
descended p a b =
    mul_mod_mod (suc a) ((p - p / suc a) * b) p
    ∙ ap (λ x. x % p) (sym (mul_assoc (suc a) (p - p / suc a) b))
    ∙ ap (λ x. x * b % p) (descent p a)
    ∙ ap (λ x. x % p) (add-mul (p % suc a) (p * a) b)
    ∙ ap (λ x. (p % suc a * b + x) % p) (mul_assoc p a b)
    ∙ add-mul-mod_self_left (p % suc a * b) p (a * b)

module _ (p : ℕ) (prime : Prime p) where
  inverts : (k a : ℕ) → a ≤ k → 0 < a → a < p → a * inverse p a % p ≡ 1
  inverts zero a e h l = absurd (omega arith)
  inverts (suc k) zero e h l = absurd (omega arith)
  inverts (suc k) (suc zero) e h l = ap (λ x. 1 * x % p) (inverse_one p) ∙ mod-eq_of_lt l
  inverts (suc k) (suc (suc a)) e h l =
      let below : p % suc (suc a) < suc (suc a) = mod-lt p (omega arith) in
      let left : p % suc (suc a) ≡ 0 → ⊥ = prime.undivided (suc (suc a)) (omega arith) l in
      ap (λ x. suc (suc a) * x % p) (inverse_step p (suc (suc a)) (omega arith))
      ∙ descended p (suc a) (inverse p (p % suc (suc a)))
      ∙ inverts k (p % suc (suc a)) (omega arith) (omega arith) (omega arith)

  pub inverse_mul : (a : ℕ) → 0 < a → a < p → a * inverse p a % p ≡ 1
  inverse_mul a = inverts a a (omega arith)

  pub inverse_positive : (a : ℕ) → 0 < a → a < p → 0 < inverse p a
  inverse_positive a h l = go (λ e. ap (λ x. a * x % p) e ∙ ap (λ x. x % p) (mul-zero a) ∙ zero-mod p) (inverse_mul a h l)
    where
      go : (inverse p a ≡ 0 → a * inverse p a % p ≡ 0) → a * inverse p a % p ≡ 1 → 0 < inverse p a
      go vanishes e =
          let nonzero : ¬ (inverse p a ≡ 0) = λ z. let q = vanishes z in omega arith in
          omega arith

  pub inverse_unique : (a b : ℕ) → 0 < a → a < p → b < p → a * b % p ≡ 1 → b ≡ inverse p a
  inverse_unique a b h l g e =
      sym (mod-eq_of_lt g)
      ∙ ap (λ x. x % p) (sym (one-mul b))
      ∙ ap (λ x. x * b % p) (sym (inverse_mul a h l))
      ∙ mod_mul_mod (a * inverse p a) b p
      ∙ ap (λ x. x % p) regroup
      ∙ sym (mul_mod_mod (inverse p a) (a * b) p)
      ∙ ap (λ x. inverse p a * x % p) e
      ∙ ap (λ x. x % p) (mul-one (inverse p a))
      ∙ mod-eq_of_lt (inverse_below p a prime.large)
    where
      regroup : a * inverse p a * b ≡ inverse p a * (a * b)
      regroup = ap (λ x. x * b) (mul_comm a (inverse p a)) ∙ mul_assoc (inverse p a) a b
