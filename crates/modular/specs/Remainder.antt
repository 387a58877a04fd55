-- Remainders of products: a factor may be reduced before or after.
use Rattle.std.specs.Prelude.{◌≡◌, ℕ, ◌+◌, ◌*◌, ◌/◌, ◌%◌}
use Rattle.std.proofs.Common.{sym, ◌∙◌, ap, add-mul, mul_assoc, mul_comm}
use Rattle.std.proofs.Math.Nat.{mod-add-div, add-mul-mod_self_left}

pub mod_mul_mod : (a b p : ℕ) → a % p * b % p ≡ a * b % p
mod_mul_mod a b p = sym (add-mul-mod_self_left (a % p * b) p (a / p * b)) ∙ ap (λ x. x % p) (sym whole)
  where
    whole : a * b ≡ a % p * b + p * (a / p * b)
    whole =
        ap (λ x. x * b) (sym (mod-add-div a p))
        ∙ add-mul (a % p) (p * (a / p)) b
        ∙ ap (λ x. a % p * b + x) (mul_assoc p (a / p) b)

pub mul_mod_mod : (a b p : ℕ) → a * (b % p) % p ≡ a * b % p
mul_mod_mod a b p = ap (λ x. x % p) (mul_comm a (b % p)) ∙ mod_mul_mod b a p ∙ ap (λ x. x % p) (mul_comm b a)
