-- A multiple of p taken off leaves the remainder.
use mathlib.Core.Path.{◌≡◌, sym, ap, ◌∙◌}
use Prim.Native.Nat.{ℕ, ◌-◌, ◌*◌, ◌%◌, ◌≤◌}
use native.Mathlib.Nat.{mul-add-mod_self_right}
use native.Mathlib.Omega.{arith}

pub sub_mul_mod : (x q p : ℕ) → q * p ≤ x → (x - q * p) % p ≡ x % p
sub_mul_mod x q p h = sym (mul-add-mod_self_right q p (x - q * p)) ∙ ap (λ (k : ℕ). k % p) (omega arith)
