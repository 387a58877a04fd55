-- The definition of the inverse as the equations that the code's loop follows.
use mathlib.Core.Path.{◌≡◌, sym, ◌∙◌}
use Prim.Native.Nat.{ℕ, ◌-◌, ◌*◌, ◌/◌, ◌%◌, ◌≤◌, ◌<◌}
use native.Mathlib.Nat.{mul_assoc, mul-one, one-mul, le-div_iff_mul-le, mod-lt, mod-eq_of_lt}
use native.Mathlib.Omega.{arith}
use Rattle.modular.specs.Modulo.{inverse, modulo}
use Rattle.residue.specs.Below.{inverse_below}
use Rattle.modular.specs.Remainder.{mod_mul_mod, mul_mod_mod}
use Rattle.modular.specs.Inverse.{inverse_small, inverse_step}

-- what the loop keeps: the inverse of a is factor times the inverse of rest
pub record Descent (p a factor rest : ℕ) : Type 0 where
  pub factor_below : factor < p
  pub rest_below : rest < p
  pub same : factor * inverse p rest % p ≡ inverse p a

pub descent_start : (p a : ℕ) → 1 < p → a < p → Descent p a 1 a
unfolding modulo
descent_start p a hp ha = record {
  factor_below = hp;
  rest_below = ha;
  same = rw one-mul (mod-eq_of_lt (inverse_below p hp a));
}

-- what factor is multiplied by
pub cofactor_below : (p rest : ℕ) → 0 < rest → rest < p → p - p / rest < p
cofactor_below p rest some below = omega (arith, (le-div_iff_mul-le {k = rest} {x = 1} {y = p} some).1 (omega arith))

pub descent_turn : (p a factor rest next : ℕ) → 1 < rest → Descent p a factor rest →
    next ≡ factor * (p - p / rest) % p → Descent p a next (p % rest)
descent_turn p a factor rest next more d e = record {
  factor_below = let below = d.factor_below in rw e (mod-lt _ (omega arith));
  rest_below = let below = d.rest_below in omega (arith, mod-lt p {m = rest} (omega arith));
  same = rw (e, mod_mul_mod, mul_assoc, ← mul_mod_mod, ← inverse_step p rest more) d.same;
}

pub descent_end : (p a factor rest : ℕ) → rest ≤ 1 → Descent p a factor rest → factor ≡ inverse p a
descent_end p a factor rest few d =
    let last : factor % p ≡ inverse p a = rw (inverse_small p rest few, mul-one) at d.same in
    sym (mod-eq_of_lt d.factor_below) ∙ last
