-- The numbers below p with the arithmetic of `modulo p`: a commutative ring, and a field where p is prime.
use Rattle.std.proofs.Math.Path.{◌≡◌, sym, ap}
use Rattle.std.specs.Prelude.{refl, ℕ, suc, ◌+◌, ◌-◌, ◌*◌, ◌%◌, ◌<◌}
use Rattle.std.proofs.Common.{◌∙◌, mod-lt}
use mathlib.Core.HLevel.{is_prop→PathP}
use Rattle.std.proofs.Math.Dec.{eqb}
use borrow.Author.Tests.{eqb-true, eqb-false}
use Rattle.std.proofs.Math.Nat.{mod-eq_of_lt, mod_self, mod-add-mod, add-mod-mod, add-mod, add_comm, add_assoc, add-zero, mul_comm, mul_assoc, mul-one, mul-add}
use Rattle.std.proofs.Math.Bridge.{le_prop}
use native.Mathlib.Omega.{arith}
use Rattle.ring.specs.Ring.{Ring}
use Rattle.algebra.specs.Field.{Field, operations}
use Rattle.algebra.specs.Transfer.{Homomorphism}
use Rattle.modular.specs.Prime.{Prime}
use Rattle.modular.specs.Modulo.{modulo, inverse}
use Rattle.modular.specs.Inverse.{inverse_below, inverse_mul}
use Rattle.modular.specs.Remainder.{mod_mul_mod, mul_mod_mod}

pub record Residue (p : ℕ) : Type 0 where
  pub value : ℕ
  pub below : value < p

abbrev pub value : {p : ℕ} → Residue p → ℕ
value x = x.value

-- the number decides the residue
pub residue_ext : {p : ℕ} (x y : Residue p) → x.value ≡ y.value → x ≡ y
residue_ext {p} x y e = λ i. record {
  value = e i;
  below = is_prop→PathP (λ j. e j < p) (λ j. le_prop {n = suc (e j)} {m = p}) x.below y.below i;
}

module _ (p : ℕ) (large : 1 < p) where
  unfoldable pub reduce : ℕ → Residue p
  reduce a = record { value = a % p; below = mod-lt a (omega arith) }

  unfoldable pub residue_ring : Ring (Residue p)
  unfolding reduce
  residue_ring = record {
    add = λ x y. reduce (x.value + y.value);
    mul = λ x y. reduce (x.value * y.value);
    neg = λ x. reduce (p - x.value);
    zero = record { value = 0; below = omega arith };
    one = record { value = 1; below = large };
    add_comm = λ x y. ap reduce (add_comm x.value y.value);
    add_assoc = λ x y z. residue_ext _ _ (
        mod-add-mod (x.value + y.value) p z.value ∙ ap (λ a. a % p) (add_assoc x.value y.value z.value)
        ∙ sym (add-mod-mod x.value (y.value + z.value) p));
    add_zero = λ x. residue_ext _ _ (ap (λ a. a % p) (add-zero x.value) ∙ mod-eq_of_lt x.below);
    add_neg = λ x. residue_ext _ _ (add-mod-mod x.value (p - x.value) p ∙ ap (λ a. a % p) (whole x) ∙ mod_self p);
    mul_comm = λ x y. ap reduce (mul_comm x.value y.value);
    mul_assoc = λ x y z. residue_ext _ _ (
        mod_mul_mod (x.value * y.value) z.value p ∙ ap (λ a. a % p) (mul_assoc x.value y.value z.value)
        ∙ sym (mul_mod_mod x.value (y.value * z.value) p));
    mul_one = λ x. residue_ext _ _ (ap (λ a. a % p) (mul-one x.value) ∙ mod-eq_of_lt x.below);
    mul_add = λ x y z. residue_ext _ _ (
        mul_mod_mod x.value (y.value + z.value) p
        ∙ ap (λ a. a % p) (mul-add x.value y.value z.value)
        ∙ add-mod (x.value * y.value) (x.value * z.value) p);
  }
    where
      whole : (x : Residue p) → x.value + (p - x.value) ≡ p
      whole x = let below = x.below in omega arith

  pub residue_positive : (x : Residue p) → ¬ (x ≡ residue_ring.zero) → 0 < x.value
  unfolding residue_ring
  residue_positive x h = let z : ¬ (x.value ≡ 0) = λ e. h (residue_ext x _ e) in omega arith

module _ (p : ℕ) (prime : Prime p) where
  unfoldable pub residues : Field (Residue p)
  unfolding residue_ring
  residues = record {
    ring = residue_ring p prime.large;
    inverse = λ x. record { value = inverse p x.value; below = inverse_below p x.value prime.large };
    zero? = λ x. eqb x.value 0;
    zero?_true = λ x e. residue_ext _ _ (eqb-true x.value 0 e);
    zero?_false = λ x e q. eqb-false x.value 0 e (ap value q);
    mul_inverse = λ x h. residue_ext _ _ (inverse_mul p prime x.value (residue_positive p prime.large x h) x.below);
    one_nonzero = λ e. let z : ◌≡◌ {A = ℕ} 1 0 = ap value e in omega arith;
  }

  -- the operations on residues are those of `modulo p` on their numbers
  pub value_homomorphism : Homomorphism (operations residues) (modulo p) value
  unfolding residues modulo
  value_homomorphism = record {
    add = λ x y. refl;
    mul = λ x y. refl;
    neg = λ x. refl;
    zero = refl;
    one = refl;
    inverse = λ x. refl;
    zero? = λ x. refl;
  }
