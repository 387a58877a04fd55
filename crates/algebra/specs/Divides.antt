-- Divisibility in a commutative ring, and in one with a size.
use Prim.Native.Nat.{ℕ, zero, suc, ◌<◌, ◌≤◌}
use Rattle.std.specs.Prelude.{◌≡◌, refl, [], ◌∷◌}
use Rattle.std.proofs.Common.{sym, ◌∙◌, ap, ap₂, arith}
use Rattle.ring.specs.Ring.{Ring, mul_zero, one_mul}
use Rattle.ring.specs.Sum.{sum}
use Rattle.ring.specs.Identity.{quotes, identity}
use Rattle.algebra.specs.Sized.{Sized, size_positive, size_mul_nonzero, mul_nonzero_left, mul_nonzero_right, mul_cancel}

-- d divides x
pub record Divides {A : Type 0} (R : Ring A) (d x : A) : Type 0 where
  pub cofactor : A
  pub product : x ≡ R.mul cofactor d

module _ {A : Type 0} {R : Ring A} where
  open R use {add as ◌+◌, mul as ◌*◌, neg as -◌, zero as 𝟘, one as 𝟙}

  infixl 65 ◌+◌
  infixl 70 ◌*◌
  infix 75 -◌
  pub divides_refl : (d : A) → Divides R d d
  divides_refl d = record { cofactor = 𝟙; product = sym (one_mul R d) }

  pub divides_equal : {d x y : A} → x ≡ y → Divides R d x → Divides R d y
  divides_equal e h = record { cofactor = h.cofactor; product = sym e ∙ h.product }

  pub divides_trans : {d x y : A} → Divides R d x → Divides R x y → Divides R d y
  divides_trans {d} {x} {y} h k = record {
    cofactor = k.cofactor * h.cofactor;
    product = k.product ∙ ap (λ z. k.cofactor * z) h.product ∙ sym (R.mul_assoc k.cofactor h.cofactor d);
  }

  pub divides_zero : (d : A) → Divides R d 𝟘
  divides_zero d = record { cofactor = 𝟘; product = identity R (d ∷ []) (λ ρ qd. search quotes depth 16) refl }

  pub zero_divides : {x : A} → Divides R 𝟘 x → x ≡ 𝟘
  zero_divides h = h.product ∙ mul_zero R h.cofactor

  pub one_divides : (x : A) → Divides R 𝟙 x
  one_divides x = record { cofactor = x; product = sym (R.mul_one x) }

  pub divides_product : (c d : A) → Divides R d (c * d)
  divides_product c d = record { cofactor = c; product = refl }

  -- a multiple of x, and multiples of x and y
  pub divides_mul : {d x : A} (c : A) → Divides R d x → Divides R d (c * x)
  divides_mul {d} {x} c h = divides_trans h (divides_product c x)

  pub divides_add : {d x y : A} → Divides R d x → Divides R d y → Divides R d (x + y)
  divides_add {d} h k = record {
    cofactor = h.cofactor + k.cofactor;
    product = ap₂ ◌+◌ h.product k.product
        ∙ identity R (d ∷ h.cofactor ∷ k.cofactor ∷ []) (λ ρ qd qh qk. search quotes depth 16) refl;
  }

  pub divides_neg : {d x : A} → Divides R d x → Divides R d (- x)
  divides_neg {d} h = record {
    cofactor = - h.cofactor;
    product = ap -◌ h.product ∙ identity R (d ∷ h.cofactor ∷ []) (λ ρ qd qh. search quotes depth 16) refl;
  }

  pub divides_combination : {d x y : A} (a b : A) → Divides R d x → Divides R d y → Divides R d (a * x + b * y)
  divides_combination a b h k = divides_add (divides_mul a h) (divides_mul b k)

  pub divides_sum : {d : A} (n : ℕ) (f : ℕ → A) → ((i : ℕ) → i < n → Divides R d (f i)) → Divides R d (sum R n f)
  unfolding sum
  divides_sum {d} zero f h = divides_zero d
  divides_sum (suc n) f h = divides_add (divides_sum n f (λ i l. h i (omega arith))) (h n (omega arith))

  -- products
  pub divides_products : {d e x y : A} → Divides R d x → Divides R e y → Divides R (d * e) (x * y)
  divides_products {d} {e} h k = record {
    cofactor = h.cofactor * k.cofactor;
    product = ap₂ ◌*◌ h.product k.product
        ∙ identity R (d ∷ e ∷ h.cofactor ∷ k.cofactor ∷ []) (λ ρ qd qe qh qk. search quotes depth 16) refl;
  }

  pub mul_divides_mul : {d x : A} (c : A) → Divides R d x → Divides R (c * d) (c * x)
  mul_divides_mul {d} c h = record {
    cofactor = h.cofactor;
    product = ap (λ z. c * z) h.product ∙ identity R (c ∷ d ∷ h.cofactor ∷ []) (λ ρ qc qd qh. search quotes depth 16) refl;
  }

module _ {A : Type 0} {R : Ring A} (S : Sized R) where
  open R use {mul as ◌*◌, zero as 𝟘}
  open S use {size}

  infixl 70 ◌*◌
  pub divides_size : {d x : A} → Divides R d x → ¬ (x ≡ 𝟘) → size d ≤ size x
  divides_size {d} {x} h n =
      omega (
        arith,
        ap size h.product,
        size_positive S h.cofactor left,
        size_mul_nonzero S h.cofactor d left (mul_nonzero_right S h.cofactor d nonzero),
      )
    where
      nonzero : ¬ (h.cofactor * d ≡ 𝟘)
      nonzero e = n (h.product ∙ e)

      left : ¬ (h.cofactor ≡ 𝟘)
      left = mul_nonzero_left S h.cofactor d nonzero

  pub mul_divides_cancel : (c d x : A) → ¬ (c ≡ 𝟘) → Divides R (c * d) (c * x) → Divides R d x
  mul_divides_cancel c d x n h = record {
    cofactor = h.cofactor;
    product = mul_cancel S c x (h.cofactor * d) n
        (h.product ∙ identity R (c ∷ d ∷ h.cofactor ∷ []) (λ ρ qc qd qh. search quotes depth 16) refl);
  }
