-- A ring with a size and a division that makes it smaller, as K[x]; and its monic elements, one for each element up to units.
use Rattle.std.specs.Prelude.{suc, ◌<◌, ◌≤◌, ◌-◌ as ◌-ₙ◌, ◌≡◌}
use Rattle.std.proofs.Common.{sym, ◌∙◌, ap, arith}
use Rattle.ring.specs.Ring.{Ring, zero_mul}
use Rattle.algebra.specs.Sized.{Sized, size_positive, positive_nonzero, one_nonzero, size_mul_nonzero, mul_nonzero}

module _ {A : Type 0} {R : Ring A} (S : Sized R) where
  open R use {add as ◌+◌, mul as ◌*◌, neg as -◌, zero as 𝟘, one as 𝟙}
  open S use {size, size_one}

  infixl 65 ◌+◌
  infixl 65 ◌-◌
  infixl 70 ◌*◌
  infix 75 -◌
  abbrev ◌-◌ : A → A → A
  a - b = a + (- b)

  -- the multiple of y that takes the leading coefficient of x away: a·x^k of mathematics.md
  pub record Cancelling (x y : A) : Type 0 where
    pub factor : A
    pub shift : size factor ≡ suc (size x -ₙ size y)
    pub smaller : size (x - factor * y) < size x

  pub record WithRemainder (x y : A) : Type 0 where
    pub quotient : A
    pub remainder : A
    pub equal : x ≡ quotient * y + remainder
    pub smaller : size remainder < size y

  -- the unit that makes x monic
  pub record Associate (Monic : A → Type 0) (x : A) : Type 0 where
    pub unit : A
    pub inverse : A
    pub unit_inverse : unit * inverse ≡ 𝟙
    pub monic : Monic (unit * x)

  pub record Euclidean : Type 1 where
    pub cancel : (x y : A) → 0 < size y → size y ≤ size x → Cancelling x y
    pub divide : (x y : A) → 0 < size y → WithRemainder x y
    pub Monic : A → Type 0
    pub monic_nonzero : (x : A) → Monic x → ¬ (x ≡ 𝟘)
    pub monic_mul : (x y : A) → Monic x → Monic y → Monic (x * y)
    pub associate : (x : A) → 0 < size x → Associate Monic x

  pub unit_nonzero : (x y : A) → x * y ≡ 𝟙 → ¬ (x ≡ 𝟘)
  unit_nonzero x y e z = one_nonzero S (sym e ∙ ap (λ a. a * y) z ∙ zero_mul R y)

  pub size_unit : (x y : A) → x * y ≡ 𝟙 → size x ≡ 1
  size_unit x y e = omega (
    arith,
    size_mul_nonzero S x y (unit_nonzero x y e) right,
    size_positive S x (unit_nonzero x y e),
    size_positive S y right,
    ap size e,
    size_one,
  )
    where
      right : ¬ (y ≡ 𝟘)
      right = unit_nonzero y x (R.mul_comm y x ∙ e)

  -- the monic associate is not zero either, and has the same size
  module _ {Monic : A → Type 0} {x : A} (m : Associate Monic x) (h : 0 < size x) where
    nonzero : ¬ (m.unit ≡ 𝟘)
    nonzero = unit_nonzero m.unit m.inverse m.unit_inverse

    pub associate_nonzero : ¬ (m.unit * x ≡ 𝟘)
    associate_nonzero = mul_nonzero S m.unit x nonzero (positive_nonzero S x h)

    pub associate_size : size (m.unit * x) ≡ size x
    associate_size = omega (
      arith,
      size_unit m.unit m.inverse m.unit_inverse,
      size_mul_nonzero S m.unit x nonzero (positive_nonzero S x h),
    )
