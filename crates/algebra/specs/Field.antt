-- A field: a commutative ring with a test for zero and inverses of everything else.
use Rattle.std.specs.Prelude.{◌≡◌, refl, [], ◌∷◌, Bool, true, false}
use Rattle.std.proofs.Common.{sym, ◌∙◌, ap}
use Rattle.ring.specs.Ring.{Ring, mul_zero, one_mul}
use Rattle.ring.specs.Identity.{quotes, identity}
use Rattle.ring.specs.Combination.{given, combination}
use Rattle.algebra.specs.Operations.{Operations}

pub record Field (A : Type 0) : Type 0 where
  pub ring : Ring A
  pub inverse : A → A
  pub zero? : A → Bool
  pub zero?_true : (a : A) → zero? a ≡ true → a ≡ ring.zero
  pub zero?_false : (a : A) → zero? a ≡ false → ¬ (a ≡ ring.zero)
  pub mul_inverse : (a : A) → ¬ (a ≡ ring.zero) → ring.mul a (inverse a) ≡ ring.one
  pub one_nonzero : ¬ (ring.one ≡ ring.zero)

-- what the executable definitions compute with
abbrev pub operations : {A : Type 0} → Field A → Operations A
operations F = record {
  add = F.ring.add;
  mul = F.ring.mul;
  neg = F.ring.neg;
  zero = F.ring.zero;
  one = F.ring.one;
  inverse = F.inverse;
  zero? = F.zero?;
}

module _ {A : Type 0} (F : Field A) where
  open F use {ring as K, inverse, zero?, zero?_true, zero?_false, mul_inverse, one_nonzero}
  open K use {add as ◌+◌, mul as ◌*◌, neg as -◌, zero as 𝟘, one as 𝟙}

  infixl 65 ◌+◌
  infixl 70 ◌*◌
  infix 75 -◌
  pub zero_decided : (a : A) → Dec (a ≡ 𝟘)
  zero_decided a = go (zero? a) refl
    where
      go : (b : Bool) → zero? a ≡ b → Dec (a ≡ 𝟘)
      go true e = yes (zero?_true a e)
      go false e = no (zero?_false a e)

  pub zero?_zero : zero? 𝟘 ≡ true
  zero?_zero = go (zero? 𝟘) refl
    where
      go : (b : Bool) → zero? 𝟘 ≡ b → zero? 𝟘 ≡ true
      go true e = e
      go false e = absurd (zero?_false 𝟘 e refl)

  pub zero?_nonzero : (a : A) → ¬ (a ≡ 𝟘) → zero? a ≡ false
  zero?_nonzero a h = go (zero? a) refl
    where
      go : (b : Bool) → zero? a ≡ b → zero? a ≡ false
      go true e = absurd (h (zero?_true a e))
      go false e = e

  pub equality_decided : (a b : A) → Dec (a ≡ b)
  equality_decided a b = go (zero_decided (a + (- b)))
    where
      go : Dec (a + (- b) ≡ 𝟘) → Dec (a ≡ b)
      go (yes e) = yes (combination K a b (given 𝟙 e ∷ []) (identity K (a ∷ b ∷ []) (λ ρ qa qb. search quotes depth 16) refl))
      go (no h) = no (λ e. h (ap (λ x. x + (- b)) e ∙ K.add_neg b))

  pub inverse_mul : (a : A) → ¬ (a ≡ 𝟘) → inverse a * a ≡ 𝟙
  inverse_mul a h = K.mul_comm (inverse a) a ∙ mul_inverse a h

  pub inverse_one : inverse 𝟙 ≡ 𝟙
  inverse_one = sym (one_mul K (inverse 𝟙)) ∙ mul_inverse 𝟙 one_nonzero

  -- a factor that is not zero is cancelled
  pub cancel_mul : (a b : A) → ¬ (a ≡ 𝟘) → a * b ≡ 𝟘 → b ≡ 𝟘
  cancel_mul a b h e = combination K b 𝟘 (given (inverse a) e ∷ given (- b) (mul_inverse a h) ∷ [])
      (identity K (a ∷ b ∷ inverse a ∷ []) (λ ρ qa qb qi. search quotes depth 16) refl)

  pub mul_nonzero : (a b : A) → ¬ (a ≡ 𝟘) → ¬ (b ≡ 𝟘) → ¬ (a * b ≡ 𝟘)
  mul_nonzero a b ha hb e = hb (cancel_mul a b ha e)

  pub inverse_nonzero : (a : A) → ¬ (a ≡ 𝟘) → ¬ (inverse a ≡ 𝟘)
  inverse_nonzero a h e = one_nonzero (sym (mul_inverse a h) ∙ ap (λ x. a * x) e ∙ mul_zero K a)
