-- A commutative ring: operations and laws.
use Rattle.std.specs.Prelude.{◌≡◌}
use Rattle.std.proofs.Common.{sym, ◌∙◌, ap, ap₂}

pub record Ring (A : Type 0) : Type 0 where
  pub add : A → A → A
  pub mul : A → A → A
  pub neg : A → A
  pub zero : A
  pub one : A
  pub add_comm : (a b : A) → add a b ≡ add b a
  pub add_assoc : (a b c : A) → add (add a b) c ≡ add a (add b c)
  pub add_zero : (a : A) → add a zero ≡ a
  pub add_neg : (a : A) → add a (neg a) ≡ zero
  pub mul_comm : (a b : A) → mul a b ≡ mul b a
  pub mul_assoc : (a b c : A) → mul (mul a b) c ≡ mul a (mul b c)
  pub mul_one : (a : A) → mul a one ≡ a
  pub mul_add : (a b c : A) → mul a (add b c) ≡ add (mul a b) (mul a c)

module _ {A : Type 0} (R : Ring A) where
  open R use {
    add as ◌+◌,
    mul as ◌*◌,
    neg as -◌,
    zero as 𝟘,
    one as 𝟙,
    add_comm,
    add_assoc,
    add_zero,
    add_neg,
    mul_comm,
    mul_assoc,
    mul_one,
    mul_add,
  }

  infixl 65 ◌+◌
  infixl 70 ◌*◌
  infix 75 -◌
  pub zero_add : (a : A) → 𝟘 + a ≡ a
  zero_add a = add_comm 𝟘 a ∙ add_zero a

  pub neg_add : (a : A) → (- a) + a ≡ 𝟘
  neg_add a = add_comm (- a) a ∙ add_neg a

  pub one_mul : (a : A) → 𝟙 * a ≡ a
  one_mul a = mul_comm 𝟙 a ∙ mul_one a

  pub add_mul : (a b c : A) → (a + b) * c ≡ a * c + b * c
  add_mul a b c = mul_comm (a + b) c ∙ mul_add c a b ∙ ap₂ ◌+◌ (mul_comm c a) (mul_comm c b)

  pub add_left_comm : (a b c : A) → a + (b + c) ≡ b + (a + c)
  add_left_comm a b c = sym (add_assoc a b c) ∙ ap (λ x. x + c) (add_comm a b) ∙ add_assoc b a c

  pub mul_left_comm : (a b c : A) → a * (b * c) ≡ b * (a * c)
  mul_left_comm a b c = sym (mul_assoc a b c) ∙ ap (λ x. x * c) (mul_comm a b) ∙ mul_assoc b a c

  pub add_add_add_comm : (a b c d : A) → (a + b) + (c + d) ≡ (a + c) + (b + d)
  add_add_add_comm a b c d = simp (add_assoc, add_left_comm)

  pub add_cancel : (a b c : A) → a + c ≡ b + c → a ≡ b
  add_cancel a b c h = sym (add_zero a) ∙ ap (λ x. a + x) (sym (add_neg c)) ∙ sym (add_assoc a c (- c)) ∙ ap (λ x. x + (- c)) h
      ∙ add_assoc b c (- c) ∙ ap (λ x. b + x) (add_neg c) ∙ add_zero b

  pub mul_zero : (a : A) → a * 𝟘 ≡ 𝟘
  mul_zero a = add_cancel (a * 𝟘) 𝟘 (a * 𝟘) (sym (mul_add a 𝟘 𝟘) ∙ ap (λ x. a * x) (add_zero 𝟘) ∙ sym (zero_add (a * 𝟘)))

  pub zero_mul : (a : A) → 𝟘 * a ≡ 𝟘
  zero_mul a = mul_comm 𝟘 a ∙ mul_zero a

  pub neg_unique : (a b : A) → a + b ≡ 𝟘 → b ≡ - a
  neg_unique a b h = add_cancel b (- a) a (add_comm b a ∙ h ∙ sym (neg_add a))

  pub neg_neg : (a : A) → - (- a) ≡ a
  neg_neg a = sym (neg_unique (- a) a (neg_add a))

  pub neg_zero : - 𝟘 ≡ 𝟘
  neg_zero = sym (neg_unique 𝟘 𝟘 (add_zero 𝟘))

  pub neg_add_distrib : (a b : A) → - (a + b) ≡ (- a) + (- b)
  neg_add_distrib a b = sym (neg_unique (a + b) ((- a) + (- b)) (add_add_add_comm a b (- a) (- b) ∙ ap₂ ◌+◌ (add_neg a) (add_neg b)
      ∙ add_zero 𝟘))

  pub mul_neg : (a b : A) → a * (- b) ≡ - (a * b)
  mul_neg a b = neg_unique (a * b) (a * (- b)) (sym (mul_add a b (- b)) ∙ ap (λ x. a * x) (add_neg b) ∙ mul_zero a)

  pub neg_mul : (a b : A) → (- a) * b ≡ - (a * b)
  neg_mul a b = mul_comm (- a) b ∙ mul_neg b a ∙ ap -◌ (mul_comm b a)
