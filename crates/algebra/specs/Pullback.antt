-- The laws of a commutative ring pulled back along an injection that respects the operations.
use Rattle.std.specs.Prelude.{◌≡◌}
use Rattle.std.proofs.Common.{sym, ◌∙◌, ap, ap₂}
use Rattle.ring.specs.Ring.{Ring}

-- operations on A that f carries injectively to those of a ring
pub record Embedding {A B : Type 0} (S : Ring B) (f : A → B) : Type 0 where
  pub add : A → A → A
  pub mul : A → A → A
  pub neg : A → A
  pub zero : A
  pub one : A
  pub injective : (x y : A) → f x ≡ f y → x ≡ y
  pub on_add : (x y : A) → f (add x y) ≡ S.add (f x) (f y)
  pub on_mul : (x y : A) → f (mul x y) ≡ S.mul (f x) (f y)
  pub on_neg : (x : A) → f (neg x) ≡ S.neg (f x)
  pub on_zero : f zero ≡ S.zero
  pub on_one : f one ≡ S.one

module _ {A B : Type 0} {S : Ring B} {f : A → B} (e : Embedding S f) where
  open S use {add as ◌⊕◌, mul as ◌⊗◌}
  open e use {add as ◌+◌, mul as ◌*◌, neg as -◌, zero as 𝟘, one as 𝟙}
  open e use {injective, on_add, on_mul, on_neg, on_zero, on_one}

  infixl 65 ◌+◌
  infixl 65 ◌⊕◌
  infixl 70 ◌*◌
  infixl 70 ◌⊗◌
  infix 75 -◌
  pub pullback_add_assoc : (a b c : A) → (a + b) + c ≡ a + (b + c)
  pullback_add_assoc a b c = injective _ _
      (on_add (a + b) c
      ∙ ap (λ x. x ⊕ f c) (on_add a b)
      ∙ S.add_assoc (f a) (f b) (f c)
      ∙ sym (on_add a (b + c) ∙ ap (λ x. f a ⊕ x) (on_add b c)))

  pub pullback_mul_assoc : (a b c : A) → (a * b) * c ≡ a * (b * c)
  pullback_mul_assoc a b c = injective _ _
      (on_mul (a * b) c
      ∙ ap (λ x. x ⊗ f c) (on_mul a b)
      ∙ S.mul_assoc (f a) (f b) (f c)
      ∙ sym (on_mul a (b * c) ∙ ap (λ x. f a ⊗ x) (on_mul b c)))

  pub pullback_mul_add : (a b c : A) → a * (b + c) ≡ a * b + a * c
  pullback_mul_add a b c = injective _ _
      (on_mul a (b + c)
      ∙ ap (λ x. f a ⊗ x) (on_add b c)
      ∙ S.mul_add (f a) (f b) (f c)
      ∙ sym (on_add (a * b) (a * c) ∙ ap₂ ◌⊕◌ (on_mul a b) (on_mul a c)))

  abbrev pub pullback : Ring A
  pullback = record {
    add = e.add;
    mul = e.mul;
    neg = e.neg;
    zero = e.zero;
    one = e.one;
    add_comm = λ a b. injective _ _ (on_add a b ∙ S.add_comm (f a) (f b) ∙ sym (on_add b a));
    add_assoc = pullback_add_assoc;
    add_zero = λ a. injective _ _ (on_add a 𝟘 ∙ ap (λ x. f a ⊕ x) on_zero ∙ S.add_zero (f a));
    add_neg = λ a. injective _ _ (on_add a (- a) ∙ ap (λ x. f a ⊕ x) (on_neg a) ∙ S.add_neg (f a) ∙ sym on_zero);
    mul_comm = λ a b. injective _ _ (on_mul a b ∙ S.mul_comm (f a) (f b) ∙ sym (on_mul b a));
    mul_assoc = pullback_mul_assoc;
    mul_one = λ a. injective _ _ (on_mul a 𝟙 ∙ ap (λ x. f a ⊗ x) on_one ∙ S.mul_one (f a));
    mul_add = pullback_mul_add;
  }
