-- Power series over a commutative ring, as functions of the exponent: a commutative ring. Polynomials inherit its laws.
use Prim.Native.Nat.{ℕ, zero, suc, ◌<◌, ◌-◌}
use Rattle.std.specs.Prelude.{◌+◌ as ◌+ₙ◌, ◌≡◌, refl, [], ◌∷◌}
use Rattle.std.proofs.Math.Path.{sym, ap, ap₂, fun_ext}
use Rattle.std.proofs.Common.{◌∙◌}
use native.Mathlib.Omega.{arith}
use Rattle.ring.specs.Ring.{Ring, zero_add, mul_zero, zero_mul, add_mul}
use Rattle.ring.specs.Sum.{sum, sum_ext}
use Rattle.ring.specs.Identity.{quotes, identity}

module _ {A : Type 0} (R : Ring A) where
  open R use {add as ◌+◌, mul as ◌*◌, neg as -◌, zero as 𝟘, one as 𝟙}
  open R use {add_comm, add_assoc, add_zero, add_neg, mul_comm, mul_assoc, mul_one}

  infixl 65 ◌+◌
  infixl 70 ◌*◌
  infix 75 -◌
  -- f without its constant term, divided by x
  abbrev pub tail : (ℕ → A) → ℕ → A
  tail f n = f (suc n)

  -- the coefficients of a product: f 0 · g n + .. + f n · g 0
  abbrev pub convolution : (ℕ → A) → (ℕ → A) → ℕ → A
  convolution f g zero = f 0 * g 0
  convolution f g (suc n) = f 0 * g (suc n) + convolution (tail f) g n

  abbrev pub unit : ℕ → A
  unit zero = 𝟙
  unit (suc n) = 𝟘

  pub convolution_add : (f g h : ℕ → A) (n : ℕ) → convolution (λ i. f i + g i) h n ≡ convolution f h n + convolution g h n
  convolution_add f g h zero = add_mul R (f 0) (g 0) (h 0)
  convolution_add f g h (suc n) =
      ap (λ x. (f 0 + g 0) * h (suc n) + x) (convolution_add (tail f) (tail g) h n)
      ∙ regroup (f 0) (g 0) (h (suc n)) (convolution (tail f) h n) (convolution (tail g) h n)
    where
      regroup : (a b c x y : A) → (a + b) * c + (x + y) ≡ (a * c + x) + (b * c + y)
      regroup a b c x y = identity R (a ∷ b ∷ c ∷ x ∷ y ∷ []) (λ ρ qa qb qc qx qy. search quotes depth 16) refl

  pub convolution_mul : (c : A) (f g : ℕ → A) (n : ℕ) → convolution (λ i. c * f i) g n ≡ c * convolution f g n
  convolution_mul c f g zero = mul_assoc c (f 0) (g 0)
  convolution_mul c f g (suc n) =
      ap (λ x. c * f 0 * g (suc n) + x) (convolution_mul c (tail f) g n)
      ∙ regroup c (f 0) (g (suc n)) (convolution (tail f) g n)
    where
      regroup : (c a b x : A) → c * a * b + c * x ≡ c * (a * b + x)
      regroup c a b x = identity R (c ∷ a ∷ b ∷ x ∷ []) (λ ρ qc qa qb qx. search quotes depth 16) refl

  -- the recursion from the other end
  pub convolution_last : (f g : ℕ → A) (n : ℕ) → convolution f g (suc n) ≡ convolution f (tail g) n + f (suc n) * g 0
  convolution_last f g zero = refl
  convolution_last f g (suc n) =
      ap (λ x. f 0 * g (suc (suc n)) + x) (convolution_last (tail f) g n)
      ∙ sym (add_assoc (f 0 * g (suc (suc n))) (convolution (tail f) (tail g) n) (f (suc (suc n)) * g 0))

  pub convolution_comm : (f g : ℕ → A) (n : ℕ) → convolution f g n ≡ convolution g f n
  convolution_comm f g zero = mul_comm (f 0) (g 0)
  convolution_comm f g (suc n) =
      ap₂ ◌+◌ (mul_comm (f 0) (g (suc n))) (convolution_comm (tail f) g n)
      ∙ add_comm (g (suc n) * f 0) (convolution g (tail f) n)
      ∙ sym (convolution_last g f n)

  pub convolution_assoc : (f g h : ℕ → A) (n : ℕ) → convolution (convolution f g) h n ≡ convolution f (convolution g h) n
  convolution_assoc f g h zero = mul_assoc (f 0) (g 0) (h 0)
  convolution_assoc f g h (suc n) =
      ap (λ x. f 0 * g 0 * h (suc n) + x) (convolution_add (λ i. f 0 * g (suc i)) (convolution (tail f) g) h n)
      ∙ ap₂ (λ x y. f 0 * g 0 * h (suc n) + (x + y)) (convolution_mul (f 0) (tail g) h n) (convolution_assoc (tail f) g h n)
      ∙ regroup (f 0) (g 0) (h (suc n)) (convolution (tail g) h n) (convolution (tail f) (convolution g h) n)
    where
      regroup : (a b c x y : A) → a * b * c + (a * x + y) ≡ a * (b * c + x) + y
      regroup a b c x y = identity R (a ∷ b ∷ c ∷ x ∷ y ∷ []) (λ ρ qa qb qc qx qy. search quotes depth 16) refl

  pub convolution_zero : (f : ℕ → A) (n : ℕ) → convolution f (λ _. 𝟘) n ≡ 𝟘
  convolution_zero f zero = mul_zero R (f 0)
  convolution_zero f (suc n) = ap₂ ◌+◌ (mul_zero R (f 0)) (convolution_zero (tail f) n) ∙ add_zero 𝟘

  pub zero_convolution : (g : ℕ → A) (n : ℕ) → convolution (λ _. 𝟘) g n ≡ 𝟘
  zero_convolution g n = convolution_comm (λ _. 𝟘) g n ∙ convolution_zero g n

  pub convolution_unit : (f : ℕ → A) (n : ℕ) → convolution f unit n ≡ f n
  convolution_unit f zero = mul_one (f 0)
  convolution_unit f (suc n) =
      convolution_last f unit n ∙ ap₂ ◌+◌ (convolution_zero f n) (mul_one (f (suc n))) ∙ zero_add R (f (suc n))

  pub unit_convolution : (g : ℕ → A) (n : ℕ) → convolution unit g n ≡ g n
  unit_convolution g n = convolution_comm unit g n ∙ convolution_unit g n

  -- a constant times g
  pub constant_convolution : (f g : ℕ → A) → ((i : ℕ) → f (suc i) ≡ 𝟘) → (n : ℕ) → convolution f g n ≡ f 0 * g n
  constant_convolution f g e zero = refl
  constant_convolution f g e (suc n) =
      ap (λ t. f 0 * g (suc n) + convolution t g n) (fun_ext e)
      ∙ ap (λ x. f 0 * g (suc n) + x) (zero_convolution g n)
      ∙ add_zero (f 0 * g (suc n))

  -- a multiple of x times g
  pub tail_convolution : (f g : ℕ → A) → f 0 ≡ 𝟘 → (n : ℕ) → convolution f g (suc n) ≡ convolution (tail f) g n
  tail_convolution f g e n =
      ap (λ a. a * g (suc n) + convolution (tail f) g n) e
      ∙ ap (λ x. x + convolution (tail f) g n) (zero_mul R (g (suc n)))
      ∙ zero_add R (convolution (tail f) g n)

  -- f of degree at most i and g of degree at most j: the product's coefficients at i + j and beyond
  module _ (g : ℕ → A) (j : ℕ) (above_j : (k : ℕ) → j < k → g k ≡ 𝟘) where
    pub convolution_top : (f : ℕ → A) (i : ℕ) → ((k : ℕ) → i < k → f k ≡ 𝟘) → convolution f g (i +ₙ j) ≡ f i * g j
    convolution_top f zero above_i =
        let e : 0 +ₙ j ≡ j = omega arith in
        ap (convolution f g) e ∙ constant_convolution f g (λ k. above_i (suc k) (omega arith)) j
    convolution_top f (suc i) above_i =
        let e : suc i +ₙ j ≡ suc (i +ₙ j) = omega arith in
        let rest = convolution_top (tail f) i (λ k h. above_i (suc k) (omega arith)) in
        ap (convolution f g) e
        ∙ ap₂ (λ x y. f 0 * x + y) (above_j (suc (i +ₙ j)) (omega arith)) rest
        ∙ ap (λ x. x + f (suc i) * g j) (mul_zero R (f 0))
        ∙ zero_add R (f (suc i) * g j)

    pub convolution_beyond : (f : ℕ → A) (i : ℕ) → ((k : ℕ) → i < k → f k ≡ 𝟘) → (n : ℕ) → i +ₙ j < n → convolution f g n ≡ 𝟘
    convolution_beyond f zero above_i n h =
        constant_convolution f g (λ k. above_i (suc k) (omega arith)) n
        ∙ ap (λ x. f 0 * x) (above_j n (omega arith))
        ∙ mul_zero R (f 0)
    convolution_beyond f (suc i) above_i zero h = absurd (omega arith)
    convolution_beyond f (suc i) above_i (suc n) h =
        let rest = convolution_beyond (tail f) i (λ k l. above_i (suc k) (omega arith)) n (omega arith) in
        ap₂ (λ x y. f 0 * x + y) (above_j (suc n) (omega arith)) rest
        ∙ ap (λ x. x + 𝟘) (mul_zero R (f 0))
        ∙ add_zero 𝟘

  -- the convolution as a sum
  pub convolution_sum : (f g : ℕ → A) (n : ℕ) → convolution f g n ≡ sum R (suc n) (λ i. f i * g (n - i))
  unfolding sum
  convolution_sum f g zero = sym (zero_add R (f 0 * g 0))
  convolution_sum f g (suc n) =
      convolution_last f g n
      ∙ ap₂ (λ x k. x + f (suc n) * g k) (convolution_sum f (tail g) n) (omega arith)
      ∙ ap (λ x. x + f (suc n) * g (suc n - suc n)) (sum_ext R (suc n) (λ i. f i * tail g (n - i)) (λ i. f i * g (suc n - i)) same)
    where
      same : (i : ℕ) → i < suc n → f i * g (suc (n - i)) ≡ f i * g (suc n - i)
      same i h = let e : suc (n - i) ≡ suc n - i = omega arith in ap (λ k. f i * g k) e

  abbrev pub series : Ring (ℕ → A)
  series = record {
    add = λ f g n. f n + g n;
    mul = convolution;
    neg = λ f n. - f n;
    zero = λ n. 𝟘;
    one = unit;
    add_comm = λ f g. fun_ext (λ n. add_comm (f n) (g n));
    add_assoc = λ f g h. fun_ext (λ n. add_assoc (f n) (g n) (h n));
    add_zero = λ f. fun_ext (λ n. add_zero (f n));
    add_neg = λ f. fun_ext (λ n. add_neg (f n));
    mul_comm = λ f g. fun_ext (convolution_comm f g);
    mul_assoc = λ f g h. fun_ext (convolution_assoc f g h);
    mul_one = λ f. fun_ext (convolution_unit f);
    mul_add = λ f g h. fun_ext (λ n.
        convolution_comm f (λ i. g i + h i) n
        ∙ convolution_add g h f n
        ∙ ap₂ ◌+◌ (convolution_comm g f n) (convolution_comm h f n));
  }
