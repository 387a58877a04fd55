-- A commutative ring with a size, as K[x] with the number of coefficients: zero's is 0, one's is 1, and a product's is one less
-- than the sum. Sizes rather than degrees, so that zero is no exception.
use Prim.Native.Nat.{ℕ, zero, suc, ◌<◌, ◌≤◌, ◌-◌}
use Rattle.std.specs.Prelude.{◌+◌ as ◌+ₙ◌, ◌≡◌, refl, [], ◌∷◌}
use Rattle.std.proofs.Common.{◌∙◌, ap, arith}
use Rattle.std.proofs.Math.Decide.{ℕ_discrete, dec_lt}
use Rattle.ring.specs.Ring.{Ring, mul_zero, zero_mul}
use Rattle.ring.specs.Sum.{sum}
use Rattle.ring.specs.Identity.{quotes, identity}
use Rattle.ring.specs.Combination.{given, combination}

-- no zero divisors
abbrev pub Cancels : {A : Type 0} → Ring A → Type 0
Cancels {A} R = (x y : A) → ¬ (x ≡ R.zero) → R.mul x y ≡ R.zero → y ≡ R.zero

module _ {A : Type 0} (R : Ring A) (cancels : Cancels R) where
  open R use {add as ◌+◌, mul as ◌*◌, neg as -◌, zero as 𝟘, one as 𝟙}

  infixl 65 ◌+◌
  infixl 70 ◌*◌
  infix 75 -◌
  pub cancels_equal : (x y z : A) → ¬ (x ≡ 𝟘) → x * y ≡ x * z → y ≡ z
  cancels_equal x y z h e = combination R y z (given 𝟙 difference ∷ [])
      (identity R (y ∷ z ∷ []) (λ ρ qy qz. search quotes depth 16) refl)
    where
      difference : y + (- z) ≡ 𝟘
      difference = cancels x (y + (- z)) h
          (combination R (x * (y + (- z))) 𝟘 (given 𝟙 e ∷ [])
          (identity R (x ∷ y ∷ z ∷ []) (λ ρ qx qy qz. search quotes depth 16) refl))

pub record Sized {A : Type 0} (R : Ring A) : Type 0 where
  pub size : A → ℕ
  pub size_zero : size R.zero ≡ 0
  pub size_none : (x : A) → size x ≡ 0 → x ≡ R.zero
  pub size_one : size R.one ≡ 1
  pub size_mul : (x y : A) → 0 < size x → 0 < size y → suc (size (R.mul x y)) ≡ size x +ₙ size y
  pub size_add : (k : ℕ) (x y : A) → size x ≤ k → size y ≤ k → size (R.add x y) ≤ k
  pub size_neg : (k : ℕ) (x : A) → size x ≤ k → size (R.neg x) ≤ k

module _ {A : Type 0} {R : Ring A} (S : Sized R) where
  open R use {add as ◌+◌, mul as ◌*◌, neg as -◌, zero as 𝟘, one as 𝟙}
  open S use {size, size_zero, size_none, size_one, size_mul, size_add, size_neg}

  infixl 65 ◌+◌
  infixl 70 ◌*◌
  infix 75 -◌
  -- zero, by its size
  pub size_of_zero : (x : A) → x ≡ 𝟘 → size x ≡ 0
  size_of_zero x e = ap size e ∙ size_zero

  pub zero_decided : (x : A) → Dec (x ≡ 𝟘)
  zero_decided x = go (ℕ_discrete (size x) 0)
    where
      go : Dec (size x ≡ 0) → Dec (x ≡ 𝟘)
      go (yes e) = yes (size_none x e)
      go (no h) = no (λ e. h (size_of_zero x e))

  pub equality_decided : (x y : A) → Dec (x ≡ y)
  equality_decided x y = go (zero_decided (x + (- y)))
    where
      go : Dec (x + (- y) ≡ 𝟘) → Dec (x ≡ y)
      go (yes e) = yes (combination R x y (given 𝟙 e ∷ []) (identity R (x ∷ y ∷ []) (λ ρ qx qy. search quotes depth 16) refl))
      go (no h) = no (λ e. h (ap (λ z. z + (- y)) e ∙ R.add_neg y))

  pub size_positive : (x : A) → ¬ (x ≡ 𝟘) → 0 < size x
  size_positive x h = go (λ e. h (size_none x e))
    where
      go : ¬ (size x ≡ 0) → 0 < size x
      go k = omega arith

  pub positive_nonzero : (x : A) → 0 < size x → ¬ (x ≡ 𝟘)
  positive_nonzero x h e = omega (arith, size_of_zero x e)

  pub one_nonzero : ¬ (𝟙 ≡ 𝟘)
  one_nonzero = positive_nonzero 𝟙 (omega (arith, size_one))

  -- products
  pub size_mul_nonzero : (x y : A) → ¬ (x ≡ 𝟘) → ¬ (y ≡ 𝟘) → suc (size (x * y)) ≡ size x +ₙ size y
  size_mul_nonzero x y hx hy = size_mul x y (size_positive x hx) (size_positive y hy)

  pub mul_nonzero : (x y : A) → ¬ (x ≡ 𝟘) → ¬ (y ≡ 𝟘) → ¬ (x * y ≡ 𝟘)
  mul_nonzero x y hx hy = positive_nonzero (x * y)
      (omega (arith, size_mul_nonzero x y hx hy, size_positive x hx, size_positive y hy))

  pub cancel_mul : (x y : A) → ¬ (x ≡ 𝟘) → x * y ≡ 𝟘 → y ≡ 𝟘
  cancel_mul x y h e = go (zero_decided y)
    where
      go : Dec (y ≡ 𝟘) → y ≡ 𝟘
      go (yes q) = q
      go (no k) = absurd (mul_nonzero x y h k e)

  pub mul_cancel : (x y z : A) → ¬ (x ≡ 𝟘) → x * y ≡ x * z → y ≡ z
  mul_cancel = cancels_equal R cancel_mul

  -- the factors of a product that is not zero
  pub mul_nonzero_left : (x y : A) → ¬ (x * y ≡ 𝟘) → ¬ (x ≡ 𝟘)
  mul_nonzero_left x y h e = h (ap (λ z. z * y) e ∙ zero_mul R y)

  pub mul_nonzero_right : (x y : A) → ¬ (x * y ≡ 𝟘) → ¬ (y ≡ 𝟘)
  mul_nonzero_right x y h e = h (ap (λ z. x * z) e ∙ mul_zero R x)

  -- a multiple of d that is shorter than d is zero
  pub multiple_short : (q d : A) → 0 < size d → size (q * d) < size d → q ≡ 𝟘
  multiple_short q d hd h = go (zero_decided q)
    where
      go : Dec (q ≡ 𝟘) → q ≡ 𝟘
      go (yes e) = e
      go (no k) = absurd (omega (arith, size_mul q d (size_positive q k) hd, size_positive q k))

  -- a bound whatever the factors
  pub size_mul_le : (x y : A) (a b : ℕ) → size x ≤ a → size y ≤ b → size (x * y) ≤ (a +ₙ b) - 1
  size_mul_le x y a b hx hy = go (ℕ_discrete (size x) 0) (ℕ_discrete (size y) 0)
    where
      vanishing : x * y ≡ 𝟘 → size (x * y) ≤ (a +ₙ b) - 1
      vanishing e = omega (arith, size_of_zero (x * y) e)

      go : Dec (size x ≡ 0) → Dec (size y ≡ 0) → size (x * y) ≤ (a +ₙ b) - 1
      go (yes e) d = vanishing (ap (λ z. z * y) (size_none x e) ∙ zero_mul R y)
      go (no h) (yes e) = vanishing (ap (λ z. x * z) (size_none y e) ∙ mul_zero R x)
      go (no h) (no k) = omega (arith, size_mul x y (omega arith) (omega arith))

  -- sums
  pub size_longer : (x y : A) → size y < size x → size (x + y) ≡ size x
  size_longer x y h = go (dec_lt (size (x + y)) (size x))
    where
      back : x ≡ (x + y) + (- y)
      back = identity R (x ∷ y ∷ []) (λ ρ qx qy. search quotes depth 16) refl

      go : Dec (size (x + y) < size x) → size (x + y) ≡ size x
      go (yes l) =
          let shorter : size ((x + y) + (- y)) ≤ size x - 1 =
          size_add (size x - 1) (x + y) (- y) (omega arith) (size_neg (size x - 1) y (omega arith)) in
          let same : size x ≡ size ((x + y) + (- y)) = ap size back in
          absurd (omega arith)
      go (no l) = omega (arith, size_add (size x) x y (omega arith) (omega arith))

  pub size_sub_less : (n : ℕ) (x y : A) → size x < n → size y < n → size (x + (- y)) < n
  size_sub_less zero x y hx hy = absurd (omega arith)
  size_sub_less (suc n) x y hx hy =
      let z : size (x + (- y)) ≤ n = size_add n x (- y) (omega arith) (size_neg n y (omega arith)) in omega arith

  pub size_neg_equal : (x : A) → size (- x) ≡ size x
  size_neg_equal x =
      let e : size (- (- x)) ≡ size x = ap size (identity R (x ∷ []) (λ ρ qx. search quotes depth 16) refl) in
      omega (arith, size_neg (size x) x (omega arith), size_neg (size (- x)) (- x) (omega arith))

  pub size_sum : (k n : ℕ) (f : ℕ → A) → ((i : ℕ) → i < n → size (f i) ≤ k) → size (sum R n f) ≤ k
  unfolding sum
  size_sum k zero f h = omega (arith, size_zero)
  size_sum k (suc n) f h =
      size_add k (sum R n f) (f n) (size_sum k n f (λ i l. h i (omega arith))) (h n (omega arith))
