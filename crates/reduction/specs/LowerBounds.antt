-- Rows that bound denominators from below, found one by one and put together: (w, Z) with w dividing Z·B, and Z·c = k modulo w for
-- a divisor k of w, shows that L = w / k divides every denominator of B·y = c. Keeping Z·c at k itself, not at any multiple of it,
-- two of them join by Bézout's multipliers of their L alone.
use Rattle.std.specs.Prelude.{ℕ, ◌<◌, ◌-◌ as ◌-ₙ◌, ◌≡◌, refl, [], ◌∷◌}
use Rattle.std.proofs.Common.{sym, ◌∙◌, ap, ap₂, arith}
use Rattle.ring.specs.Ring.{Ring, zero_mul}
use Rattle.ring.specs.Sum.{sum, sum_ext, sum_none, sum_add, sum_mul}
use Rattle.ring.specs.Identity.{quotes, identity}
use Rattle.ring.specs.Combination.{given, combination}
use Rattle.algebra.specs.Sized.{Sized, mul_cancel, mul_nonzero_left, size_positive, size_mul_le}
use Rattle.algebra.specs.Divides.{Divides, divides_equal, divides_add, divides_mul, divides_product, one_divides, mul_divides_mul}
use Rattle.algebra.specs.Bezout.{Greatest}
use Rattle.reduction.specs.Euclidean.{Euclidean}
use Rattle.reduction.specs.System.{LinearSystem}
use Rattle.reduction.specs.Certificate.{RightSolutionIn}

module _ {A : Type 0} (R : Ring A) (n m : ℕ) (B : ℕ → ℕ → A) (c : ℕ → A) where
  open R use {add as ◌+◌, mul as ◌*◌, neg as -◌, zero as 𝟘, one as 𝟙}

  infixl 65 ◌+◌
  infixl 65 ◌-◌
  infixl 70 ◌*◌
  infix 75 -◌
  abbrev ◌-◌ : A → A → A
  a - b = a + (- b)

  -- Z·y
  abbrev times : (ℕ → A) → (ℕ → A) → A
  times Z y = sum R n (λ i. Z i * y i)

  -- w divides Z·B, and Z·c is s modulo w
  pub record Congruent (w : A) (Z : ℕ → A) (s : A) : Type 0 where
    pub columns : (j : ℕ) → j < m → Divides R w (sum R n (λ i. Z i * B i j))
    pub multiple : A
    pub side : sum R n (λ i. Z i * c i) ≡ s + multiple * w

  -- w = L·k, and Z·c is k modulo w
  pub record LowerBound (w : A) (Z : ℕ → A) (L : A) : Type 0 where
    pub k : A
    pub product : w ≡ L * k
    pub congruent : Congruent w Z k

  row_combine : (a b : A) (Z Y X : ℕ → A) → ((i : ℕ) → i < n → X i ≡ a * Z i + b * Y i)
      → (y : ℕ → A) → times X y ≡ a * times Z y + b * times Y y
  row_combine a b Z Y X e y =
      sum_ext R n (λ i. X i * y i) (λ i. a * (Z i * y i) + b * (Y i * y i))
      (λ i h. ap (λ x. x * y i) (e i h)
      ∙ identity R (a ∷ b ∷ Z i ∷ Y i ∷ y i ∷ []) (λ ρ qa qb qz qx qy. search quotes depth 16) refl)
      ∙ sum_add R n (λ i. a * (Z i * y i)) (λ i. b * (Y i * y i))
      ∙ ap₂ ◌+◌ (sum_mul R n a (λ i. Z i * y i)) (sum_mul R n b (λ i. Y i * y i))

  -- another value of the same class
  pub congruent_value : {w s : A} {Z : ℕ → A} (s' t : A) → s ≡ s' + t * w → Congruent w Z s → Congruent w Z s'
  congruent_value {w} {s} {Z} s' t e C = record {
    columns = C.columns;
    multiple = t + C.multiple;
    side = combination R (times Z c) (s' + (t + C.multiple) * w) (given 𝟙 C.side ∷ given 𝟙 e ∷ [])
        (identity R (times Z c ∷ s ∷ s' ∷ t ∷ w ∷ C.multiple ∷ []) (λ ρ qz qs qr qt qw qm. search quotes depth 16) refl);
  }

  -- τ·Z, each entry modulo w
  pub congruent_times : {w s : A} {Z : ℕ → A} (τ : A) (μ Z' : ℕ → A) → ((i : ℕ) → i < n → τ * Z i ≡ μ i * w + Z' i)
      → Congruent w Z s → Congruent w Z' (τ * s)
  congruent_times {w} {s} {Z} τ μ Z' e C = record {
    columns = λ j l. divides_equal (sym (row (λ i. B i j))) (divides_add (divides_mul τ (C.columns j l)) (record {
      cofactor = - times μ (λ i. B i j);
      product = identity R (w ∷ times μ (λ i. B i j) ∷ []) (λ ρ qw qm. search quotes depth 16) refl;
    }));
    multiple = τ * C.multiple - times μ c;
    side = combination R (times Z' c) (τ * s + (τ * C.multiple - times μ c) * w) (given 𝟙 (row c) ∷ given τ C.side ∷ [])
        (identity R (times Z' c ∷ times Z c ∷ times μ c ∷ τ ∷ s ∷ w ∷ C.multiple ∷ [])
        (λ ρ q1 q2 q3 q4 q5 q6 q7. search quotes depth 20) refl);
  }
    where
      row : (y : ℕ → A) → times Z' y ≡ τ * times Z y + (- w) * times μ y
      row = row_combine τ (- w) Z μ Z' (λ i l. combination R (Z' i) (τ * Z i + (- w) * μ i) (given (- 𝟙) (e i l) ∷ [])
          (identity R (τ ∷ w ∷ Z i ∷ Z' i ∷ μ i ∷ []) (λ ρ q1 q2 q3 q4 q5. search quotes depth 16) refl))

  -- two rows, each times what its w lacks of W, added
  pub congruent_join : {w₁ w₂ s₁ s₂ : A} {Z₁ Z₂ : ℕ → A} (W W₁ W₂ : A) → W ≡ W₁ * w₁ → W ≡ W₂ * w₂ → (Z : ℕ → A)
      → ((i : ℕ) → i < n → Z i ≡ W₁ * Z₁ i + W₂ * Z₂ i) → Congruent w₁ Z₁ s₁ → Congruent w₂ Z₂ s₂
      → Congruent W Z (W₁ * s₁ + W₂ * s₂)
  congruent_join {w₁} {w₂} {s₁} {s₂} {Z₁} {Z₂} W W₁ W₂ e₁ e₂ Z e C₁ C₂ = record {
    columns = λ j l. divides_equal (sym (row_combine W₁ W₂ Z₁ Z₂ Z e (λ i. B i j))) (divides_add
        (whole W₁ w₁ e₁ (C₁.columns j l)) (whole W₂ w₂ e₂ (C₂.columns j l)));
    multiple = C₁.multiple + C₂.multiple;
    side = combination R (times Z c) (W₁ * s₁ + W₂ * s₂ + (C₁.multiple + C₂.multiple) * W)
        (given 𝟙 (row_combine W₁ W₂ Z₁ Z₂ Z e c) ∷ given W₁ C₁.side ∷ given W₂ C₂.side
        ∷ given (- C₁.multiple) e₁ ∷ given (- C₂.multiple) e₂ ∷ [])
        (identity R (times Z c ∷ times Z₁ c ∷ times Z₂ c ∷ s₁ ∷ s₂ ∷ w₁ ∷ w₂ ∷ W ∷ W₁ ∷ W₂ ∷ C₁.multiple ∷ C₂.multiple ∷ [])
        (λ ρ q1 q2 q3 q4 q5 q6 q7 q8 q9 q10 q11 q12. search quotes depth 24) refl);
  }
    where
      whole : (u w : A) {x : A} → W ≡ u * w → Divides R w x → Divides R W (u * x)
      whole u w e h = rw e (mul_divides_mul u h)

  -- at the beginning
  pub bound_start : LowerBound 𝟙 (λ i. 𝟘) 𝟙
  bound_start = record {
    k = 𝟙;
    product = sym (R.mul_one 𝟙);
    congruent = record {
      columns = λ j l. one_divides (sum R n (λ i. 𝟘 * B i j));
      multiple = - 𝟙;
      side = sum_none R n (λ i. 𝟘 * c i) (λ i l. zero_mul R (c i)) ∙ identity R [] (λ ρ. search quotes depth 16) refl;
    };
  }

  -- of one row U with h dividing U·B: r is U·c modulo h, k the greatest common divisor of h and r, τ its multiplier of r, and Z is
  -- τ·U modulo h
  pub bound_row : {h l : A} {U : ℕ → A} (θ r k σ τ : A) (μ Z : ℕ → A) → ((j : ℕ) → j < m → Divides R h (sum R n (λ i. U i * B i j)))
      → sum R n (λ i. U i * c i) ≡ θ * h + r → k ≡ σ * h + τ * r → h ≡ l * k
      → ((i : ℕ) → i < n → τ * U i ≡ μ i * h + Z i) → LowerBound h Z l
  bound_row {h} {l} {U} θ r k σ τ μ Z columns er ek eh e = record {
    k = k;
    product = eh;
    congruent = congruent_value k (- σ)
        (combination R (τ * r) (k + (- σ) * h) (given (- 𝟙) ek ∷ [])
        (identity R (h ∷ k ∷ r ∷ σ ∷ τ ∷ []) (λ ρ q1 q2 q3 q4 q5. search quotes depth 16) refl))
        (congruent_times τ μ Z e (record { columns = columns; multiple = θ; side = er ∙ R.add_comm (θ * h) r }));
  }

  -- two of them: g = σ·L₁ + τ·L₂ with L·g = L₁·L₂, as their greatest common divisor and least common multiple, and W any common
  -- multiple of w₁ and w₂. With K i = (W i)·(k i), W = (K i)·(L i), so that g·L·(τ·K₁ + σ·K₂) = L₁·L₂·(τ·K₁ + σ·K₂) = (τ·L₂ +
  -- σ·L₁)·W
  pub bound_join : (S : Sized R) {w₁ w₂ L₁ L₂ : A} {Z₁ Z₂ : ℕ → A} → LowerBound w₁ Z₁ L₁ → LowerBound w₂ Z₂ L₂
      → (g σ τ L : A) → ¬ (g ≡ 𝟘) → g ≡ σ * L₁ + τ * L₂ → L * g ≡ L₁ * L₂ → (W W₁ W₂ : A) → W ≡ W₁ * w₁ → W ≡ W₂ * w₂
      → (μ₁ μ₂ X₁ X₂ Z : ℕ → A) → ((i : ℕ) → i < n → τ * Z₁ i ≡ μ₁ i * w₁ + X₁ i) → ((i : ℕ) → i < n → σ * Z₂ i ≡ μ₂ i * w₂ + X₂ i)
      → ((i : ℕ) → i < n → Z i ≡ W₁ * X₁ i + W₂ * X₂ i) → LowerBound W Z L
  bound_join S {w₁} {w₂} {L₁} {L₂} P Q g σ τ L nonzero eg el W W₁ W₂ e₁ e₂ μ₁ μ₂ X₁ X₂ Z f₁ f₂ f = record {
    k = W₁ * (τ * k₁) + W₂ * (σ * k₂);
    product = mul_cancel S g W (L * (W₁ * (τ * k₁) + W₂ * (σ * k₂))) nonzero
        (combination R (g * W) (g * (L * (W₁ * (τ * k₁) + W₂ * (σ * k₂))))
        (given W eg ∷ given (- (W₁ * (τ * k₁) + W₂ * (σ * k₂))) el
        ∷ given (τ * L₂) e₁ ∷ given (τ * L₂ * W₁) P.product ∷ given (σ * L₁) e₂ ∷ given (σ * L₁ * W₂) Q.product ∷ [])
        (identity R (g ∷ σ ∷ τ ∷ L ∷ L₁ ∷ L₂ ∷ k₁ ∷ k₂ ∷ w₁ ∷ w₂ ∷ W ∷ W₁ ∷ W₂ ∷ [])
        (λ ρ q1 q2 q3 q4 q5 q6 q7 q8 q9 q10 q11 q12 q13. search quotes depth 24) refl));
    congruent = congruent_join W W₁ W₂ e₁ e₂ Z f
        (congruent_times τ μ₁ X₁ f₁ P.congruent) (congruent_times σ μ₂ X₂ f₂ Q.congruent);
  }
    where
      k₁ : A
      k₁ = P.k

      k₂ : A
      k₂ = Q.k

  -- at the end: k is the greatest common divisor of w and Z·c
  pub bound_greatest : {w L : A} {Z : ℕ → A} (P : LowerBound w Z L) → Greatest R w (sum R n (λ i. Z i * c i)) P.k
  bound_greatest {w} {L} {Z} P = record {
    left = divides_equal (sym P.product) (divides_product L P.k);
    right = record {
      cofactor = 𝟙 + v * L;
      product = combination R (times Z c) ((𝟙 + v * L) * P.k) (given 𝟙 P.congruent.side ∷ given v P.product ∷ [])
          (identity R (times Z c ∷ v ∷ w ∷ L ∷ P.k ∷ []) (λ ρ q1 q2 q3 q4 q5. search quotes depth 16) refl);
    };
    s = - v;
    t = 𝟙;
    bezout = combination R P.k ((- v) * w + 𝟙 * times Z c) (given (- 𝟙) P.congruent.side ∷ [])
        (identity R (times Z c ∷ v ∷ w ∷ P.k ∷ []) (λ ρ q1 q2 q3 q4. search quotes depth 16) refl);
  }
    where
      v : A
      v = P.congruent.multiple

-- the rows stay shorter than their w
module _ {A : Type 0} {R : Ring A} (S : Sized R) where
  open R use {add as ◌+◌, mul as ◌*◌, zero as 𝟘}
  open S use {size, size_mul, size_add}

  infixl 65 ◌+◌
  infixl 70 ◌*◌
  multiple_shorter : (u x w : A) → size x < size w → ¬ (u * w ≡ 𝟘) → size (u * x) < size (u * w)
  multiple_shorter u x w h nonzero = omega (
    arith,
    size_mul u w (size_positive S u left) (omega arith),
    size_mul_le S u x (size u) (size w -ₙ 1) (omega arith) (omega arith),
    size_positive S u left,
  )
    where
      left : ¬ (u ≡ 𝟘)
      left = mul_nonzero_left S u w nonzero

  pub join_shorter : (W W₁ W₂ w₁ w₂ x₁ x₂ : A) → ¬ (W ≡ 𝟘) → W ≡ W₁ * w₁ → W ≡ W₂ * w₂ → size x₁ < size w₁ → size x₂ < size w₂
      → size (W₁ * x₁ + W₂ * x₂) < size W
  join_shorter W W₁ W₂ w₁ w₂ x₁ x₂ nonzero e₁ e₂ h₁ h₂ =
      let l₁ : size (W₁ * x₁) < size (W₁ * w₁) = multiple_shorter W₁ x₁ w₁ h₁ (λ z. nonzero (e₁ ∙ z)) in
      let l₂ : size (W₂ * x₂) < size (W₂ * w₂) = multiple_shorter W₂ x₂ w₂ h₂ (λ z. nonzero (e₂ ∙ z)) in
      let both = size_add (size W -ₙ 1) (W₁ * x₁) (W₂ * x₂) (omega (arith, ap size e₁)) (omega (arith, ap size e₂)) in
      omega (arith, ap size e₁)

module _ {A : Type 0} {R : Ring A} {S : Sized R} (E : Euclidean S) (T : LinearSystem S) where
  -- a solution with denominator d and a lower bound d: the certificate is right
  pub bound_right : {d w : A} {N Z : ℕ → A} (P : LowerBound R T.rows T.columns T.matrix T.side w Z d)
      → E.Monic d → E.Monic w → E.Monic P.k
      → ((i : ℕ) → i < T.rows → sum R T.columns (λ j. R.mul (T.matrix i j) (N j)) ≡ R.mul d (T.side i))
      → RightSolutionIn E T d N w Z
  bound_right P hd hw hk solves = record {
    monic = hd;
    certifying_monic_lem = hw;
    solves = solves;
    divides = P.congruent.columns;
    divisor = P.k;
    divisor_monic = hk;
    divisor_greatest = bound_greatest R T.rows T.columns T.matrix T.side P;
    quotient = P.product;
  }
