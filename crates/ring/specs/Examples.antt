-- The solver on identities of two to nine variables, and an equation from two others.
use Rattle.std.specs.Prelude.{◌≡◌, refl, [], ◌∷◌}
use Rattle.ring.specs.Ring.{Ring}
use Rattle.ring.specs.Identity.{quotes, identity}
use Rattle.ring.specs.Combination.{given, combination}

module _ {A : Type 0} (R : Ring A) where
  open R use {add as ◌+◌, mul as ◌*◌, neg as -◌, zero as 𝟘, one as 𝟙}

  infixl 65 ◌+◌
  infixl 65 ◌-◌
  infixl 70 ◌*◌
  infix 75 -◌
  abbrev ◌-◌ : A → A → A
  a - b = a + (- b)

  squares : (a b : A) → (a + b) * (a - b) ≡ a * a - b * b
  squares a b = identity R (a ∷ b ∷ []) (λ ρ qa qb. search quotes depth 16) refl

  cyclic : (a b c : A) → (a - b) * (b - c) + (b - c) * (c - a) + (c - a) * (a - b) ≡ (a * b + b * c + c * a) -
      (a * a + b * b + c * c)
  cyclic a b c = identity R (a ∷ b ∷ c ∷ []) (λ ρ qa qb qc. search quotes depth 16) refl

  -- the sum of two squares times a sum of two squares
  brahmagupta : (a b c d : A) → (a * a + b * b) * (c * c + d * d) ≡ (a * c - b * d) * (a * c - b * d) + (a * d + b * c) *
      (a * d + b * c)
  brahmagupta a b c d = identity R (a ∷ b ∷ c ∷ d ∷ []) (λ ρ qa qb qc qd. search quotes depth 16) refl

  horner : (a b c d x : A) → a + x * (b + x * (c + x * d)) ≡ a + b * x + c * x * x + d * x * x * x
  horner a b c d x = identity R (a ∷ b ∷ c ∷ d ∷ x ∷ []) (λ ρ qa qb qc qd qx. search quotes depth 16) refl

  -- the first unknown of two equations
  cramer : (a b c d x y : A) → (a * d - b * c) * x ≡ d * (a * x + b * y) - b * (c * x + d * y)
  cramer a b c d x y = identity R (a ∷ b ∷ c ∷ d ∷ x ∷ y ∷ []) (λ ρ qa qb qc qd qx qy. search quotes depth 16) refl

  -- Bézout's multipliers behind one division with remainder
  bezout : (s t q r x y g : A) → t * (q * y + r) + (s - t * q) * y ≡ s * y + t * r
  bezout s t q r x y g = identity R (s ∷ t ∷ q ∷ r ∷ x ∷ y ∷ g ∷ []) (λ ρ qs qt qq qr qx qy qg. search quotes depth 16) refl

  -- the sum of four squares times a sum of four squares
  euler : (a b c d p q r s : A) → (a * a + b * b + c * c + d * d) * (p * p + q * q + r * r + s * s)
      ≡ (a * p - b * q - c * r - d * s) * (a * p - b * q - c * r - d * s)
      + (a * q + b * p + c * s - d * r) * (a * q + b * p + c * s - d * r)
      + (a * r - b * s + c * p + d * q) * (a * r - b * s + c * p + d * q)
      + (a * s + b * r - c * q + d * p) * (a * s + b * r - c * q + d * p)
  euler a b c d p q r s = identity R (a ∷ b ∷ c ∷ d ∷ p ∷ q ∷ r ∷ s ∷ [])
      (λ ρ qa qb qc qd qp qq qr qs. search quotes depth 16) refl

  -- the determinant of a 3 by 3 matrix along its first row and along its first column
  determinant : (a b c d e f g h i : A) → a * (e * i - f * h) - b * (d * i - f * g) + c * (d * h - e * g)
      ≡ a * (e * i - f * h) - d * (b * i - c * h) + g * (b * f - c * e)
  determinant a b c d e f g h i = identity R (a ∷ b ∷ c ∷ d ∷ e ∷ f ∷ g ∷ h ∷ i ∷ [])
      (λ ρ qa qb qc qd qe qf qg qh qi. search quotes depth 16) refl

  from_two : (a b c d : A) → a + b ≡ c → a ≡ d + b → c ≡ d + b + b
  from_two a b c d e f = combination R c (d + b + b) (given (- 𝟙) e ∷ given 𝟙 f ∷ [])
      (identity R (a ∷ b ∷ c ∷ d ∷ []) (λ ρ qa qb qc qd. search quotes depth 16) refl)
