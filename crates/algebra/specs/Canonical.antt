-- Canonical lists of coefficients: the last is not zero. Each operation gives one, and two with equal coefficients are equal.
use Prim.Native.Nat.{ℕ, zero, suc, ◌≤◌}
use Rattle.std.specs.Prelude.{◌≡◌, Bool}
use Rattle.std.proofs.Math.Path.{refl, sym, ap₂}
use Rattle.std.proofs.Math.Bool.{true, false}
use mathlib.Core.List.{List, [], ◌∷◌}
use mathlib.Core.HLevel.{¬_prop, Unit-prop}
use native.Mathlib.Omega.{arith}
use Rattle.std.proofs.Math.ListN.{length}
use Rattle.algebra.specs.Field.{Field, operations}
use Rattle.algebra.specs.Operations.{Operations}
use Rattle.algebra.specs.Coefficients.{single, cons, constant, one, coefficient, leading, add, negate, subtract, scale}
use Rattle.algebra.specs.Coefficients.{shift, mul, monic, factor, divide, quotient, remainder, euclid, gcd}

module _ {A : Type 0} (F : Field A) where
  open F.ring use {add as ◌+◌, mul as ◌*◌, neg as -◌, zero as 𝟘, one as 𝟙}

  infixl 65 ◌+◌
  infixl 70 ◌*◌
  infix 75 -◌
  abbrev o : Operations A
  o = operations F

  abbrev pub Canonical : List A → Type 0
  Canonical [] = Unit {0}
  Canonical (a ∷ []) = ¬ (a ≡ 𝟘)
  Canonical (a ∷ b ∷ f) = Canonical (b ∷ f)

  pub canonical_unique : (f : List A) → IsProp (Canonical f)
  canonical_unique [] = Unit-prop
  canonical_unique (a ∷ []) = ¬_prop
  canonical_unique (a ∷ b ∷ f) = canonical_unique (b ∷ f)

  pub canonical_tail : (a : A) (f : List A) → Canonical (a ∷ f) → Canonical f
  canonical_tail a [] h = tt
  canonical_tail a (b ∷ f) h = h

  pub leading_nonzero : (a : A) (f : List A) → Canonical (a ∷ f) → ¬ (leading o (a ∷ f) ≡ 𝟘)
  unfolding leading
  leading_nonzero a [] h = h
  leading_nonzero a (b ∷ f) h = leading_nonzero b f h

  -- by coefficients
  coefficients_vanish : (a : A) (f : List A) → Canonical (a ∷ f) → ¬ ((n : ℕ) → coefficient o (a ∷ f) n ≡ 𝟘)
  unfolding coefficient
  coefficients_vanish a [] h e = h (e 0)
  coefficients_vanish a (b ∷ f) h e = coefficients_vanish b f h (λ n. e (suc n))

  pub canonical_equal : (f g : List A) → Canonical f → Canonical g → ((n : ℕ) → coefficient o f n ≡ coefficient o g n) → f ≡ g
  unfolding coefficient
  canonical_equal [] [] hf hg e = refl
  canonical_equal [] (b ∷ g) hf hg e = absurd (coefficients_vanish b g hg (λ n. sym (e n)))
  canonical_equal (a ∷ f) [] hf hg e = absurd (coefficients_vanish a f hf e)
  canonical_equal (a ∷ f) (b ∷ g) hf hg e =
      ap₂ ◌∷◌ (e 0) (canonical_equal f g (canonical_tail a f hf) (canonical_tail b g hg) (λ n. e (suc n)))

  pub length_bound : (f : List A) (n : ℕ) → Canonical f → ((i : ℕ) → n ≤ i → coefficient o f i ≡ 𝟘) → length f ≤ n
  unfolding coefficient
  length_bound [] n h e = omega arith
  length_bound (a ∷ f) zero h e = absurd (coefficients_vanish a f h (λ i. e i (omega arith)))
  length_bound (a ∷ f) (suc n) h e =
      let rest : length f ≤ n = length_bound f n (canonical_tail a f h) (λ i k. e (suc i) (omega arith)) in omega arith

  -- each operation
  canonical_single : (a : A) (b : Bool) → F.zero? a ≡ b → Canonical (single b a)
  unfolding single
  canonical_single a true e = tt
  canonical_single a false e = F.zero?_false a e

  pub canonical_cons : (a : A) (f : List A) → Canonical f → Canonical (cons o a f)
  unfolding cons
  canonical_cons a [] h = canonical_single a (F.zero? a) refl
  canonical_cons a (b ∷ f) h = h

  pub canonical_constant : (a : A) → Canonical (constant o a)
  unfolding constant
  canonical_constant a = canonical_cons a [] tt

  pub canonical_one : Canonical (one o)
  unfolding one
  canonical_one = canonical_constant 𝟙

  pub canonical_add : (f g : List A) → Canonical f → Canonical g → Canonical (add o f g)
  unfolding add
  canonical_add [] g hf hg = hg
  canonical_add (a ∷ f) [] hf hg = hf
  canonical_add (a ∷ f) (b ∷ g) hf hg =
      canonical_cons (a + b) (add o f g) (canonical_add f g (canonical_tail a f hf) (canonical_tail b g hg))

  pub canonical_negate : (f : List A) → Canonical (negate o f)
  unfolding negate
  canonical_negate [] = tt
  canonical_negate (a ∷ f) = canonical_cons (- a) (negate o f) (canonical_negate f)

  pub canonical_subtract : (f g : List A) → Canonical f → Canonical (subtract o f g)
  unfolding subtract
  canonical_subtract f g h = canonical_add f (negate o g) h (canonical_negate g)

  pub canonical_scale : (c : A) (f : List A) → Canonical (scale o c f)
  unfolding scale
  canonical_scale c [] = tt
  canonical_scale c (a ∷ f) = canonical_cons (c * a) (scale o c f) (canonical_scale c f)

  pub canonical_shift : (k : ℕ) (f : List A) → Canonical f → Canonical (shift o k f)
  unfolding shift
  canonical_shift zero f h = h
  canonical_shift (suc k) f h = canonical_cons 𝟘 (shift o k f) (canonical_shift k f h)

  pub canonical_mul : (f g : List A) → Canonical (mul o f g)
  unfolding mul
  canonical_mul [] g = tt
  canonical_mul (a ∷ f) g =
      canonical_add (scale o a g) (cons o 𝟘 (mul o f g))
      (canonical_scale a g) (canonical_cons 𝟘 (mul o f g) (canonical_mul f g))

  pub canonical_monic : (f : List A) → Canonical (monic o f)
  unfolding monic
  canonical_monic f = canonical_scale (F.inverse (leading o f)) f

  pub canonical_quotient : (f d : List A) → Canonical (quotient o f d)
  unfolding divide
  canonical_quotient [] d = tt
  canonical_quotient (a ∷ f) d =
      canonical_cons (factor o d (cons o a (remainder o f d))) (quotient o f d) (canonical_quotient f d)

  pub canonical_remainder : (f d : List A) → Canonical (remainder o f d)
  unfolding divide
  canonical_remainder [] d = tt
  canonical_remainder (a ∷ f) d =
      let r = cons o a (remainder o f d) in
      canonical_subtract r (scale o (factor o d r) d) (canonical_cons a (remainder o f d) (canonical_remainder f d))

  pub canonical_euclid : (k : ℕ) (f g : List A) → Canonical f → Canonical g → Canonical (euclid o k f g)
  unfolding euclid
  canonical_euclid zero f g hf hg = hf
  canonical_euclid (suc k) f [] hf hg = hf
  canonical_euclid (suc k) f (b ∷ g) hf hg =
      canonical_euclid k (b ∷ g) (remainder o f (b ∷ g)) hg (canonical_remainder f (b ∷ g))

  pub canonical_gcd : (f g : List A) → Canonical (gcd o f g)
  unfolding gcd
  canonical_gcd f g = canonical_monic (euclid o (length g) f g)
