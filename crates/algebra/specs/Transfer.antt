-- A map of coefficients that respects the operations takes every definition of `Coefficients` over: laws proved on one side hold
-- on the other.
use Rattle.std.specs.Prelude.{◌≡◌, Bool, true, false, length}
use Rattle.std.proofs.Math.Path.{refl, ap, ap₂}
use Rattle.std.proofs.Common.{sym, ◌∙◌}
use mathlib.Core.List.{List, [], ◌∷◌, map}
use Prim.Native.Nat.{ℕ, zero, suc, ◌-◌}
use Rattle.std.proofs.lemmas.List.{length-map}
use Rattle.algebra.specs.Operations.{Operations}
use Rattle.algebra.specs.Coefficients.{Division, single, cons, constant, one, coefficient, leading, add, negate, subtract}
use Rattle.algebra.specs.Coefficients.{scale, shift, mul, monic, factor, extend_division, divide, quotient, remainder, euclid}
use Rattle.algebra.specs.Coefficients.{gcd}

pub record Homomorphism {A B : Type 0} (o : Operations A) (o' : Operations B) (φ : A → B) : Type 0 where
  pub add : (a b : A) → φ (o.add a b) ≡ o'.add (φ a) (φ b)
  pub mul : (a b : A) → φ (o.mul a b) ≡ o'.mul (φ a) (φ b)
  pub neg : (a : A) → φ (o.neg a) ≡ o'.neg (φ a)
  pub zero : φ o.zero ≡ o'.zero
  pub one : φ o.one ≡ o'.one
  pub inverse : (a : A) → φ (o.inverse a) ≡ o'.inverse (φ a)
  pub zero? : (a : A) → o.zero? a ≡ o'.zero? (φ a)

abbrev pub map_both : {A B : Type 0} → (A → B) → Division A → Division B
map_both φ w = record { quotient = map φ w.quotient; remainder = map φ w.remainder }

map_single : {A B : Type 0} (φ : A → B) (b : Bool) (a : A) → map φ (single b a) ≡ single b (φ a)
unfolding single
map_single φ true a = refl
map_single φ false a = refl

module _ {A B : Type 0} {o : Operations A} {o' : Operations B} {φ : A → B} (h : Homomorphism o o' φ) where
  open h use {add as on_add, mul as on_mul, neg as on_neg, zero as on_zero, one as on_one}
  open h use {inverse as on_inverse, zero? as on_zero?}

  pub map_cons : (a : A) (f : List A) → map φ (cons o a f) ≡ cons o' (φ a) (map φ f)
  unfolding cons
  map_cons a [] = map_single φ (o.zero? a) a ∙ ap (λ b. single b (φ a)) (on_zero? a)
  map_cons a (b ∷ f) = refl

  pub map_constant : (a : A) → map φ (constant o a) ≡ constant o' (φ a)
  unfolding constant
  map_constant a = map_cons a []

  pub map_one : map φ (one o) ≡ one o'
  unfolding one
  map_one = map_constant o.one ∙ ap (constant o') on_one

  pub map_coefficient : (f : List A) (n : ℕ) → φ (coefficient o f n) ≡ coefficient o' (map φ f) n
  unfolding coefficient
  map_coefficient [] n = on_zero
  map_coefficient (a ∷ f) zero = refl
  map_coefficient (a ∷ f) (suc n) = map_coefficient f n

  pub map_leading : (f : List A) → φ (leading o f) ≡ leading o' (map φ f)
  unfolding leading
  map_leading [] = on_zero
  map_leading (a ∷ []) = refl
  map_leading (a ∷ b ∷ f) = map_leading (b ∷ f)

  pub map_add : (f g : List A) → map φ (add o f g) ≡ add o' (map φ f) (map φ g)
  unfolding add
  map_add [] g = refl
  map_add (a ∷ f) [] = refl
  map_add (a ∷ f) (b ∷ g) = map_cons (o.add a b) (add o f g) ∙ ap₂ (cons o') (on_add a b) (map_add f g)

  pub map_negate : (f : List A) → map φ (negate o f) ≡ negate o' (map φ f)
  unfolding negate
  map_negate [] = refl
  map_negate (a ∷ f) = map_cons (o.neg a) (negate o f) ∙ ap₂ (cons o') (on_neg a) (map_negate f)

  pub map_subtract : (f g : List A) → map φ (subtract o f g) ≡ subtract o' (map φ f) (map φ g)
  unfolding subtract
  map_subtract f g = map_add f (negate o g) ∙ ap (add o' (map φ f)) (map_negate g)

  pub map_scale : (c : A) (f : List A) → map φ (scale o c f) ≡ scale o' (φ c) (map φ f)
  unfolding scale
  map_scale c [] = refl
  map_scale c (a ∷ f) = map_cons (o.mul c a) (scale o c f) ∙ ap₂ (cons o') (on_mul c a) (map_scale c f)

  pub map_shift : (k : ℕ) (f : List A) → map φ (shift o k f) ≡ shift o' k (map φ f)
  unfolding shift
  map_shift zero f = refl
  map_shift (suc k) f = map_cons o.zero (shift o k f) ∙ ap₂ (cons o') on_zero (map_shift k f)

  pub map_mul : (f g : List A) → map φ (mul o f g) ≡ mul o' (map φ f) (map φ g)
  unfolding mul
  map_mul [] g = refl
  map_mul (a ∷ f) g =
      map_add (scale o a g) (cons o o.zero (mul o f g))
      ∙ ap₂ (add o') (map_scale a g) (map_cons o.zero (mul o f g) ∙ ap₂ (cons o') on_zero (map_mul f g))

  pub map_monic : (f : List A) → map φ (monic o f) ≡ monic o' (map φ f)
  unfolding monic
  map_monic f =
      map_scale (o.inverse (leading o f)) f
      ∙ ap (λ c. scale o' c (map φ f)) (on_inverse (leading o f) ∙ ap o'.inverse (map_leading f))

  map_factor : (d r : List A) → φ (factor o d r) ≡ factor o' (map φ d) (map φ r)
  map_factor d r = on_mul (coefficient o r (length d - 1)) (o.inverse (leading o d)) ∙ ap₂ o'.mul top inverted
    where
      top : φ (coefficient o r (length d - 1)) ≡ coefficient o' (map φ r) (length (map φ d) - 1)
      top = map_coefficient r (length d - 1) ∙ ap (λ n. coefficient o' (map φ r) (n - 1)) (sym (length-map d φ))

      inverted : φ (o.inverse (leading o d)) ≡ o'.inverse (leading o' (map φ d))
      inverted = on_inverse (leading o d) ∙ ap o'.inverse (map_leading d)

  map_extend : (d : List A) (a : A) (w : Division A)
      → map_both φ (extend_division o d a w) ≡ extend_division o' (map φ d) (φ a) (map_both φ w)
  unfolding extend_division
  map_extend d a w = ap₂ (λ q r. record { quotient = q; remainder = r }) first second
    where
      r : List A
      r = cons o a w.remainder

      r' : List B
      r' = cons o' (φ a) (map φ w.remainder)

      factors : φ (factor o d r) ≡ factor o' (map φ d) r'
      factors = map_factor d r ∙ ap (factor o' (map φ d)) (map_cons a w.remainder)

      first : map φ (cons o (factor o d r) w.quotient) ≡ cons o' (factor o' (map φ d) r') (map φ w.quotient)
      first = map_cons (factor o d r) w.quotient ∙ ap (λ c. cons o' c (map φ w.quotient)) factors

      second : map φ (subtract o r (scale o (factor o d r) d)) ≡ subtract o' r' (scale o' (factor o' (map φ d) r') (map φ d))
      second =
          map_subtract r (scale o (factor o d r) d)
          ∙ ap₂ (subtract o') (map_cons a w.remainder) (map_scale (factor o d r) d ∙ ap (λ c. scale o' c (map φ d)) factors)

  pub map_divide : (f d : List A) → map_both φ (divide o f d) ≡ divide o' (map φ f) (map φ d)
  unfolding divide
  map_divide [] d = refl
  map_divide (a ∷ f) d = map_extend d a (divide o f d) ∙ ap (extend_division o' (map φ d) (φ a)) (map_divide f d)

  pub map_quotient : (f d : List A) → map φ (quotient o f d) ≡ quotient o' (map φ f) (map φ d)
  map_quotient f d = ap (λ w. w.quotient) (map_divide f d)

  pub map_remainder : (f d : List A) → map φ (remainder o f d) ≡ remainder o' (map φ f) (map φ d)
  map_remainder f d = ap (λ w. w.remainder) (map_divide f d)

  pub map_euclid : (k : ℕ) (f g : List A) → map φ (euclid o k f g) ≡ euclid o' k (map φ f) (map φ g)
  unfolding euclid
  map_euclid zero f g = refl
  map_euclid (suc k) f [] = refl
  map_euclid (suc k) f (b ∷ g) =
      map_euclid k (b ∷ g) (remainder o f (b ∷ g))
      ∙ ap (euclid o' k (φ b ∷ map φ g)) (map_remainder f (b ∷ g))

  pub map_gcd : (f g : List A) → map φ (gcd o f g) ≡ gcd o' (map φ f) (map φ g)
  unfolding gcd
  map_gcd f g =
      map_monic (euclid o (length g) f g)
      ∙ ap (monic o') (map_euclid (length g) f g ∙ ap (λ n. euclid o' n (map φ f) (map φ g)) (sym (length-map g φ)))
