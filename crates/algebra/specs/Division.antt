-- Division with remainder: what `divide` gives for a divisor that is not zero, that nothing else has its properties, and the
-- remainders of sums and products.
use Rattle.std.specs.Prelude.{ℕ, suc, ◌<◌, ◌≤◌, ◌-◌, ◌≡◌}
use Rattle.std.proofs.Math.Path.{refl, sym, ap, ap₂}
use Rattle.std.proofs.Common.{◌∙◌, arith}
use mathlib.Core.List.{List, [], ◌∷◌}
use Rattle.std.proofs.Math.Decide.{ℕ_discrete}
use Rattle.ring.specs.Ring.{Ring}
use Rattle.ring.specs.Identity.{quotes, identity}
use Rattle.ring.specs.Combination.{given, combination}
use Rattle.algebra.specs.Operations.{Operations}
use Rattle.algebra.specs.Field.{Field, operations, inverse_mul}
use Rattle.algebra.specs.Coefficients
use Rattle.algebra.specs.Canonical.{Canonical, canonical_tail, canonical_quotient, canonical_remainder}
use Rattle.algebra.specs.Polynomial.{Polynomial, polynomials, coefficients, equal_lists}
use Rattle.algebra.specs.Polynomial.{zero_list, coefficients_add, coefficients_neg}
use Rattle.algebra.specs.Expressions.{X, constant, cons, scale, coefficients_scale}
use Rattle.algebra.specs.Expressions.{rest, cons_rest, cons_add, scale_constant}
use Rattle.algebra.specs.Size.{size, leading, sized, size_bound, size_zero}
use Rattle.algebra.specs.Size.{size_cons, leading_positive, coefficients_beyond, coefficients_last}
use Rattle.algebra.specs.Sized.{multiple_short, size_sub_less}

module _ {A : Type 0} (F : Field A) where
  abbrev o : Operations A
  o = operations F

  abbrev K : Ring A
  K = F.ring

  open polynomials F use {add as ◌+◌, mul as ◌*◌, neg as -◌, zero as 𝟘, one as 𝟙}
  open K use {add as ◌⊕◌, mul as ◌⊗◌, neg as ⊝◌}

  infixl 65 ◌+◌
  infixl 65 ◌⊕◌
  infixl 70 ◌*◌
  infixl 70 ◌⊗◌
  infix 75 -◌
  infix 75 ⊝◌
  unfoldable pub quotient : Polynomial F → Polynomial F → Polynomial F
  quotient x d = (Coefficients.quotient o x.0 d.0, canonical_quotient F x.0 d.0)

  unfoldable pub remainder : Polynomial F → Polynomial F → Polynomial F
  remainder x d = (Coefficients.remainder o x.0 d.0, canonical_remainder F x.0 d.0)

  pub list_quotient : (x d : Polynomial F) → (quotient x d).0 ≡ Coefficients.quotient o x.0 d.0
  unfolding quotient
  list_quotient x d = refl

  pub list_remainder : (x d : Polynomial F) → (remainder x d).0 ≡ Coefficients.remainder o x.0 d.0
  unfolding remainder
  list_remainder x d = refl

  -- one coefficient more: from f = q·d + r to a + x·f
  module _ (d : Polynomial F) (n : ℕ) (hd : size F d ≡ suc n) where
    factor : Polynomial F → A
    factor r = Coefficients.factor o d.0 r.0

    reduced : Polynomial F → Polynomial F
    reduced r = r + (- scale F (factor r) d)

    reduced_coefficients : (r : Polynomial F) (i : ℕ)
        → coefficients F (reduced r) i ≡ coefficients F r i ⊕ (⊝ (factor r ⊗ coefficients F d i))
    unfolding reduced
    reduced_coefficients r i = coefficients_add F r (- scale F (factor r) d) i ∙ ap (λ z. coefficients F r i ⊕ z) taken
      where
        taken : coefficients F (- scale F (factor r) d) i ≡ ⊝ (factor r ⊗ coefficients F d i)
        taken = coefficients_neg F (scale F (factor r) d) i ∙ ap ⊝◌ (coefficients_scale F (factor r) d i)

    factor_top : (r : Polynomial F) → factor r ⊗ coefficients F d n ≡ coefficients F r n
    unfolding factor
    factor_top r =
        ap₂ (λ i b. coefficients F r i ⊗ F.inverse (leading F d) ⊗ b) (omega arith) (coefficients_last F d n hd)
        ∙ K.mul_assoc (coefficients F r n) (F.inverse (leading F d)) (leading F d)
        ∙ ap (λ b. coefficients F r n ⊗ b) (inverse_mul F (leading F d) (leading_positive F d (omega arith)))
        ∙ K.mul_one (coefficients F r n)

    reduced_size : (r : Polynomial F) → size F r ≤ suc n → size F (reduced r) ≤ n
    reduced_size r h = size_bound F (reduced r) n (λ i k. reduced_coefficients r i ∙ vanish i k (ℕ_discrete i n))
      where
        vanish : (i : ℕ) → n ≤ i → Dec (i ≡ n) → coefficients F r i ⊕ (⊝ (factor r ⊗ coefficients F d i)) ≡ K.zero
        vanish i k (yes e) =
            ap (λ j. coefficients F r j ⊕ (⊝ (factor r ⊗ coefficients F d j))) e
            ∙ ap (λ b. coefficients F r n ⊕ (⊝ b)) (factor_top r)
            ∙ K.add_neg (coefficients F r n)
        vanish i k (no e) =
            let r_none = coefficients_beyond F r i (omega arith) in
            let d_none = coefficients_beyond F d i (omega arith) in
            ap₂ (λ a b. a ⊕ (⊝ (factor r ⊗ b))) r_none d_none
            ∙ identity K (factor r ∷ []) (λ ρ qc. search quotes depth 16) refl

    step : (a : A) (x q r : Polynomial F) → x ≡ q * d + r
        → cons F a x ≡ cons F (factor (cons F a r)) q * d + reduced (cons F a r)
    unfolding reduced
    step a x q r e =
        cons_add F a x
        ∙ ap (λ z. constant F a + X F * z) e
        ∙ regroup (constant F a) (X F) (constant F c)
        ∙ sym (ap₂ ◌+◌ (ap (λ y. y * d) (cons_add F c q)) (ap₂ (λ y z. y + (- z)) (cons_add F a r) (scale_constant F c d)))
      where
        c : A
        c = factor (cons F a r)

        regroup : (u v w : Polynomial F) → u + v * (q * d + r) ≡ (w + v * q) * d + ((u + v * r) + (- (w * d)))
        regroup u v w = identity (polynomials F) (u ∷ v ∷ w ∷ q ∷ d ∷ r ∷ []) (λ ρ qu qv qw qq qd qr. search quotes depth 16) refl

    quotient_cons : (a : A) (f : List A) (h : Canonical F (a ∷ f))
        → quotient (a ∷ f, h) d ≡ cons F (factor (cons F a (remainder (rest F a f h) d))) (quotient (rest F a f h) d)
    unfolding quotient remainder factor cons Coefficients.divide
    quotient_cons a f h = equal_lists F _ _ refl

    remainder_cons : (a : A) (f : List A) (h : Canonical F (a ∷ f))
        → remainder (a ∷ f, h) d ≡ reduced (cons F a (remainder (rest F a f h) d))
    unfolding remainder reduced factor cons scale polynomials Coefficients.divide
    remainder_cons a f h = equal_lists F _ _ refl

    quotient_none : (h : Canonical F []) → quotient ([], h) d ≡ 𝟘
    unfolding quotient Coefficients.divide
    quotient_none h = zero_list F (quotient ([], h) d) refl

    remainder_none : (h : Canonical F []) → remainder ([], h) d ≡ 𝟘
    unfolding remainder Coefficients.divide
    remainder_none h = zero_list F (remainder ([], h) d) refl

    division_by_list : (f : List A) (h : Canonical F f) → (f, h) ≡ quotient (f, h) d * d + remainder (f, h) d
    division_by_list [] h =
        zero_list F ([], h) refl
        ∙ identity (polynomials F) (d ∷ []) (λ ρ qd. search quotes depth 16) refl
        ∙ sym (ap₂ (λ q r. q * d + r) (quotient_none h) (remainder_none h))
    division_by_list (a ∷ f) h =
        let e = division_by_list f (canonical_tail F a f h) in
        cons_rest F a f h
        ∙ step a (rest F a f h) (quotient (rest F a f h) d) (remainder (rest F a f h) d) e
        ∙ sym (ap₂ (λ q r. q * d + r) (quotient_cons a f h) (remainder_cons a f h))

    short_by_list : (f : List A) (h : Canonical F f) → size F (remainder (f, h) d) ≤ n
    short_by_list [] h = omega (arith, ap (size F) (remainder_none h) ∙ size_zero F)
    short_by_list (a ∷ f) h =
        omega (
          arith,
          ap (size F) (remainder_cons a f h),
          reduced_size (cons F a r) (size_cons F n a r (short_by_list f (canonical_tail F a f h))),
        )
      where
        r : Polynomial F
        r = remainder (rest F a f h) d

  -- x = q·d + r with r shorter than d
  pub division : (x d : Polynomial F) → 0 < size F d → x ≡ quotient x d * d + remainder x d
  division x d h = division_by_list d (size F d - 1) (omega arith) x.0 x.1

  pub size_remainder : (x d : Polynomial F) → 0 < size F d → size F (remainder x d) < size F d
  size_remainder x d h = omega (arith, short_by_list d (size F d - 1) (omega arith) x.0 x.1)

  -- by zero: x is left
  add_none : (f : List A) → Coefficients.add o f [] ≡ f
  unfolding Coefficients.add
  add_none [] = refl
  add_none (a ∷ f) = refl

  by_none : (f : List A) → Canonical F f → Coefficients.remainder o f [] ≡ f
  unfolding Coefficients.divide cons
  by_none [] h = refl
  by_none (a ∷ f) h =
      add_none (Coefficients.cons o a (Coefficients.remainder o f []))
      ∙ ap (Coefficients.cons o a) (by_none f (canonical_tail F a f h))
      ∙ ap (λ x. x.0) (sym (cons_rest F a f h))

  pub remainder_zero : (x : Polynomial F) → remainder x 𝟘 ≡ x
  unfolding remainder polynomials
  remainder_zero x = equal_lists F (remainder x 𝟘) x (by_none x.0 x.1)

  -- only one quotient and one remainder
  module _ (d q r q' r' : Polynomial F) (e : q * d + r ≡ q' * d + r') (l : size F r < size F d) (l' : size F r' < size F d) where
    difference : (q + (- q')) * d ≡ r' + (- r)
    difference = combination (polynomials F) ((q + (- q')) * d) (r' + (- r)) (given 𝟙 e ∷ [])
        (identity (polynomials F) (d ∷ q ∷ r ∷ q' ∷ r' ∷ []) (λ ρ qd qq qr qq' qr'. search quotes depth 16) refl)

    pub division_quotient : q ≡ q'
    division_quotient = combination (polynomials F) q q' (given 𝟙 vanishing ∷ [])
        (identity (polynomials F) (q ∷ q' ∷ []) (λ ρ qq qq'. search quotes depth 16) refl)
      where
        vanishing : q + (- q') ≡ 𝟘
        vanishing = multiple_short (sized F) (q + (- q')) d (omega arith)
            (rw difference (size_sub_less (sized F) (size F d) r' r l' l))

    pub division_remainder : r ≡ r'
    division_remainder = combination (polynomials F) r r' (given 𝟙 e ∷ given (- d) division_quotient ∷ [])
        (identity (polynomials F) (d ∷ q ∷ r ∷ q' ∷ r' ∷ []) (λ ρ qd qq qr qq' qr'. search quotes depth 16) refl)

  module _ (x d q r : Polynomial F) (e : x ≡ q * d + r) (l : size F r < size F d) where
    same : quotient x d * d + remainder x d ≡ q * d + r
    same = sym (division x d (omega arith)) ∙ e

    pub quotient_unique : quotient x d ≡ q
    quotient_unique = division_quotient d (quotient x d) (remainder x d) q r same (size_remainder x d (omega arith)) l

    pub remainder_unique : remainder x d ≡ r
    remainder_unique = division_remainder d (quotient x d) (remainder x d) q r same (size_remainder x d (omega arith)) l

  -- what is shorter than d is its own remainder
  pub remainder_short : (x d : Polynomial F) → size F x < size F d → remainder x d ≡ x
  remainder_short x d l = remainder_unique x d 𝟘 x
      (identity (polynomials F) (x ∷ d ∷ []) (λ ρ qx qd. search quotes depth 16) refl) l

  -- remainders add up: the remainder of a sum is the sum of the remainders
  pub remainder_add : (x y d : Polynomial F) → 0 < size F d → remainder (x + y) d ≡ remainder x d + remainder y d
  remainder_add x y d h =
      remainder_unique (x + y) d (q + q') (r + r') parts
      (omega (
        arith,
        (sized F).size_add (size F d - 1) r r'
            (omega (arith, size_remainder x d h)) (omega (arith, size_remainder y d h)),
      ))
    where
      q : Polynomial F
      q = quotient x d

      q' : Polynomial F
      q' = quotient y d

      r : Polynomial F
      r = remainder x d

      r' : Polynomial F
      r' = remainder y d

      parts : x + y ≡ (q + q') * d + (r + r')
      parts = ap₂ ◌+◌ (division x d h) (division y d h)
          ∙ identity (polynomials F) (d ∷ q ∷ q' ∷ r ∷ r' ∷ []) (λ ρ qd qq qq' qr qr'. search quotes depth 16) refl

  -- a factor may be replaced by its remainder
  pub remainder_factor : (x y d : Polynomial F) → 0 < size F d → remainder (x * y) d ≡ remainder (x * remainder y d) d
  remainder_factor x y d h =
      remainder_unique (x * y) d (x * q + q') r' parts (size_remainder (x * r) d h)
    where
      q : Polynomial F
      q = quotient y d

      r : Polynomial F
      r = remainder y d

      q' : Polynomial F
      q' = quotient (x * r) d

      r' : Polynomial F
      r' = remainder (x * r) d

      parts : x * y ≡ (x * q + q') * d + r'
      parts = combination (polynomials F) (x * y) ((x * q + q') * d + r')
          (given x (division y d h) ∷ given 𝟙 (division (x * r) d h) ∷ [])
          (identity (polynomials F) (x ∷ y ∷ d ∷ q ∷ r ∷ q' ∷ r' ∷ [])
          (λ ρ qx qy qd qq qr qq' qr'. search quotes depth 16) refl)
