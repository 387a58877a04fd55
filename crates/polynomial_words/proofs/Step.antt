-- One step of the definition of division: what it computes with, where nothing is left to divide, and that taking c·d off is
-- adding (p - c)·d.
use mathlib.Core.Path.{◌≡◌, refl, sym, ap, ap₂, ◌∙◌}
use mathlib.Core.Bool.{Bool}
use mathlib.Core.List.{List, [], ◌∷◌}
use Prim.Native.Nat.{ℕ, ◌+◌, ◌-◌, ◌*◌, ◌/◌, ◌%◌, ◌≤◌, ◌<◌}
use native.Mathlib.Nat.{zero-mod, zero-mul, mod-lt, add-mod-mod, add-mul, mul_comm, add-mul-mod_self_right, div-add-mod'}
use native.Mathlib.Omega.{arith}
use lib.ListN.{length}
use borrow.Author.Tests.{ne_eqb}
use Rattle.algebra.specs.Coefficients.{Division, single, cons, coefficient, leading, add, negate, subtract, scale, shift}
use Rattle.algebra.specs.Coefficients.{factor, extend_division, divide}
use Rattle.modular.specs.Modulo.{modulo}
use Rattle.modular.specs.Canonical.{Canonical}
use Rattle.modular.specs.Closed.{canonical_tail, canonical_add, canonical_scale, canonical_subtract}
use Rattle.modular.specs.Coefficientwise.{coefficient_beyond, coefficient_add, coefficient_subtract, coefficient_scale}
use Rattle.modular.specs.Coefficientwise.{canonical_same}
use Rattle.polynomial_words.proofs.Rows.{add_nil, scale_zero}

-- a step, where it is known what it computes with: the remainder r to go on with, and its factor c
pub extend_is : (p : ℕ) (d : List ℕ) (a : ℕ) (w : Division ℕ) (r : List ℕ) (c : ℕ) →
    cons (modulo p) a w.remainder ≡ r → factor (modulo p) d r ≡ c →
    extend_division (modulo p) d a w
    ≡ record { quotient = cons (modulo p) c w.quotient; remainder = subtract (modulo p) r (scale (modulo p) c d) }
unfolding extend_division
extend_is p d a w r c er ec =
    let first : factor (modulo p) d (cons (modulo p) a w.remainder) ≡ c = ap (factor (modulo p) d) er ∙ ec in
    let made : ℕ → List ℕ → Division ℕ =
    λ x t. record { quotient = cons (modulo p) x w.quotient; remainder = subtract (modulo p) t (scale (modulo p) x d) } in
    ap₂ made first er

cons_canonical : (p a : ℕ) (f : List ℕ) → Canonical p (a ∷ f) → cons (modulo p) a f ≡ a ∷ f
unfolding modulo cons single Canonical
cons_canonical p a [] h = let some : 0 < a = h.1 in ap (λ (t : Bool). single t a) (ne_eqb a 0 (λ e. omega arith))
cons_canonical p a (b ∷ f) h = refl

subtract_nothing : (p : ℕ) (f d : List ℕ) → subtract (modulo p) f (scale (modulo p) 0 d) ≡ f
unfolding subtract negate
subtract_nothing p f d = ap (λ (g : List ℕ). add (modulo p) f (negate (modulo p) g)) (scale_zero p d) ∙ add_nil p f

-- fewer coefficients than the divisor has
pub divide_short : (p : ℕ) (f d : List ℕ) → Canonical p f → length f < length d →
    divide (modulo p) f d ≡ record { quotient = []; remainder = f }
unfolding modulo divide
divide_short p [] d h short = refl
divide_short p (a ∷ f) d h short =
    let none : coefficient (modulo p) (a ∷ f) (length d - 1) ≡ 0 = coefficient_beyond p (a ∷ f) (length d - 1) (omega arith) in
    let factor_zero : factor (modulo p) d (a ∷ f) ≡ 0 =
    ap (λ (x : ℕ). x * (modulo p).inverse (leading (modulo p) d) % p) none ∙ ap (λ (x : ℕ). x % p) (zero-mul _) ∙ zero-mod p in
    ap (extend_division (modulo p) d a) (divide_short p f d (canonical_tail p a f h) (omega arith))
    ∙ extend_is p d a (record { quotient = []; remainder = f }) (a ∷ f) 0 (cons_canonical p a f h) factor_zero
    ∙ ap (λ (g : List ℕ). record { quotient = []; remainder = g }) (subtract_nothing p (a ∷ f) d)

-- x·f, where f is short: one step
pub remainder_shift : (p : ℕ) (f d : List ℕ) → Canonical p f → length f < length d →
    (divide (modulo p) (shift (modulo p) 1 f) d).remainder
    ≡ subtract (modulo p) (shift (modulo p) 1 f) (scale (modulo p) (factor (modulo p) d (shift (modulo p) 1 f)) d)
unfolding modulo divide shift cons single
remainder_shift p [] d h short =
    let none : factor (modulo p) d [] ≡ 0 =
    ap (λ (x : ℕ). x * (modulo p).inverse (leading (modulo p) d) % p) (coefficient_beyond p [] (length d - 1) (omega arith))
    ∙ ap (λ (x : ℕ). x % p) (zero-mul _) ∙ zero-mod p in
    sym (ap (λ (c : ℕ). subtract (modulo p) [] (scale (modulo p) c d)) none ∙ subtract_nothing p [] d)
remainder_shift p (a ∷ f) d h short =
    let rest : Division ℕ = record { quotient = []; remainder = a ∷ f } in
    ap (λ (w : Division ℕ). (extend_division (modulo p) d 0 w).remainder) (divide_short p (a ∷ f) d h short)
    ∙ ap (λ (w : Division ℕ). w.remainder) (extend_is p d 0 rest (0 ∷ a ∷ f) _ refl refl)

module _ (p : ℕ) (positive : 0 < p) where
  -- (p - c)·x is -(c·x)
  opposite : (r c x : ℕ) → c ≤ p → (r + (p - c) * x % p) % p ≡ (r + (p - c * x % p)) % p
  opposite r c x le =
      let y = c * x % p in
      let t = c * x / p in
      let less : y < p = mod-lt (c * x) positive in
      let back : p - c + c ≡ p = omega arith in
      let all : r + (p - c) * x + (t + 1) * p ≡ r + (p - y) + x * p =
      omega (
        arith,
        add-mul (p - c) c x,
        ap (λ (k : ℕ). k * x) back,
        div-add-mod' (c * x) p,
        add-mul t 1 p,
        mul_comm p x,
      ) in
      add-mod-mod r ((p - c) * x) p
      ∙ sym (add-mul-mod_self_right (r + (p - c) * x) (t + 1) p)
      ∙ ap (λ (k : ℕ). k % p) all
      ∙ add-mul-mod_self_right (r + (p - y)) x p

  pub subtract_multiple : (r d : List ℕ) (c : ℕ) → c ≤ p → Canonical p r →
      add (modulo p) r (scale (modulo p) (p - c) d) ≡ subtract (modulo p) r (scale (modulo p) c d)
  subtract_multiple r d c le hr =
      let plus = canonical_scale p positive (p - c) d in
      let minus = canonical_scale p positive c d in
      canonical_same
      p
      (add (modulo p) r (scale (modulo p) (p - c) d))
      (subtract (modulo p) r (scale (modulo p) c d))
      (canonical_add p positive r _ hr plus)
      (canonical_subtract p positive r _ hr)
      (λ n.
      coefficient_add p positive r (scale (modulo p) (p - c) d) n hr plus
      ∙ ap (λ (x : ℕ). (coefficient (modulo p) r n + x) % p) (coefficient_scale p (p - c) d n)
      ∙ opposite (coefficient (modulo p) r n) c (coefficient (modulo p) d n) le
      ∙ sym
      (coefficient_subtract p positive r (scale (modulo p) c d) n hr minus
      ∙ ap (λ (x : ℕ). (coefficient (modulo p) r n + (p - x)) % p) (coefficient_scale p c d n)))
