-- A product is its rows c·x^k·g added up; those behind the last coefficient are zero. And sums of polynomials modulo any p.
use mathlib.Core.Path.{◌≡◌, refl, sym, ap, ap₂, ◌∙◌}
use mathlib.Core.List.{List, [], ◌∷◌}
use Prim.Native.Nat.{ℕ, zero, suc, ◌+◌, ◌-◌, ◌%◌, ◌≤◌, ◌<◌}
use native.Mathlib.Nat.{zero-mod, zero-mul, mod-add-mod, add-mod-mod}
use native.Mathlib.Omega.{arith}
use lib.ListN.{length}
use Rattle.algebra.specs.Coefficients.{cons, coefficient, add, scale, shift, mul}
use Rattle.modular.specs.Modulo.{modulo}
use Rattle.modular.specs.Canonical.{Canonical}
use Rattle.modular.specs.Remainder.{mod_mul_mod}
use Rattle.modular.specs.Closed.{canonical_add, canonical_scale}
use Rattle.modular.specs.Coefficientwise.{coefficient_beyond, coefficient_add, coefficient_scale, canonical_same}
use Rattle.modular.specs.Product.{rows, mul_rows}

pub add_nil : (p : ℕ) (f : List ℕ) → add (modulo p) f [] ≡ f
unfolding add
add_nil p [] = refl
add_nil p (a ∷ f) = refl

pub shift_nil : (p k : ℕ) → shift (modulo p) k [] ≡ []
unfolding modulo shift cons
shift_nil p zero = refl
shift_nil p (suc k) = ap (λ (f : List ℕ). cons (modulo p) 0 f) (shift_nil p k)

pub scale_zero : (p : ℕ) (f : List ℕ) → scale (modulo p) 0 f ≡ []
unfolding modulo scale cons
scale_zero p [] = refl
scale_zero p (a ∷ f) = ap₂ (cons (modulo p)) (ap (λ (x : ℕ). x % p) (zero-mul a) ∙ zero-mod p) (scale_zero p f)

rows_behind : (p : ℕ) (f g : List ℕ) (j : ℕ) → rows p f g (j + length f) ≡ rows p f g (length f)
unfolding rows
rows_behind p f g zero =
    let e : 0 + length f ≡ length f = omega arith in ap (rows p f g) e
rows_behind p f g (suc j) =
    let e : suc j + length f ≡ suc (j + length f) = omega arith in
    let none : coefficient (modulo p) f (j + length f) ≡ 0 = coefficient_beyond p f (j + length f) (omega arith) in
    ap (rows p f g) e
    ∙ ap (λ (c : ℕ). add (modulo p) (rows p f g (j + length f)) (shift (modulo p) (j + length f) (scale (modulo p) c g))) none
    ∙ ap (λ (h : List ℕ). add (modulo p) (rows p f g (j + length f)) (shift (modulo p) (j + length f) h)) (scale_zero p g)
    ∙ ap (λ (h : List ℕ). add (modulo p) (rows p f g (j + length f)) h) (shift_nil p (j + length f))
    ∙ add_nil p (rows p f g (j + length f))
    ∙ rows_behind p f g j

module _ (p : ℕ) (positive : 0 < p) where
  pub rows_mul : (f g : List ℕ) (n : ℕ) → length f ≤ n → rows p f g n ≡ mul (modulo p) f g
  rows_mul f g n le =
      let e : n ≡ n - length f + length f = omega arith in
      ap (rows p f g) e ∙ rows_behind p f g (n - length f) ∙ sym (mul_rows p positive f g)

  pub scale_mod : (c : ℕ) (f : List ℕ) → scale (modulo p) c f ≡ scale (modulo p) (c % p) f
  scale_mod c f =
      canonical_same
      p
      (scale (modulo p) c f)
      (scale (modulo p) (c % p) f)
      (canonical_scale p positive c f)
      (canonical_scale p positive (c % p) f)
      (λ n. coefficient_scale p c f n ∙ sym (coefficient_scale p (c % p) f n ∙ mod_mul_mod c (coefficient (modulo p) f n) p))

  sum : (x y z : ℕ) → ((x + y) % p + z) % p ≡ (x + (y + z) % p) % p
  sum x y z =
      let e : x + y + z ≡ x + (y + z) = omega arith in
      mod-add-mod (x + y) p z ∙ ap (λ (t : ℕ). t % p) e ∙ sym (add-mod-mod x (y + z) p)

  pub add_assoc : (f g h : List ℕ) → Canonical p f → Canonical p g → Canonical p h →
      add (modulo p) (add (modulo p) f g) h ≡ add (modulo p) f (add (modulo p) g h)
  add_assoc f g h hf hg hh =
      let fg = canonical_add p positive f g hf hg in
      let gh = canonical_add p positive g h hg hh in
      canonical_same
      p
      (add (modulo p) (add (modulo p) f g) h)
      (add (modulo p) f (add (modulo p) g h))
      (canonical_add p positive (add (modulo p) f g) h fg hh)
      (canonical_add p positive f (add (modulo p) g h) hf gh)
      (λ n.
      coefficient_add p positive (add (modulo p) f g) h n fg hh
      ∙ ap (λ (x : ℕ). (x + coefficient (modulo p) h n) % p) (coefficient_add p positive f g n hf hg)
      ∙ sum (coefficient (modulo p) f n) (coefficient (modulo p) g n) (coefficient (modulo p) h n)
      ∙ sym
      (coefficient_add p positive f (add (modulo p) g h) n hf gh
      ∙ ap (λ (x : ℕ). (coefficient (modulo p) f n + x) % p) (coefficient_add p positive g h n hg hh)))
