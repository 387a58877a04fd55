-- What each operation modulo a positive p gives is canonical again. (That p is prime is not needed here nor in `Coefficientwise`
-- and `Product`, so that arithmetic on words can cite them for any p.)
use Rattle.std.specs.Prelude.{◌≡◌, Bool, eqb, length}
use Rattle.std.proofs.Math.Path.{refl}
use Rattle.std.proofs.Math.Bool.{true, false}
use mathlib.Core.List.{List, [], ◌∷◌}
use Prim.Native.Nat.{ℕ, zero, suc, ◌+◌, ◌-◌, ◌*◌, ◌%◌, ◌<◌}
use Rattle.std.proofs.Common.{mod-lt}
use native.Mathlib.Omega.{arith}
use borrow.Author.Tests.{eqb-false}
use Rattle.algebra.specs.Operations.{Operations}
use Rattle.algebra.specs.Coefficients.{single, cons, constant, one, coefficient, leading, add, negate, subtract, scale, shift}
use Rattle.algebra.specs.Coefficients.{mul, monic, divide, quotient, remainder, euclid, gcd}
use Rattle.modular.specs.Modulo.{modulo}
use Rattle.modular.specs.Canonical.{Canonical, LastNonzero}

module _ (p : ℕ) where
  abbrev o : Operations ℕ
  o = modulo p

  pub canonical_nil : Canonical p []
  unfolding Canonical
  canonical_nil = tt

  pub canonical_head : (a : ℕ) (f : List ℕ) → Canonical p (a ∷ f) → a < p
  unfolding Canonical
  canonical_head a f h = h.0

  pub canonical_tail : (a : ℕ) (f : List ℕ) → Canonical p (a ∷ f) → Canonical p f
  unfolding Canonical
  canonical_tail a f h = h.2

  canonical_single : (a : ℕ) (t : Bool) → eqb a 0 ≡ t → a < p → Canonical p (single t a)
  unfolding single Canonical
  canonical_single a true e h = tt
  canonical_single a false e h = let z : ¬ (a ≡ 0) = eqb-false a 0 e in (h, omega arith, tt)

  pub canonical_cons : (a : ℕ) (f : List ℕ) → a < p → Canonical p f → Canonical p (cons o a f)
  unfolding modulo cons Canonical LastNonzero
  canonical_cons a [] h hf = canonical_single a (eqb a 0) refl h
  canonical_cons a (b ∷ f) h hf = (h, tt, hf)

  pub canonical_constant : (a : ℕ) → a < p → Canonical p (constant o a)
  unfolding constant
  canonical_constant a h = canonical_cons a [] h canonical_nil

  pub canonical_one : 1 < p → Canonical p (one o)
  unfolding modulo one
  canonical_one large = canonical_constant 1 large

  module _ (positive : 0 < p) where
    pub canonical_add : (f g : List ℕ) → Canonical p f → Canonical p g → Canonical p (add o f g)
    unfolding modulo add
    canonical_add [] g hf hg = hg
    canonical_add (a ∷ f) [] hf hg = hf
    canonical_add (a ∷ f) (b ∷ g) hf hg =
        canonical_cons ((a + b) % p) (add o f g) (mod-lt (a + b) positive)
        (canonical_add f g (canonical_tail a f hf) (canonical_tail b g hg))

    pub canonical_negate : (f : List ℕ) → Canonical p (negate o f)
    unfolding modulo negate
    canonical_negate [] = canonical_nil
    canonical_negate (a ∷ f) = canonical_cons ((p - a) % p) (negate o f) (mod-lt (p - a) positive) (canonical_negate f)

    pub canonical_subtract : (f g : List ℕ) → Canonical p f → Canonical p (subtract o f g)
    unfolding subtract
    canonical_subtract f g hf = canonical_add f (negate o g) hf (canonical_negate g)

    pub canonical_scale : (c : ℕ) (f : List ℕ) → Canonical p (scale o c f)
    unfolding modulo scale
    canonical_scale c [] = canonical_nil
    canonical_scale c (a ∷ f) = canonical_cons (c * a % p) (scale o c f) (mod-lt (c * a) positive) (canonical_scale c f)

    pub canonical_shift : (k : ℕ) (f : List ℕ) → Canonical p f → Canonical p (shift o k f)
    unfolding modulo shift
    canonical_shift zero f hf = hf
    canonical_shift (suc k) f hf = canonical_cons 0 (shift o k f) positive (canonical_shift k f hf)

    -- c·x^k·f
    pub canonical_multiple : (k c : ℕ) (f : List ℕ) → Canonical p (shift o k (scale o c f))
    canonical_multiple k c f = canonical_shift k (scale o c f) (canonical_scale c f)

    pub canonical_mul : (f g : List ℕ) → Canonical p (mul o f g)
    unfolding modulo mul
    canonical_mul [] g = canonical_nil
    canonical_mul (a ∷ f) g =
        canonical_add (scale o a g) (cons o 0 (mul o f g)) (canonical_scale a g)
        (canonical_cons 0 (mul o f g) positive (canonical_mul f g))

    pub canonical_monic : (f : List ℕ) → Canonical p (monic o f)
    unfolding monic
    canonical_monic f = canonical_scale (o.inverse (leading o f)) f

    pub canonical_divide : (f d : List ℕ) → Canonical p f → Canonical p (quotient o f d) × Canonical p (remainder o f d)
    unfolding modulo divide
    canonical_divide [] d hf = (canonical_nil, canonical_nil)
    canonical_divide (a ∷ f) d hf =
        let before = canonical_divide f d (canonical_tail a f hf) in
        let r = cons o a (remainder o f d) in
        let c = coefficient o r (length d - 1) * o.inverse (leading o d) in (
          canonical_cons (c % p) (quotient o f d) (mod-lt c positive) before.0,
          canonical_subtract r (scale o (c % p) d) (canonical_cons a (remainder o f d) (canonical_head a f hf) before.1),
        )

    pub canonical_quotient : (f d : List ℕ) → Canonical p f → Canonical p (quotient o f d)
    canonical_quotient f d hf = (canonical_divide f d hf).0

    pub canonical_remainder : (f d : List ℕ) → Canonical p f → Canonical p (remainder o f d)
    canonical_remainder f d hf = (canonical_divide f d hf).1

    pub canonical_euclid : (k : ℕ) (f g : List ℕ) → Canonical p f → Canonical p g → Canonical p (euclid o k f g)
    unfolding euclid
    canonical_euclid zero f g hf hg = hf
    canonical_euclid (suc k) f [] hf hg = hf
    canonical_euclid (suc k) f (b ∷ g) hf hg =
        canonical_euclid k (b ∷ g) (remainder o f (b ∷ g)) hg (canonical_remainder f (b ∷ g) hf)

    pub canonical_gcd : (f g : List ℕ) → Canonical p (gcd o f g)
    unfolding gcd
    canonical_gcd f g = canonical_monic (euclid o (length g) f g)
