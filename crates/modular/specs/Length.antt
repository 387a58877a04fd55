-- How long each operation's result can be, over any operations. Where p is prime `Lists` says it exactly of products, multiples
-- and quotients modulo p.
use Rattle.std.specs.Prelude.{◌≡◌, Bool}
use Rattle.std.proofs.Common.{◌∙◌}
use Rattle.std.proofs.Math.Bool.{true, false}
use mathlib.Core.List.{List, [], ◌∷◌}
use Prim.Native.Nat.{ℕ, zero, suc, ◌+◌, ◌-◌, ◌≤◌, ◌<◌, max}
use native.Mathlib.Omega.{arith}
use Rattle.std.proofs.Math.ListN.{length}
use Rattle.algebra.specs.Operations.{Operations}
use Rattle.algebra.specs.Coefficients.{single, cons, leading, add, negate, subtract, scale, shift}
use Rattle.algebra.specs.Coefficients.{mul, monic, factor, divide, quotient, remainder}

module _ {A : Type 0} (o : Operations A) where
  length_single : (t : Bool) (a : A) → length (single t a) ≤ 1
  unfolding single
  length_single true a = omega arith
  length_single false a = omega arith

  pub length_cons : (a : A) (f : List A) → length (cons o a f) ≤ suc (length f)
  unfolding cons
  length_cons a [] = length_single (o.zero? a) a
  length_cons a (b ∷ f) = omega arith

  length_cons_long : (a : A) (f : List A) → 0 < length f → length (cons o a f) ≡ suc (length f)
  unfolding cons
  length_cons_long a [] h = absurd (omega arith)
  length_cons_long a (b ∷ f) h = omega arith

  pub length_add : (f g : List A) → length (add o f g) ≤ max (length f) (length g)
  unfolding add
  length_add [] g = omega arith
  length_add (a ∷ f) [] = omega arith
  length_add (a ∷ f) (b ∷ g) = omega (arith, length_cons (o.add a b) (add o f g), length_add f g)

  pub length_negate : (f : List A) → length (negate o f) ≤ length f
  unfolding negate
  length_negate [] = omega arith
  length_negate (a ∷ f) = omega (arith, length_cons (o.neg a) (negate o f), length_negate f)

  pub length_subtract : (f g : List A) → length (subtract o f g) ≤ max (length f) (length g)
  unfolding subtract
  length_subtract f g = omega (arith, length_add f (negate o g), length_negate g)

  pub length_scale : (c : A) (f : List A) → length (scale o c f) ≤ length f
  unfolding scale
  length_scale c [] = omega arith
  length_scale c (a ∷ f) = omega (arith, length_cons (o.mul c a) (scale o c f), length_scale c f)

  pub length_shift : (k : ℕ) (f : List A) → length (shift o k f) ≤ k + length f
  unfolding shift
  length_shift zero f = omega arith
  length_shift (suc k) f = omega (arith, length_cons o.zero (shift o k f), length_shift k f)

  pub length_shift_exact : (k : ℕ) (f : List A) → 0 < length f → length (shift o k f) ≡ k + length f
  unfolding shift
  length_shift_exact zero f h = omega arith
  length_shift_exact (suc k) f h =
      let rest : length (shift o k f) ≡ k + length f = length_shift_exact k f h in
      length_cons_long o.zero (shift o k f) (omega arith) ∙ omega arith

  pub length_mul : (f g : List A) → 0 < length g → length (mul o f g) ≤ length f + length g - 1
  unfolding mul
  length_mul [] g h = omega arith
  length_mul (a ∷ f) g h = omega (
    arith,
    length_add (scale o a g) (cons o o.zero (mul o f g)),
    length_scale a g,
    length_cons o.zero (mul o f g),
    length_mul f g h,
  )

  pub length_monic : (f : List A) → length (monic o f) ≤ length f
  unfolding monic
  length_monic f = length_scale (o.inverse (leading o f)) f

  pub length_quotient : (f d : List A) → length (quotient o f d) ≤ length f
  unfolding divide
  length_quotient [] d = omega arith
  length_quotient (a ∷ f) d =
      omega (arith, length_cons (factor o d (cons o a (remainder o f d))) (quotient o f d), length_quotient f d)
