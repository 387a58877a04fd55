-- Greatest common divisors in a commutative ring, with Bézout's multipliers, and the two moves of Euclid's algorithm.
use Rattle.std.specs.Prelude.{◌≡◌, refl, [], ◌∷◌}
use Rattle.std.proofs.Common.{sym, ◌∙◌, ap}
use Rattle.ring.specs.Ring.{Ring}
use Rattle.ring.specs.Identity.{quotes, identity}
use Rattle.ring.specs.Combination.{given, combination}
use Rattle.algebra.specs.Divides.{Divides, divides_refl, divides_zero, divides_equal}
use Rattle.algebra.specs.Divides.{divides_trans, divides_add, divides_mul, divides_combination}

-- g divides x and y, and is s·x + t·y
pub record Greatest {A : Type 0} (R : Ring A) (x y g : A) : Type 0 where
  pub left : Divides R g x
  pub right : Divides R g y
  pub s : A
  pub t : A
  pub bezout : g ≡ R.add (R.mul s x) (R.mul t y)

module _ {A : Type 0} {R : Ring A} where
  open R use {add as ◌+◌, mul as ◌*◌, neg as -◌, zero as 𝟘, one as 𝟙}

  infixl 65 ◌+◌
  infixl 70 ◌*◌
  infix 75 -◌
  pub greatest_divides : {x y g d : A} → Greatest R x y g → Divides R d x → Divides R d y → Divides R d g
  greatest_divides w h k = divides_equal (sym w.bezout) (divides_combination w.s w.t h k)

  -- x and 0
  pub greatest_zero : (x : A) → Greatest R x 𝟘 x
  greatest_zero x = record {
    left = divides_refl x;
    right = divides_zero x;
    s = 𝟙;
    t = 𝟘;
    bezout = identity R (x ∷ []) (λ ρ qx. search quotes depth 16) refl;
  }

  -- from y and the remainder r of x by y to x and y
  pub greatest_step : {x y r g : A} (q : A) → x ≡ q * y + r → Greatest R y r g → Greatest R x y g
  greatest_step {x} {y} {r} {g} q e w = record {
    left = divides_equal (sym e) (divides_add (divides_mul q w.left) w.right);
    right = w.left;
    s = w.t;
    t = w.s + (- (w.t * q));
    bezout = combination R g (w.t * x + (w.s + (- (w.t * q))) * y) (given 𝟙 w.bezout ∷ given (- w.t) e ∷ [])
        (identity R (w.s ∷ w.t ∷ q ∷ r ∷ x ∷ y ∷ g ∷ []) (λ ρ qs qt qq qr qx qy qg. search quotes depth 16) refl);
  }

  -- an associate of g
  pub greatest_associate : {x y g h : A} → Divides R g h → Divides R h g → Greatest R x y g → Greatest R x y h
  greatest_associate {x} {y} {g} {h} up down w = record {
    left = divides_trans down w.left;
    right = divides_trans down w.right;
    s = up.cofactor * w.s;
    t = up.cofactor * w.t;
    bezout = up.product ∙ ap (λ z. up.cofactor * z) w.bezout
        ∙ identity R (up.cofactor ∷ w.s ∷ w.t ∷ x ∷ y ∷ []) (λ ρ qc qs qt qx qy. search quotes depth 16) refl;
  }

  pub greatest_comm : {x y g : A} → Greatest R x y g → Greatest R y x g
  greatest_comm {x} {y} w = record {
    left = w.right;
    right = w.left;
    s = w.t;
    t = w.s;
    bezout = w.bezout ∙ R.add_comm (w.s * x) (w.t * y);
  }

  -- Euclid's lemma: d divides c·s and a combination of d and s is one
  pub bezout_divides : {d s : A} (c : A) → Greatest R d s 𝟙 → Divides R d (c * s) → Divides R d c
  bezout_divides {d} {s} c w h = record {
    cofactor = c * w.s + w.t * h.cofactor;
    product = combination R c ((c * w.s + w.t * h.cofactor) * d) (given c w.bezout ∷ given w.t h.product ∷ [])
        (identity R (c ∷ w.s ∷ w.t ∷ h.cofactor ∷ d ∷ s ∷ []) (λ ρ qc qs qt qh qd qe. search quotes depth 16) refl);
  }
