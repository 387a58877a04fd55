-- What is computed with polynomials, as a structure on a type. A bijection that respects it carries every law from one form of
-- polynomials to another: equivalent types are equal, and so are their structures then.
use Rattle.std.specs.Prelude.{◌≡◌, ℕ}
use Rattle.std.proofs.Math.Path.{PathP}
use Rattle.std.proofs.Common.{subst}
use mathlib.Core.HLevel.{is_prop→PathP}
use std.Equiv.{◌≃◌, id_equiv}
use std.Univalence.{equiv_j}
use Rattle.ring.specs.Ring.{Ring}

-- polynomials A with coefficients in K
pub record Arithmetic (K A : Type 0) : Type 1 where
  pub ring : Ring A
  pub size : A → ℕ
  pub constant : K → A
  pub scale : K → A → A
  pub shift : ℕ → A → A
  pub leading : A → K
  pub Monic : A → Type 0
  pub monic : A → A
  pub quotient : A → A → A
  pub remainder : A → A → A
  pub gcd : A → A → A

-- φ takes each operation of S to that of T
pub record Respects {K A B : Type 0} (S : Arithmetic K A) (T : Arithmetic K B) (φ : A → B) : Type 1 where
  pub add : (x y : A) → φ (S.ring.add x y) ≡ T.ring.add (φ x) (φ y)
  pub mul : (x y : A) → φ (S.ring.mul x y) ≡ T.ring.mul (φ x) (φ y)
  pub neg : (x : A) → φ (S.ring.neg x) ≡ T.ring.neg (φ x)
  pub zero : φ S.ring.zero ≡ T.ring.zero
  pub one : φ S.ring.one ≡ T.ring.one
  pub size : (x : A) → S.size x ≡ T.size (φ x)
  pub constant : (c : K) → φ (S.constant c) ≡ T.constant c
  pub scale : (c : K) (x : A) → φ (S.scale c x) ≡ T.scale c (φ x)
  pub shift : (k : ℕ) (x : A) → φ (S.shift k x) ≡ T.shift k (φ x)
  pub leading : (x : A) → S.leading x ≡ T.leading (φ x)
  pub Monic : (x : A) → S.Monic x ≡ T.Monic (φ x)
  pub monic : (x : A) → φ (S.monic x) ≡ T.monic (φ x)
  pub quotient : (x y : A) → φ (S.quotient x y) ≡ T.quotient (φ x) (φ y)
  pub remainder : (x y : A) → φ (S.remainder x y) ≡ T.remainder (φ x) (φ y)
  pub gcd : (x y : A) → φ (S.gcd x y) ≡ T.gcd (φ x) (φ y)

module _ {A : Type 0} (set : IsSet A) where
  -- equations between equal sides are equal
  along : {x x' y y' : A} (l : x ≡ x') (r : y ≡ y') (e : x ≡ y) (e' : x' ≡ y') → PathP (λ i. l i ≡ r i) e e'
  along l r e e' = is_prop→PathP (λ i. l i ≡ r i) (λ i. set (l i) (r i)) e e'

  equal_rings : (R S : Ring A) → ((x y : A) → R.add x y ≡ S.add x y) → ((x y : A) → R.mul x y ≡ S.mul x y)
      → ((x : A) → R.neg x ≡ S.neg x) → R.zero ≡ S.zero → R.one ≡ S.one → R ≡ S
  equal_rings R S add mul neg zero one = λ i. record {
    add = λ x y. add x y i;
    mul = λ x y. mul x y i;
    neg = λ x. neg x i;
    zero = zero i;
    one = one i;
    add_comm = λ x y. along (λ j. add x y j) (λ j. add y x j) (R.add_comm x y) (S.add_comm x y) i;
    add_assoc = λ x y z. along (λ j. add (add x y j) z j) (λ j. add x (add y z j) j) (R.add_assoc x y z) (S.add_assoc x y z) i;
    add_zero = λ x. along (λ j. add x (zero j) j) (λ j. x) (R.add_zero x) (S.add_zero x) i;
    add_neg = λ x. along (λ j. add x (neg x j) j) (λ j. zero j) (R.add_neg x) (S.add_neg x) i;
    mul_comm = λ x y. along (λ j. mul x y j) (λ j. mul y x j) (R.mul_comm x y) (S.mul_comm x y) i;
    mul_assoc = λ x y z. along (λ j. mul (mul x y j) z j) (λ j. mul x (mul y z j) j) (R.mul_assoc x y z) (S.mul_assoc x y z) i;
    mul_one = λ x. along (λ j. mul x (one j) j) (λ j. x) (R.mul_one x) (S.mul_one x) i;
    mul_add = λ x y z.
        along (λ j. mul x (add y z j) j) (λ j. add (mul x y j) (mul x z j) j) (R.mul_add x y z) (S.mul_add x y z) i;
  }

  equal_arithmetic : {K : Type 0} (S T : Arithmetic K A) → Respects S T (λ x. x) → S ≡ T
  equal_arithmetic S T h = λ i. record {
    ring = equal_rings S.ring T.ring h.add h.mul h.neg h.zero h.one i;
    size = λ x. h.size x i;
    constant = λ c. h.constant c i;
    scale = λ c x. h.scale c x i;
    shift = λ k x. h.shift k x i;
    leading = λ x. h.leading x i;
    Monic = λ x. h.Monic x i;
    monic = λ x. h.monic x i;
    quotient = λ x y. h.quotient x y i;
    remainder = λ x y. h.remainder x y i;
    gcd = λ x y. h.gcd x y i;
  }

-- what holds of one holds of the other
pub carry : {K A B : Type 0} (e : A ≃ B) → IsSet B → (S : Arithmetic K A) (T : Arithmetic K B) → Respects S T e.0
    → (L : (X : Type 0) → Arithmetic K X → Type 0) → L A S → L B T
unfolding id_equiv
carry {K} {A} {B} e set S T h L = equiv_j
    (λ X f. (S : Arithmetic K X) → Respects S T f.0 → L X S → L B T)
    (λ S h. subst (L B) (equal_arithmetic set S T h)) e S h
