-- A ring solver by reflection: expressions, a Horner normal form with integer coefficients, soundness.
use Prim.Native.Nat.{ℕ, zero, suc, ◌-◌}
use Rattle.std.specs.Prelude.{◌+◌ as ◌+ₙ◌, ◌*◌ as ◌*ₙ◌, ◌≡◌}
use Rattle.std.proofs.Math.Path.{refl, sym, ap, ap₂}
use Rattle.std.proofs.Common.{◌∙◌, arith}
use mathlib.Core.List.{List, [], ◌∷◌}
use Rattle.std.proofs.Math.Nat.{add-suc, mul-suc, add-zero as addₙ-zero, mul-zero as mulₙ-zero}
use Rattle.ring.specs.Ring.{Ring, zero_add, neg_add, add_mul, add_left_comm, mul_left_comm, add_add_add_comm, add_cancel}
use Rattle.ring.specs.Ring.{mul_zero, zero_mul, neg_neg, neg_zero, neg_add_distrib, mul_neg, neg_mul}

infixl 65 ◌:+◌
infixl 65 ◌:-◌
infixl 70 ◌:*◌
infix 75 :-◌
-- ---- expressions
pub data Ex : Type 0 where
  v : ℕ → Ex
  :0 : Ex
  :1 : Ex
  ◌:+◌ : Ex → Ex → Ex
  ◌:*◌ : Ex → Ex → Ex
  ◌:-◌ : Ex → Ex → Ex
  :-◌ : Ex → Ex

-- ---- normal forms: the integer p - n, or p + x·q with p over the variables after x and q over x and those after it
pub data H : Type 0 where
  k : ℕ → ℕ → H
  h : H → H → H

-- a horner node that is constant is a constant
abbrev pub hh : H → H → H
hh (k a b) (k zero zero) = k a b
hh (k a b) (k zero (suc d)) = h (k a b) (k zero (suc d))
hh (k a b) (k (suc c) d) = h (k a b) (k (suc c) d)
hh (k a b) (h c d) = h (k a b) (h c d)
hh (h a b) c = h (h a b) c

abbrev pub kk : ℕ → ℕ → H
kk a b = k (a - b) (b - a)

abbrev pub addk : ℕ → ℕ → H → H
addk a b (k c d) = kk (a +ₙ c) (b +ₙ d)
addk a b (h p q) = hh (addk a b p) q

-- with a way past the zeros, which are most of what a sparse sum meets
abbrev pub add_K : ℕ → ℕ → H → H
add_K zero zero q = q
add_K zero (suc b) q = addk zero (suc b) q
add_K (suc a) b q = addk (suc a) b q

abbrev pub add_H : H → H → H
add_H (k a b) q = add_K a b q
add_H (h p q) (k a b) = add_K a b (h p q)
add_H (h p q) (h r s) = hh (add_H p r) (add_H q s)

abbrev pub mulk : ℕ → ℕ → H → H
mulk a b (k c d) = kk (a *ₙ c +ₙ b *ₙ d) (a *ₙ d +ₙ b *ₙ c)
mulk a b (h p q) = hh (mulk a b p) (mulk a b q)

abbrev pub mul_K : ℕ → ℕ → H → H
mul_K zero zero q = k 0 0
mul_K zero (suc b) q = mulk zero (suc b) q
mul_K (suc a) b q = mulk (suc a) b q

abbrev pub map_H : (H → H) → H → H
map_H f (k a b) = hh (f (k a b)) (k 0 0)
map_H f (h p q) = hh (f p) (map_H f q)

abbrev pub mul_H : H → H → H
mul_H (k a b) r = mul_K a b r
mul_H (h p q) r = add_H (map_H (λ s. mul_H p s) r) (hh (k 0 0) (mul_H q r))

abbrev pub neg_H : H → H
neg_H (k a b) = k b a
neg_H (h p q) = h (neg_H p) (neg_H q)

abbrev pub var_H : ℕ → H
var_H zero = h (k 0 0) (k 1 0)
var_H (suc i) = h (var_H i) (k 0 0)

abbrev pub norm : Ex → H
norm (v i) = var_H i
norm :0 = k 0 0
norm :1 = k 1 0
norm (a :+ b) = add_H (norm a) (norm b)
norm (a :* b) = mul_H (norm a) (norm b)
norm (a :- b) = add_H (norm a) (neg_H (norm b))
norm (:- a) = neg_H (norm a)

module _ {A : Type 0} (R : Ring A) where
  open R use {
    add as ◌+◌,
    mul as ◌*◌,
    neg as -◌,
    zero as 𝟘,
    one as 𝟙,
    add_comm,
    add_assoc,
    add_zero,
    add_neg,
    mul_comm,
    mul_assoc,
    mul_one,
    mul_add,
  }

  infixl 65 ◌+◌
  infixl 70 ◌*◌
  infix 75 -◌
  abbrev pub hd : List A → A
  hd [] = 𝟘
  hd (x ∷ ρ) = x

  abbrev pub tl : List A → List A
  tl [] = []
  tl (x ∷ ρ) = ρ

  abbrev pub at : List A → ℕ → A
  at [] i = 𝟘
  at (x ∷ ρ) zero = x
  at (x ∷ ρ) (suc i) = at ρ i

  abbrev pub ev : List A → Ex → A
  ev ρ (v i) = at ρ i
  ev ρ :0 = 𝟘
  ev ρ :1 = 𝟙
  ev ρ (a :+ b) = ev ρ a + ev ρ b
  ev ρ (a :* b) = ev ρ a * ev ρ b
  ev ρ (a :- b) = ev ρ a + (- ev ρ b)
  ev ρ (:- a) = - ev ρ a

  nat : ℕ → A
  nat zero = 𝟘
  nat (suc n) = nat n + 𝟙

  int : ℕ → ℕ → A
  int a b = nat a + (- nat b)

  ev_H : H → List A → A
  ev_H (k a b) ρ = int a b
  ev_H (h p q) ρ = ev_H p (tl ρ) + hd ρ * ev_H q ρ

  nat_add : (m n : ℕ) → nat (m +ₙ n) ≡ nat m + nat n
  unfolding nat
  nat_add m zero = rw addₙ-zero (sym (add_zero (nat m)))
  nat_add m (suc n) = rw add-suc (ap (λ x. x + 𝟙) (nat_add m n) ∙ add_assoc (nat m) (nat n) 𝟙)

  nat_mul : (m n : ℕ) → nat (m *ₙ n) ≡ nat m * nat n
  unfolding nat
  nat_mul m zero = rw mulₙ-zero (sym (mul_zero R (nat m)))
  nat_mul m (suc n) = rw mul-suc (nat_add (m *ₙ n) m ∙ ap₂ ◌+◌ (nat_mul m n) (sym (mul_one (nat m)))
      ∙ sym (mul_add (nat m) (nat n) 𝟙))

  neg_add_cancel : (b d : A) → (- b) + (b + d) ≡ d
  neg_add_cancel b d = sym (add_assoc (- b) b d) ∙ ap (λ x. x + d) (neg_add R b) ∙ zero_add R d

  -- a - b = c - d where a + d = c + b
  cross : (a b c d : A) → a + d ≡ c + b → a + (- b) ≡ c + (- d)
  cross a b c d e = add_cancel R (a + (- b)) (c + (- d)) (b + d) (left ∙ e ∙ sym right)
    where
      left : (a + (- b)) + (b + d) ≡ a + d
      left = add_assoc a (- b) (b + d) ∙ ap (λ x. a + x) (neg_add_cancel b d)

      right : (c + (- d)) + (b + d) ≡ c + b
      right = add_assoc c (- d) (b + d) ∙ ap (λ x. c + ((- d) + x)) (add_comm b d) ∙ ap (λ x. c + x) (neg_add_cancel d b)

  kk_ok : (a b : ℕ) → int (a - b) (b - a) ≡ int a b
  unfolding int
  kk_ok a b = cross (nat (a - b)) (nat (b - a)) (nat a) (nat b) (sym (nat_add (a - b) b) ∙ ap nat (omega arith) ∙ nat_add a (b - a))

  int_zero : int 0 0 ≡ 𝟘
  unfolding int nat
  int_zero = add_neg 𝟘

  int_one : int 1 0 ≡ 𝟙
  unfolding int nat
  int_one = ap₂ ◌+◌ (zero_add R 𝟙) (neg_zero R) ∙ add_zero 𝟙

  int_add : (a b c d : ℕ) → int (a +ₙ c) (b +ₙ d) ≡ int a b + int c d
  unfolding int
  int_add a b c d = ap₂ (λ x y. x + (- y)) (nat_add a c) (nat_add b d)
      ∙ ap (λ x. nat a + nat c + x) (neg_add_distrib R (nat b) (nat d)) ∙ add_add_add_comm R (nat a) (nat c) (- nat b) (- nat d)

  int_neg : (a b : ℕ) → int b a ≡ - int a b
  unfolding int
  int_neg a b = sym (neg_add_distrib R (nat a) (- nat b) ∙ ap (λ x. (- nat a) + x) (neg_neg R (nat b)) ∙ add_comm (- nat a) (nat b))

  foil : (a b c d : A) → (a * c + b * d) + (- (a * d + b * c)) ≡ (a + (- b)) * (c + (- d))
  foil a b c d = simp (mul_add, add_mul R, neg_mul R, mul_neg R, neg_neg R, neg_add_distrib R, add_assoc, add_comm, add_left_comm R)

  int_mul : (a b c d : ℕ) → int (a *ₙ c +ₙ b *ₙ d) (a *ₙ d +ₙ b *ₙ c) ≡ int a b * int c d
  unfolding int
  int_mul a b c d = ap₂ (λ x y. x + (- y)) (two a c b d) (two a d b c) ∙ foil (nat a) (nat b) (nat c) (nat d)
    where
      two : (x y z w : ℕ) → nat (x *ₙ y +ₙ z *ₙ w) ≡ nat x * nat y + nat z * nat w
      two x y z w = nat_add (x *ₙ y) (z *ₙ w) ∙ ap₂ ◌+◌ (nat_mul x y) (nat_mul z w)

  add_mul_zero : (a x z : A) → z ≡ 𝟘 → a + x * z ≡ a
  add_mul_zero a x z e = ap (λ y. a + x * y) e ∙ ap (λ y. a + y) (mul_zero R x) ∙ add_zero a

  hh_ok : (p q : H) (ρ : List A) → ev_H (hh p q) ρ ≡ ev_H p (tl ρ) + hd ρ * ev_H q ρ
  unfolding ev_H
  hh_ok (k a b) (k zero zero) ρ = sym (add_mul_zero (int a b) (hd ρ) (int 0 0) int_zero)
  hh_ok (k a b) (k zero (suc d)) ρ = refl
  hh_ok (k a b) (k (suc c) d) ρ = refl
  hh_ok (k a b) (h c d) ρ = refl
  hh_ok (h a b) c ρ = refl

  addk_ok : (a b : ℕ) (q : H) (ρ : List A) → ev_H (addk a b q) ρ ≡ int a b + ev_H q ρ
  unfolding ev_H
  addk_ok a b (k c d) ρ = kk_ok (a +ₙ c) (b +ₙ d) ∙ int_add a b c d
  addk_ok a b (h p q) ρ = hh_ok (addk a b p) q ρ ∙ ap (λ x. x + hd ρ * ev_H q ρ) (addk_ok a b p (tl ρ))
      ∙ add_assoc (int a b) (ev_H p (tl ρ)) (hd ρ * ev_H q ρ)

  add_K_ok : (a b : ℕ) (q : H) (ρ : List A) → ev_H (add_K a b q) ρ ≡ int a b + ev_H q ρ
  add_K_ok zero zero q ρ = sym (ap (λ x. x + ev_H q ρ) int_zero ∙ zero_add R (ev_H q ρ))
  add_K_ok zero (suc b) q ρ = addk_ok zero (suc b) q ρ
  add_K_ok (suc a) b q ρ = addk_ok (suc a) b q ρ

  add_H_ok : (p q : H) (ρ : List A) → ev_H (add_H p q) ρ ≡ ev_H p ρ + ev_H q ρ
  unfolding ev_H
  add_H_ok (k a b) q ρ = add_K_ok a b q ρ
  add_H_ok (h p q) (k a b) ρ = add_K_ok a b (h p q) ρ ∙ add_comm (int a b) (ev_H p (tl ρ) + hd ρ * ev_H q ρ)
  add_H_ok (h p q) (h r s) ρ = hh_ok (add_H p r) (add_H q s) ρ ∙ ap₂ (λ x y. x + hd ρ * y) (add_H_ok p r (tl ρ)) (add_H_ok q s ρ)
      ∙ ap (λ x. ev_H p (tl ρ) + ev_H r (tl ρ) + x) (mul_add (hd ρ) (ev_H q ρ) (ev_H s ρ))
      ∙ add_add_add_comm R (ev_H p (tl ρ)) (ev_H r (tl ρ)) (hd ρ * ev_H q ρ) (hd ρ * ev_H s ρ)

  under : (c p x q : A) → c * p + x * (c * q) ≡ c * (p + x * q)
  under c p x q = simp (mul_add, mul_left_comm R)

  mulk_ok : (a b : ℕ) (q : H) (ρ : List A) → ev_H (mulk a b q) ρ ≡ int a b * ev_H q ρ
  unfolding ev_H
  mulk_ok a b (k c d) ρ = kk_ok (a *ₙ c +ₙ b *ₙ d) (a *ₙ d +ₙ b *ₙ c) ∙ int_mul a b c d
  mulk_ok a b (h p q) ρ = hh_ok (mulk a b p) (mulk a b q) ρ ∙ ap₂ (λ x y. x + hd ρ * y) (mulk_ok a b p (tl ρ)) (mulk_ok a b q ρ)
      ∙ under (int a b) (ev_H p (tl ρ)) (hd ρ) (ev_H q ρ)

  mul_K_ok : (a b : ℕ) (q : H) (ρ : List A) → ev_H (mul_K a b q) ρ ≡ int a b * ev_H q ρ
  unfolding ev_H
  mul_K_ok zero zero q ρ = int_zero ∙ sym (ap (λ x. x * ev_H q ρ) int_zero ∙ zero_mul R (ev_H q ρ))
  mul_K_ok zero (suc b) q ρ = mulk_ok zero (suc b) q ρ
  mul_K_ok (suc a) b q ρ = mulk_ok (suc a) b q ρ

  map_H_ok : (p : H) (f : H → H) → ((s : H) (ρ : List A) → ev_H (f s) ρ ≡ ev_H p ρ * ev_H s ρ) → (r : H) (ρ : List A)
      → ev_H (map_H f r) ρ ≡ ev_H p (tl ρ) * ev_H r ρ
  unfolding ev_H
  map_H_ok p f e (k a b) ρ = hh_ok (f (k a b)) (k 0 0) ρ ∙ add_mul_zero (ev_H (f (k a b)) (tl ρ)) (hd ρ) (int 0 0) int_zero
      ∙ e (k a b) (tl ρ)
  map_H_ok p f e (h s q) ρ = hh_ok (f s) (map_H f q) ρ ∙ ap₂ (λ x y. x + hd ρ * y) (e s (tl ρ)) (map_H_ok p f e q ρ)
      ∙ under (ev_H p (tl ρ)) (ev_H s (tl ρ)) (hd ρ) (ev_H q ρ)

  shift : (z p r x q : A) → z ≡ 𝟘 → p * r + (z + x * (q * r)) ≡ (p + x * q) * r
  shift z p r x q e = ap (λ y. p * r + (y + x * (q * r))) e ∙ simp (zero_add R, add_mul R, mul_assoc)

  mul_H_ok : (p r : H) (ρ : List A) → ev_H (mul_H p r) ρ ≡ ev_H p ρ * ev_H r ρ
  unfolding ev_H
  mul_H_ok (k a b) r ρ = mul_K_ok a b r ρ
  mul_H_ok (h p q) r ρ = add_H_ok (map_H (λ s. mul_H p s) r) (hh (k 0 0) (mul_H q r)) ρ
      ∙ ap₂ ◌+◌ (map_H_ok p (λ s. mul_H p s) (λ s σ. mul_H_ok p s σ) r ρ) (hh_ok (k 0 0) (mul_H q r) ρ
      ∙ ap (λ y. int 0 0 + hd ρ * y) (mul_H_ok q r ρ)) ∙ shift (int 0 0) (ev_H p (tl ρ)) (ev_H r ρ) (hd ρ) (ev_H q ρ) int_zero

  neg_H_ok : (p : H) (ρ : List A) → ev_H (neg_H p) ρ ≡ - ev_H p ρ
  unfolding ev_H
  neg_H_ok (k a b) ρ = int_neg a b
  neg_H_ok (h p q) ρ = ap₂ (λ x y. x + hd ρ * y) (neg_H_ok p (tl ρ)) (neg_H_ok q ρ) ∙ simp (mul_neg R, neg_add_distrib R)

  var_H_ok : (i : ℕ) (ρ : List A) → ev_H (var_H i) ρ ≡ at ρ i
  unfolding ev_H
  var_H_ok zero [] = simp (int_zero, zero_mul R, add_zero)
  var_H_ok zero (x ∷ ρ) = simp (int_zero, int_one, zero_add R, mul_one)
  var_H_ok (suc i) [] = add_mul_zero (ev_H (var_H i) []) 𝟘 (int 0 0) int_zero ∙ var_H_ok i []
  var_H_ok (suc i) (x ∷ ρ) = add_mul_zero (ev_H (var_H i) ρ) x (int 0 0) int_zero ∙ var_H_ok i ρ

  norm_ok : (e : Ex) (ρ : List A) → ev_H (norm e) ρ ≡ ev ρ e
  unfolding ev_H
  norm_ok (v i) ρ = var_H_ok i ρ
  norm_ok :0 ρ = int_zero
  norm_ok :1 ρ = int_one
  norm_ok (a :+ b) ρ = add_H_ok (norm a) (norm b) ρ ∙ ap₂ ◌+◌ (norm_ok a ρ) (norm_ok b ρ)
  norm_ok (a :* b) ρ = mul_H_ok (norm a) (norm b) ρ ∙ ap₂ ◌*◌ (norm_ok a ρ) (norm_ok b ρ)
  norm_ok (a :- b) ρ = add_H_ok (norm a) (neg_H (norm b)) ρ ∙ ap₂ ◌+◌ (norm_ok a ρ) (neg_H_ok (norm b) ρ ∙ ap -◌ (norm_ok b ρ))
  norm_ok (:- a) ρ = neg_H_ok (norm a) ρ ∙ ap -◌ (norm_ok a ρ)

  pub solve : (ρ : List A) (a b : Ex) → norm a ≡ norm b → ev ρ a ≡ ev ρ b
  solve ρ a b e = sym (norm_ok a ρ) ∙ ap (λ n. ev_H n ρ) e ∙ norm_ok b ρ
