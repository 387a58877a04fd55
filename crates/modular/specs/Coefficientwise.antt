-- Polynomials modulo any positive p by their coefficients: those of each operation's result, and that a canonical list is
-- determined by them. The product's are in `Product`.
use Rattle.std.specs.Prelude.{◌≡◌, Bool, eqb, get_or}
use Rattle.std.proofs.Math.Path.{refl, sym, ap, ap₂}
use Rattle.std.proofs.Common.{◌∙◌, zero-add, add-zero, suc-add, mul-zero, eqb-true}
use Rattle.std.proofs.Math.Bool.{true, false}
use mathlib.Core.List.{List, [], ◌∷◌}
use Prim.Native.Nat.{ℕ, zero, suc, ◌+◌, ◌-◌, ◌*◌, ◌%◌, ◌≤◌, ◌<◌}
use Rattle.std.proofs.Math.Nat.{zero-mod, mod_self, mod-eq_of_lt, add-mod-mod, sub-zero}
use native.Mathlib.Omega.{arith}
use Rattle.std.proofs.Math.ListN.{length}
use Rattle.algebra.specs.Operations.{Operations}
use Rattle.algebra.specs.Coefficients.{single, cons, coefficient, leading, add, negate, subtract, scale, shift}
use Rattle.modular.specs.Modulo.{modulo}
use Rattle.modular.specs.Canonical.{Canonical}
use Rattle.modular.specs.Closed.{canonical_negate}

module _ (p : ℕ) where
  abbrev o : Operations ℕ
  o = modulo p

  -- the list's entry, and 0 behind its end
  pub coefficient_get_or : (f : List ℕ) (n : ℕ) → coefficient o f n ≡ get_or f n 0
  unfolding modulo coefficient
  coefficient_get_or [] n = refl
  coefficient_get_or (a ∷ f) zero = refl
  coefficient_get_or (a ∷ f) (suc n) = coefficient_get_or f n

  pub coefficient_nil : (n : ℕ) → coefficient o [] n ≡ 0
  coefficient_nil n = coefficient_get_or [] n

  pub coefficient_beyond : (f : List ℕ) (n : ℕ) → length f ≤ n → coefficient o f n ≡ 0
  unfolding modulo coefficient
  coefficient_beyond [] n h = refl
  coefficient_beyond (a ∷ f) zero h = absurd (omega arith)
  coefficient_beyond (a ∷ f) (suc n) h = coefficient_beyond f n (omega arith)

  pub coefficient_last : (f : List ℕ) (n : ℕ) → length f ≡ suc n → coefficient o f n ≡ leading o f
  unfolding modulo coefficient leading
  coefficient_last [] n e = absurd (omega arith)
  coefficient_last (a ∷ []) zero e = refl
  coefficient_last (a ∷ []) (suc n) e = absurd (omega arith)
  coefficient_last (a ∷ b ∷ f) zero e = absurd (omega arith)
  coefficient_last (a ∷ b ∷ f) (suc n) e = coefficient_last (b ∷ f) n (omega arith)

  pub leading_positive : (f : List ℕ) → Canonical p f → 0 < length f → 0 < leading o f
  unfolding modulo leading Canonical
  leading_positive [] h l = absurd (omega arith)
  leading_positive (a ∷ []) h l = h.1
  leading_positive (a ∷ b ∷ f) h l = leading_positive (b ∷ f) h.2 (omega arith)

  single_zero : (a : ℕ) (t : Bool) → eqb a 0 ≡ t → coefficient o (single t a) 0 ≡ a
  unfolding modulo coefficient single
  single_zero a true e = sym (eqb-true a 0 e)
  single_zero a false e = refl

  single_suc : (a : ℕ) (t : Bool) (n : ℕ) → coefficient o (single t a) (suc n) ≡ 0
  unfolding modulo coefficient single
  single_suc a true n = refl
  single_suc a false n = refl

  pub coefficient_cons_zero : (a : ℕ) (f : List ℕ) → coefficient o (cons o a f) 0 ≡ a
  unfolding modulo coefficient cons
  coefficient_cons_zero a [] = single_zero a (eqb a 0) refl
  coefficient_cons_zero a (b ∷ f) = refl

  pub coefficient_cons_suc : (a : ℕ) (f : List ℕ) (n : ℕ) → coefficient o (cons o a f) (suc n) ≡ coefficient o f n
  unfolding modulo coefficient cons
  coefficient_cons_suc a [] n = single_suc a (eqb a 0) n
  coefficient_cons_suc a (b ∷ f) n = refl

  pub coefficient_scale : (c : ℕ) (f : List ℕ) (n : ℕ) → coefficient o (scale o c f) n ≡ c * coefficient o f n % p
  unfolding modulo coefficient scale
  coefficient_scale c [] n = sym (ap (λ x. x % p) (mul-zero c) ∙ zero-mod p)
  coefficient_scale c (a ∷ f) zero = coefficient_cons_zero (c * a % p) (scale o c f)
  coefficient_scale c (a ∷ f) (suc n) = coefficient_cons_suc (c * a % p) (scale o c f) n ∙ coefficient_scale c f n

  pub coefficient_negate : (f : List ℕ) (n : ℕ) → coefficient o (negate o f) n ≡ (p - coefficient o f n) % p
  unfolding modulo coefficient negate
  coefficient_negate [] n = sym (ap (λ x. x % p) (sub-zero p) ∙ mod_self p)
  coefficient_negate (a ∷ f) zero = coefficient_cons_zero ((p - a) % p) (negate o f)
  coefficient_negate (a ∷ f) (suc n) = coefficient_cons_suc ((p - a) % p) (negate o f) n ∙ coefficient_negate f n

  pub coefficient_shift_below : (k : ℕ) (f : List ℕ) (n : ℕ) → n < k → coefficient o (shift o k f) n ≡ 0
  unfolding modulo shift
  coefficient_shift_below zero f n h = absurd (omega arith)
  coefficient_shift_below (suc k) f zero h = coefficient_cons_zero 0 (shift o k f)
  coefficient_shift_below (suc k) f (suc n) h =
      coefficient_cons_suc 0 (shift o k f) n ∙ coefficient_shift_below k f n (omega arith)

  pub coefficient_shift_from : (k : ℕ) (f : List ℕ) (n : ℕ) → coefficient o (shift o k f) (k + n) ≡ coefficient o f n
  unfolding modulo shift
  coefficient_shift_from zero f n = ap (coefficient o f) (zero-add n)
  coefficient_shift_from (suc k) f n =
      ap (coefficient o (shift o (suc k) f)) (suc-add k n)
      ∙ coefficient_cons_suc 0 (shift o k f) (k + n)
      ∙ coefficient_shift_from k f n

  -- c·x^k·f
  pub coefficient_multiple : (k c : ℕ) (f : List ℕ) (n : ℕ)
      → coefficient o (shift o k (scale o c f)) n ≡ c * coefficient o (shift o k f) n % p
  unfolding modulo shift
  coefficient_multiple zero c f n = coefficient_scale c f n
  coefficient_multiple (suc k) c f zero =
      coefficient_cons_zero 0 (shift o k (scale o c f))
      ∙ sym (ap (λ x. c * x % p) (coefficient_cons_zero 0 (shift o k f)) ∙ ap (λ x. x % p) (mul-zero c) ∙ zero-mod p)
  coefficient_multiple (suc k) c f (suc n) =
      coefficient_cons_suc 0 (shift o k (scale o c f)) n
      ∙ coefficient_multiple k c f n
      ∙ ap (λ x. c * x % p) (sym (coefficient_cons_suc 0 (shift o k f) n))

  not_all_zero : (a : ℕ) (f : List ℕ) → Canonical p (a ∷ f) → ((n : ℕ) → coefficient o (a ∷ f) n ≡ 0) → ⊥
  unfolding modulo coefficient Canonical
  not_all_zero a [] h e = omega (arith, h.1, e 0)
  not_all_zero a (b ∷ f) h e = not_all_zero b f h.2 (λ n. e (suc n))

  pub canonical_same : (f g : List ℕ) → Canonical p f → Canonical p g
      → ((n : ℕ) → coefficient o f n ≡ coefficient o g n) → f ≡ g
  unfolding modulo coefficient Canonical
  canonical_same [] [] hf hg e = refl
  canonical_same [] (b ∷ g) hf hg e = absurd (not_all_zero b g hg (λ n. sym (e n)))
  canonical_same (a ∷ f) [] hf hg e = absurd (not_all_zero a f hf e)
  canonical_same (a ∷ f) (b ∷ g) hf hg e = ap₂ ◌∷◌ (e 0) (canonical_same f g hf.2 hg.2 (λ n. e (suc n)))

  -- coefficients that vanish from n on bound the length
  pub length_bound : (f : List ℕ) (n : ℕ) → Canonical p f → ((i : ℕ) → n ≤ i → coefficient o f i ≡ 0) → length f ≤ n
  unfolding modulo coefficient Canonical
  length_bound [] n h e = omega arith
  length_bound (a ∷ f) zero h e = absurd (not_all_zero a f h (λ i. e i (omega arith)))
  length_bound (a ∷ f) (suc n) h e =
      let rest : length f ≤ n = length_bound f n h.2 (λ i l. e (suc i) (omega arith)) in
      omega arith

  module _ (positive : 0 < p) where
    pub coefficient_below : (f : List ℕ) (n : ℕ) → Canonical p f → coefficient o f n < p
    unfolding modulo coefficient Canonical
    coefficient_below [] n h = positive
    coefficient_below (a ∷ f) zero h = h.0
    coefficient_below (a ∷ f) (suc n) h = coefficient_below f n h.2

    pub leading_below : (f : List ℕ) → Canonical p f → leading o f < p
    unfolding modulo leading Canonical
    leading_below [] h = positive
    leading_below (a ∷ []) h = h.0
    leading_below (a ∷ b ∷ f) h = leading_below (b ∷ f) h.2

    pub coefficient_add : (f g : List ℕ) (n : ℕ) → Canonical p f → Canonical p g
        → coefficient o (add o f g) n ≡ (coefficient o f n + coefficient o g n) % p
    unfolding modulo coefficient add Canonical
    coefficient_add [] g n hf hg = sym (ap (λ x. x % p) (zero-add _) ∙ mod-eq_of_lt (coefficient_below g n hg))
    coefficient_add (a ∷ f) [] n hf hg = sym (ap (λ x. x % p) (add-zero _) ∙ mod-eq_of_lt (coefficient_below (a ∷ f) n hf))
    coefficient_add (a ∷ f) (b ∷ g) zero hf hg = coefficient_cons_zero ((a + b) % p) (add o f g)
    coefficient_add (a ∷ f) (b ∷ g) (suc n) hf hg =
        coefficient_cons_suc ((a + b) % p) (add o f g) n ∙ coefficient_add f g n hf.2 hg.2

    pub coefficient_subtract : (f g : List ℕ) (n : ℕ) → Canonical p f → Canonical p g
        → coefficient o (subtract o f g) n ≡ (coefficient o f n + (p - coefficient o g n)) % p
    unfolding subtract
    coefficient_subtract f g n hf hg =
        coefficient_add f (negate o g) n hf (canonical_negate p positive g)
        ∙ ap (λ x. (coefficient o f n + x) % p) (coefficient_negate g n)
        ∙ add-mod-mod (coefficient o f n) (p - coefficient o g n) p
