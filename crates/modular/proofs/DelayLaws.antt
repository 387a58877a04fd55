-- A canonical f is x^k·g, where k is its delay and g, where f is not zero, has a first coefficient other than 0; no other k and g
-- are so. In products modulo a prime delay and feedback add up.
use Rattle.std.specs.Prelude.{◌≡◌, drop, get_or}
use Rattle.std.proofs.Math.Path.{refl, ap, subst}
use Rattle.std.proofs.Common.{sym, ◌∙◌, ap₂, zero-add, drop_of_length-le, drop-cons}
use mathlib.Core.List.{List, [], ◌∷◌}
use Prim.Native.Nat.{ℕ, zero, suc, ◌+◌, ◌-◌, ◌*◌, ◌%◌, ◌<◌, ◌≤◌}
use native.Mathlib.Omega.{arith}
use Rattle.std.proofs.Math.ListN.{length}
use Rattle.algebra.specs.Operations.{Operations}
use Rattle.algebra.specs.Field.{mul_nonzero}
use Rattle.algebra.specs.Coefficients.{cons, coefficient, mul, shift}
use Rattle.modular.specs.Prime.{Prime}
use Rattle.modular.specs.Primality.{prime_positive}
use Rattle.modular.specs.Modulo.{modulo}
use Rattle.modular.specs.Canonical.{Canonical, LastNonzero}
use Rattle.modular.specs.Residue.{Residue, value, residue_positive, reduce, residue_ring, residues}
use Rattle.ring.specs.Total.{total}
use Rattle.modular.specs.Closed.{canonical_tail, canonical_shift}
use Rattle.modular.specs.Coefficientwise.{coefficient_below, coefficient_beyond}
use Rattle.modular.specs.Product.{coefficient_mul}
use Rattle.modular.specs.Lists.{mul_comm, length_mul, shift_mul, shift_shift}
use Rattle.modular.specs.Delay.{degree, delay, undelayed, feedback}

pub length_undelayed : (f : List ℕ) → delay f + length (undelayed f) ≡ length f
unfolding delay undelayed
length_undelayed [] = refl
length_undelayed (zero ∷ f) = omega (arith, length_undelayed f)
length_undelayed (suc a ∷ f) = omega arith

-- counted on from the place k: a coefficient 0 is one factor more; at any other, and behind the last, the count is 0
pub delay_zero : (f : List ℕ) (k : ℕ) → k < length f → get_or f k 0 ≡ 0 → delay (drop k f) ≡ suc (delay (drop (k + 1) f))
unfolding delay
delay_zero f k h e =
    let next : suc k ≡ k + 1 = omega arith in
    ap delay (drop-cons f k 0 h ∙ ap (λ a. a ∷ drop (suc k) f) e) ∙ ap (λ n. suc (delay (drop n f))) next

pub delay_nonzero : (f : List ℕ) (k : ℕ) → k < length f → ¬ (get_or f k 0 ≡ 0) → delay (drop k f) ≡ 0
unfolding delay
delay_nonzero f k h e = ap delay (drop-cons f k 0 h) ∙ by_first (get_or f k 0) (drop (suc k) f) e
  where
    by_first : (a : ℕ) (g : List ℕ) → ¬ (a ≡ 0) → delay (a ∷ g) ≡ 0
    by_first zero g n = absurd (n refl)
    by_first (suc a) g n = refl

pub delay_end : (f : List ℕ) (k : ℕ) → length f ≤ k → delay (drop k f) ≡ 0
unfolding delay
delay_end f k h = ap delay (drop_of_length-le f h)

module _ (p : ℕ) where
  abbrev o : Operations ℕ
  o = modulo p

  pub canonical_undelayed : (f : List ℕ) → Canonical p f → Canonical p (undelayed f)
  unfolding undelayed
  canonical_undelayed [] h = h
  canonical_undelayed (zero ∷ f) h = canonical_undelayed f (canonical_tail p 0 f h)
  canonical_undelayed (suc a ∷ f) h = h

  cons_zero : (f : List ℕ) → 0 < length f → cons o 0 f ≡ 0 ∷ f
  unfolding cons
  cons_zero [] l = absurd (omega arith)
  cons_zero (b ∷ f) l = refl

  behind_zero : (f : List ℕ) → Canonical p (0 ∷ f) → 0 < length f
  unfolding Canonical LastNonzero
  behind_zero [] h = absurd (omega (arith, h.1))
  behind_zero (b ∷ f) h = omega arith

  -- f is what is left, times x^k
  pub shift_undelayed : (f : List ℕ) → Canonical p f → shift o (delay f) (undelayed f) ≡ f
  unfolding delay undelayed shift modulo
  shift_undelayed [] h = refl
  shift_undelayed (zero ∷ f) h =
      ap (cons o 0) (shift_undelayed f (canonical_tail p 0 f h)) ∙ cons_zero f (behind_zero f h)
  shift_undelayed (suc a ∷ f) h = refl

  -- and in what is left no factor x is: its first coefficient is not 0
  pub undelayed_first : (f : List ℕ) → Canonical p f → 0 < length f → 0 < coefficient o (undelayed f) 0
  unfolding undelayed coefficient
  undelayed_first [] h l = absurd (omega arith)
  undelayed_first (zero ∷ f) h l = undelayed_first f (canonical_tail p 0 f h) (behind_zero f h)
  undelayed_first (suc a ∷ f) h l = omega arith

  shift_positive : (k : ℕ) (f : List ℕ) → 0 < length f → 0 < length (shift o k f)
  unfolding shift modulo
  shift_positive zero f l = l
  shift_positive (suc k) f l = rw (cons_zero (shift o k f) (shift_positive k f l)) (omega arith)

  pub first_positive : (f : List ℕ) → 0 < coefficient o f 0 → 0 < length f
  unfolding coefficient modulo
  first_positive [] l = absurd (omega arith)
  first_positive (a ∷ f) l = omega arith

  -- no other k and no other polynomial are so
  pub shift_apart : (k : ℕ) (f : List ℕ) → 0 < coefficient o f 0 → (delay (shift o k f) ≡ k) × (undelayed (shift o k f) ≡ f)
  unfolding delay undelayed shift coefficient modulo
  shift_apart zero [] l = (refl, refl)
  shift_apart zero (zero ∷ f) l = absurd (omega arith)
  shift_apart zero (suc a ∷ f) l = (refl, refl)
  shift_apart (suc k) f l =
      let whole = cons_zero (shift o k f) (shift_positive k f (first_positive f l)) in
      let apart = shift_apart k f l in
      (ap delay whole ∙ ap suc apart.0, ap undelayed whole ∙ apart.1)

  -- the degree of a polynomial is the greatest power whose coefficient is not 0
  pub degree_nonzero : (f : List ℕ) → Canonical p f → 0 < length f → 0 < coefficient o f (degree f)
  unfolding Canonical LastNonzero coefficient modulo
  degree_nonzero [] h l = absurd (omega arith)
  degree_nonzero (a ∷ []) h l = h.1
  degree_nonzero (a ∷ b ∷ f) h l =
      let next : suc (degree (b ∷ f)) ≡ degree (a ∷ b ∷ f) = omega arith in
      subst (λ n. 0 < coefficient o (a ∷ b ∷ f) n) next (degree_nonzero (b ∷ f) h.2 (omega arith))

  pub degree_beyond : (f : List ℕ) (n : ℕ) → degree f < n → coefficient o f n ≡ 0
  degree_beyond f n h = coefficient_beyond p f n (omega arith)

  -- it is delay and feedback together
  pub delay_feedback : (f : List ℕ) → Canonical p f → delay f + feedback f ≡ degree f
  unfolding delay undelayed feedback
  delay_feedback [] h = refl
  delay_feedback (a ∷ f) h =
      omega (
        arith,
        length_undelayed (a ∷ f),
        first_positive (undelayed (a ∷ f)) (undelayed_first (a ∷ f) h (omega arith)),
      )

  module _ (prime : Prime p) where
    product_nonzero : (a b : ℕ) → 0 < a → a < p → 0 < b → b < p → 0 < a * b % p
    unfolding residues residue_ring reduce
    product_nonzero a b la ha lb hb =
        residue_positive p prime.large ((residues p prime).ring.mul x y) (mul_nonzero (residues p prime) x y
        (λ e. let z : a ≡ 0 = ap value e in omega arith) (λ e. let z : b ≡ 0 = ap value e in omega arith))
      where
        x : Residue p
        x = record { value = a; below = ha }

        y : Residue p
        y = record { value = b; below = hb }

    module _ (f g : List ℕ) (hf : Canonical p f) (hg : Canonical p g) (lf : 0 < length f) (lg : 0 < length g) where
      abbrev f' : List ℕ
      f' = undelayed f

      abbrev g' : List ℕ
      g' = undelayed g

      hf' : Canonical p f'
      hf' = canonical_undelayed f hf

      hg' : Canonical p g'
      hg' = canonical_undelayed g hg

      positive : 0 < p
      positive = prime_positive p prime

      product_first : 0 < coefficient o (mul o f' g') 0
      unfolding total
      product_first =
          subst (λ n. 0 < n) (sym first_is)
          (product_nonzero (coefficient o f' 0) (coefficient o g' 0)
          (undelayed_first f hf lf) (coefficient_below p positive f' 0 hf')
          (undelayed_first g hg lg) (coefficient_below p positive g' 0 hg'))
        where
          first_is : coefficient o (mul o f' g') 0 ≡ coefficient o f' 0 * coefficient o g' 0 % p
          first_is =
              coefficient_mul p positive f' g' 0
              ∙ ap (λ n. n % p) (zero-add (coefficient o f' 0 * coefficient o g' 0))

      product_is : mul o f g ≡ shift o (delay f + delay g) (mul o f' g')
      product_is =
          ap₂ (mul o) (sym (shift_undelayed f hf)) (sym (shift_undelayed g hg))
          ∙ sym (shift_mul p prime (delay f) f' (shift o (delay g) g') hf' (canonical_shift p positive (delay g) g' hg'))
          ∙ ap (shift o (delay f)) (
          mul_comm p prime f' (shift o (delay g) g') hf' (canonical_shift p positive (delay g) g' hg')
          ∙ sym (shift_mul p prime (delay g) g' f' hg' hf')
          ∙ ap (shift o (delay g)) (mul_comm p prime g' f' hg' hf'))
          ∙ shift_shift p prime (delay f) (delay g) (mul o f' g')

      pub delay_mul : delay (mul o f g) ≡ delay f + delay g
      delay_mul = ap delay product_is ∙ (shift_apart (delay f + delay g) (mul o f' g') product_first).0

      undelayed_mul : undelayed (mul o f g) ≡ mul o f' g'
      undelayed_mul = ap undelayed product_is ∙ (shift_apart (delay f + delay g) (mul o f' g') product_first).1

      pub feedback_mul : feedback (mul o f g) ≡ feedback f + feedback g
      unfolding feedback
      feedback_mul =
          let some_f : 0 < length f' = first_positive f' (undelayed_first f hf lf) in
          let some_g : 0 < length g' = first_positive g' (undelayed_first g hg lg) in
          let e : suc (length (mul o f' g')) ≡ length f' + length g' = length_mul p prime f' g' hf' hg' some_f some_g in
          ap (λ l. length l - 1) undelayed_mul ∙ omega arith
