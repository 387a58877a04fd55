-- The invariant of `subtract_product` is what it ensures, as far as it has come.
use Prim.Native.Nat.{ℕ, ◌+◌, ◌-◌, ◌*◌, ◌%◌, ◌<◌, ◌≤◌}
use mathlib.Core.Path.{◌≡◌, refl, sym, ◌∙◌, ap, subst}
use mathlib.Core.Logic.{inr}
use mathlib.Core.List.{List, [], ◌∷◌}
use native.Mathlib.Nat.{mul-le-mul_right, mul-le-mul, add-mul, zero-mod}
use native.Mathlib.Numerals.{add-one}
use native.Mathlib.Omega.{arith}
use lib.ListN.{length, get_or}
use Rattle.ring.specs.Identity.{quotes, identity}
use Rattle.algebra.specs.Polynomial.{Polynomial, polynomials}
use Rattle.modular.specs.Prime.{Prime}
use Rattle.modular.specs.Residue.{Residue, residues}
use Rattle.modular.specs.LargestPrime.{largest_modulus}
use Rattle.modular.specs.Bits.{bound64}
use Rattle.vector.specs.Bound.{AtMost, at_most_sum}
use Rattle.vector.specs.Stored.{stored, length_stored, stored_outside}
use Rattle.vector.specs.Multiple.{sum_at}
use Rattle.reduction.specs.Holds.{Holds, monomial, read, holds_step, holds_unique}
use Rattle.reduction.specs.Flat.{flat}
use Rattle.solve_lattice.specs.Memory.{ZeroFrom}
use Rattle.solve_lattice.specs.Word.{residue_zero, words, words_behind}
use Rattle.solve_lattice.specs.Range.{words_upper, words_lower}
use Rattle.solve_lattice.specs.Room.{most_factors}
use Rattle.solve_descent.specs.Read.{read_suc, read_zeros}
use Rattle.solve_descent.specs.Product.{strided, less, TakesProduct, dividend_most}
use Rattle.solve_descent.specs.Held.{none_held}

-- a product of a number below p and one of at most p
pub product_most : (p c x : ℕ) → c ≤ p → x < p → c * x ≤ p * p
product_most p c x h l = mul-le-mul h (let g : x ≤ p = omega arith in g)

module _ {p w : ℕ} {h₀ f : List ℕ} {b v : ℕ} {s : List ℕ} {a m : ℕ} where
  pub product_start : TakesProduct p w h₀ f b v 0 s a m h₀
  unfolding read
  product_start = record {
    same_length = refl;
    bound = λ c small i. omega (arith, small i);
    behind = λ i far. refl;
    holds = λ N inside room prime i lane x u A B. subst (Holds (residues p prime) _)
        (identity (polynomials (residues p prime)) (x ∷ u ∷ []) (λ ρ qx qu. search quotes depth 16) refl) A;
  }

  -- no words hold zero, and no multiple of it is taken off
  pub product_none : {n : ℕ} → m ≡ 0 → TakesProduct p w h₀ f b v n s a m h₀
  product_none {n} none = record {
    same_length = refl;
    bound = λ c small i. omega (arith, small i);
    behind = λ i far. refl;
    holds = λ N inside room prime i lane x u A B.
        let y = read (residues p prime) n (strided p prime f b v) in
        let zero : u ≡ (polynomials (residues p prime)).zero = holds_unique (residues p prime) B
        (none_held p prime (λ e. words_behind p prime s a m (flat w i e) (omega arith))) in
        subst (Holds (residues p prime) _)
        (identity (polynomials (residues p prime)) (x ∷ y ∷ []) (λ ρ qx qy. search quotes depth 16) refl
        ∙ ap (λ z. less p prime x y z) (sym zero)) A;
  }

  -- a factor 0 takes nothing off
  pub product_skip : {k : ℕ} {h : List ℕ} → TakesProduct p w h₀ f b v k s a m h → get_or f (b + k * v) 0 ≡ 0
      → TakesProduct p w h₀ f b v (k + 1) s a m h
  product_skip {k} {h} so_far none = record {
    same_length = so_far.same_length;
    bound = λ d most i. omega (arith, so_far.bound d most i, add-mul k 1 (p * p));
    behind = λ i far. so_far.behind i (omega (arith, add-mul k 1 w));
    holds = λ N inside room prime i lane x u A B.
        subst (λ y. Holds (residues p prime) (λ e. words p prime h 0 N (flat w i e)) (less p prime x y u))
        (sym (read_zeros (residues p prime) k (k + 1) (strided p prime f b v) (omega arith) (λ j ge lt.
        let here : j ≡ k = omega arith in
        ap (strided p prime f b v) here ∙ residue_zero p prime _ (ap (λ z. z % p) none ∙ zero-mod p))))
        (so_far.holds N (omega (arith, add-mul k 1 w)) room prime i lane x u A B);
  }

  module _ {k : ℕ} {h : List ℕ} (so_far : TakesProduct p w h₀ f b v k s a m h)
      (factors : (i : ℕ) → get_or f i 0 < p) (small : (j : ℕ) → j < m → get_or s (a + j) 0 < p) where
    abbrev c : ℕ
    c = p - get_or f (b + k * v) 0

    -- no sum is too large
    pub product_sum : (n : ℕ) → k < n → n ≤ most_factors → p ≤ largest_modulus → AtMost dividend_most h₀ → (j : ℕ) → j < m
        → sum_at h (k * w) s a (p - get_or f (b + k * v) 0) j < bound64
    product_sum n lt most limit words₀ j inside =
        let few : k ≤ most_factors = omega arith in
        let square : p * p ≤ largest_modulus * largest_modulus = mul-le-mul limit limit in
        omega (
          arith,
          so_far.bound dividend_most words₀ (k * w + j),
          mul-le-mul few square,
          product_most p c (get_or s (a + j) 0) (omega arith) (small j inside),
        )

    module _ (h' : List ℕ) (stores : h' ≡ stored (sum_at h (k * w) s a (p - get_or f (b + k * v) 0)) h (k * w) m) where
      length_after : length h' ≡ length h₀
      length_after = ap length stores ∙ length_stored (sum_at h (k * w) s a c) h (k * w) m ∙ so_far.same_length

      bound_after : (d : ℕ) → AtMost d h₀ → AtMost (d + (k + 1) * (p * p)) h'
      bound_after d most i =
          let grown = at_most_sum (d + k * (p * p)) (p * p) h (k * w) s a m c (so_far.bound d most)
          (λ j lt. product_most p c (get_or s (a + j) 0) (omega arith) (small j lt)) i in
          rw stores (omega (arith, grown, add-mul k 1 (p * p)))

      behind_after : (i : ℕ) → (k + 1) * w + m ≤ i + w → get_or h' i 0 ≡ get_or h₀ i 0
      behind_after i far =
          ap (λ l. get_or l i 0) stores
          ∙ stored_outside (sum_at h (k * w) s a c) h (k * w) m i (inr (omega (arith, add-mul k 1 w)))
          ∙ so_far.behind i (omega (arith, add-mul k 1 w))

      module _ (N : ℕ) (inside : (k + 1) * w + m ≤ N + w) (room : N ≤ length h₀) (prime : Prime p) (i : ℕ) (lane : i < w)
          (x u : Polynomial (residues p prime)) (A : Holds (residues p prime) (λ e. words p prime h₀ 0 N (flat w i e)) x)
          (B : Holds (residues p prime) (λ e. words p prime s a m (flat w i e)) u) where
        fits : k * w + m ≤ N
        fits = omega (arith, add-mul k 1 w)

        none : ZeroFrom p s a m m
        none j ge lt = absurd (omega arith)

        room' : k * w + m ≤ length h
        room' = omega (arith, fits, so_far.same_length)

        abbrev y : Polynomial (residues p prime)
        y = read (residues p prime) k (strided p prime f b v)

        abbrev factor : Residue p
        factor = strided p prime f b v k

        before : Holds (residues p prime) (λ e. words p prime h 0 N (flat w i e)) (less p prime x y u)
        before = so_far.holds N (omega (arith, fits)) room prime i lane x u A B

        raised : (e : ℕ) → flat w i (k + e) ≡ k * w + flat w i e
        raised e = omega arith

        upper : (e : ℕ) → words p prime h' 0 N (flat w i (k + e)) ≡ (residues p prime).ring.add
            (words p prime h 0 N (flat w i (k + e)))
            ((residues p prime).ring.neg ((residues p prime).ring.mul factor (words p prime s a m (flat w i e))))
        upper e =
            ap (words p prime h' 0 N) (raised e)
            ∙ words_upper p prime h h' s (k * w) a m m N (get_or f (b + k * v) 0) stores (factors (b + k * v)) fits room' none
            (omega arith) (flat w i e)
            ∙ ap (λ z. (residues p prime).ring.add (words p prime h 0 N z)
            ((residues p prime).ring.neg ((residues p prime).ring.mul factor (words p prime s a m (flat w i e))))) (sym (raised e))

        lower : (e : ℕ) → e < k → words p prime h' 0 N (flat w i e) ≡ words p prime h 0 N (flat w i e)
        lower e l =
            words_lower p prime h h' s (k * w) a m m N (get_or f (b + k * v) 0) stores (factors (b + k * v)) fits room' none
            (omega arith)
            (flat w i e) (omega (arith, mul-le-mul_right w l))

        holds_after : Holds (residues p prime) (λ e. words p prime h' 0 N (flat w i e))
            (less p prime x (read (residues p prime) (k + 1) (strided p prime f b v)) u)
        holds_after = subst (Holds (residues p prime) _)
            (identity (polynomials (residues p prime)) (x ∷ y ∷ monomial (residues p prime) factor k ∷ u ∷ [])
            (λ ρ qx qy qm qu. search quotes depth 16) refl
            ∙ ap (λ z. less p prime x z u) (sym (ap (λ l. read (residues p prime) l (strided p prime f b v)) (add-one k)
            ∙ read_suc (residues p prime) k (strided p prime f b v))))
            (holds_step (residues p prime) factor k before B upper lower)

      pub product_turn : TakesProduct p w h₀ f b v (k + 1) s a m h'
      product_turn = record { same_length = length_after; bound = bound_after; behind = behind_after; holds = holds_after }
