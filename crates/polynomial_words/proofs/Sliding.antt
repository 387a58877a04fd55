-- A multiplication by x modulo d: what the window holds after its step.
use mathlib.Core.Path.{◌≡◌, sym, ap, ap₂, ◌∙◌, subst}
use mathlib.Core.Logic.{inl, inr}
use mathlib.Core.List.{List}
use Prim.Native.Nat.{ℕ, ◌+◌, ◌-◌, ◌*◌, ◌%◌, ◌≤◌, ◌<◌}
use native.Mathlib.Nat.{mod-lt, mod-mod, mod-eq_of_lt, zero-mod, mul-le-mul, le-mul_of_pos_right}
use native.Mathlib.Omega.{arith}
use lib.ListN.{length, get_or, take, drop}
use lib.Seq.{length-take-le}
use Rattle.algebra.specs.Coefficients.{cons, coefficient, add, subtract, scale, shift, factor, remainder}
use Rattle.modular.specs.Modulo.{modulo}
use Rattle.modular.specs.Prime.{Prime}
use Rattle.modular.specs.Lists.{length_remainder}
use Rattle.modular.specs.Closed.{canonical_shift}
use Rattle.vector.specs.Stored.{stored, stored_first, length_stored, stored_outside, stored_all_first}
use Rattle.vector.specs.Bound.{AtMost, Reducible, at_most_stored}
use Rattle.vector.specs.Reduced.{polynomial, canonical_reduced, coefficient_reduced, residue_same, word_inside}
use Rattle.vector.specs.Reduced.{polynomial_same, polynomial_fewer}
use Rattle.vector.specs.Multiple.{sum_at, GainsMultiple}
use Rattle.vector.specs.Size.{length_polynomial, word_past}
use Rattle.polynomial_words.specs.Long.{Divisor}
use Rattle.polynomial_words.specs.Window.{ReducedFrom}
use Rattle.polynomial_words.proofs.Rest.{polynomial_first, reduced_canonical}
use Rattle.polynomial_words.proofs.Step.{subtract_multiple, remainder_shift}

module _ {p : ℕ} (prime : Prime p) {h : List ℕ} (a : ℕ) {d : List ℕ} {e inverse : ℕ} (divisor : Divisor p d e inverse)
    (window : ReducedFrom p h (a + 1)) (room : a + e < length h) where
  positive : 0 < p
  positive = omega (arith, prime.large)

  -- the divisor, the polynomial in the window, and x times it in one word more
  abbrev W : List ℕ
  W = take (e + 1) d

  abbrev f : List ℕ
  f = polynomial p h (a + 1) e

  abbrev xf : List ℕ
  xf = shift (modulo p) 1 f

  size_W : length W ≡ e + 1
  size_W = length-take-le (e + 1) d divisor.room

  longer : polynomial p h a (e + 1) ≡ xf
  unfolding modulo shift
  longer =
      let n = a + e + 1 in
      let all : e + 1 ≡ n - a = omega arith in
      let rest : n - (a + 1) ≡ e = omega arith in
      ap (polynomial p h a) all
      ∙ polynomial_first p h a n (omega arith) (omega arith)
      ∙ ap₂ (cons (modulo p)) (residue_same p (window.zeros a (omega arith)) ∙ zero-mod p) (ap (polynomial p h (a + 1)) rest)

  short : length f < length W
  short = omega (arith, length_polynomial p h (a + 1) e, size_W)

  -- a word and its product are small
  pub slide_small : (c i j : ℕ) → get_or h i 0 + (p - c) * get_or d j 0 ≤ p + p * p
  slide_small c i j =
      omega (
        arith,
        window.below i,
        mul-le-mul {n₁ = p - c} {m₁ = get_or d j 0} {n₂ = p} {m₂ = p} (omega arith) (divisor.small j),
      )

  module _ (c : ℕ) {h' : List ℕ} (words : h' ≡ stored (sum_at h a d 0 (p - c)) h a (e + 1)) where
    same_room : length h' ≡ length h
    same_room = ap length words ∙ length_stored (sum_at h a d 0 (p - c)) h a (e + 1)

    pub slide_reducible : (n : ℕ) → Reducible p h' n
    slide_reducible n j lt =
        omega (
          arith,
          subst (AtMost (p + p * p)) (sym words) (at_most_stored (p + p * p) _ h a (e + 1) (λ i l. slide_small c (a + i) (0 + i))
              (λ i. omega (arith, window.below i))) j,
          le-mul_of_pos_right p positive,
        )

    module _ (by : c ≡ (modulo p).mul (get_or h (a + e) 0) inverse) where
      below_c : c < p
      unfolding modulo
      below_c = rw by (mod-lt _ positive)

      factor_c : factor (modulo p) W xf ≡ c
      unfolding modulo
      factor_c =
          let top : length W - 1 ≡ e = omega (arith, size_W) in
          let inside : e < e + 1 = omega arith in
          let at : coefficient (modulo p) xf (length W - 1) ≡ get_or h (a + e) 0 =
          ap₂ (coefficient (modulo p)) (sym longer) top
          ∙ coefficient_reduced p positive (take (e + 1) (drop a h)) e
          ∙ residue_same p (word_inside h a (e + 1) e inside)
          ∙ mod-eq_of_lt (window.below (a + e)) in
          ap₂ (λ (x y : ℕ). x * y % p) at (sym divisor.inverts) ∙ sym by

      module _ {h'' : List ℕ} (gains : GainsMultiple h h' a d 0 (e + 1) (p - c))
          (reduces : h'' ≡ stored (λ j. get_or h' j 0 % p) h' 0 (a + e + 1)) where
        taken_off : polynomial p h' a (e + 1) ≡ remainder (modulo p) xf W
        unfolding shift
        taken_off =
            gains p a 0 (e + 1) positive (omega arith) (omega arith)
            ∙ ap₂ (λ (x y : List ℕ). add (modulo p) x (scale (modulo p) (p - c) y)) longer
            (reduced_canonical p positive W divisor.canonical)
            ∙ subtract_multiple p positive xf W c (omega (arith, below_c))
            (canonical_shift p positive 1 f (canonical_reduced p positive (take e (drop (a + 1) h))))
            ∙ sym (remainder_shift p f W (canonical_reduced p positive (take e (drop (a + 1) h))) short
            ∙ ap (λ (x : ℕ). subtract (modulo p) xf (scale (modulo p) x W)) factor_c)

        word : (i : ℕ) → i < a + e + 1 → get_or h'' i 0 ≡ get_or h' i 0 % p
        word i lt = ap (λ l. get_or l i 0) reduces
            ∙ stored_first (λ j. get_or h' j 0 % p) h' (a + e + 1) i (omega (arith, same_room)) lt

        one_more : polynomial p h'' a (e + 1) ≡ remainder (modulo p) xf W
        one_more =
            polynomial_same p positive h'' h' a a (e + 1)
            (λ j lt. residue_same p (word (a + j) (omega arith)) ∙ mod-mod (get_or h' (a + j) 0) p)
            ∙ taken_off

        small : length (polynomial p h'' a (e + 1)) ≤ e
        small =
            let less = length_remainder p prime xf W
            (canonical_shift p positive 1 f (canonical_reduced p positive (take e (drop (a + 1) h)))) divisor.canonical
            (omega (arith, size_W)) in
            omega (arith, ap length one_more, less, size_W)

        pub slide_value : polynomial p h'' a e ≡ remainder (modulo p) xf W
        slide_value = polynomial_fewer p positive h'' a (e + 1) e small (omega arith) ∙ one_more

        kept : (i : ℕ) → a + e + 1 ≤ i → get_or h' i 0 ≡ get_or h i 0
        kept i ge = ap (λ l. get_or l i 0) words ∙ stored_outside _ h a (e + 1) i (inr (omega arith))

        pub slide_window : ReducedFrom p h'' a
        slide_window = record {
          below = stored_all_first (λ i x. x < p) _ h' h'' (a + e + 1) reduces (omega (arith, same_room)) (λ j lt. mod-lt _ positive)
              (λ i ge. subst (λ x. x < p) (sym (kept i (omega arith))) (window.below i));
          zeros = λ i lt.
              word i (omega arith)
              ∙ residue_same p (ap (λ l. get_or l i 0) words ∙ stored_outside _ h a (e + 1) i (inl lt) ∙ window.zeros i
              (omega arith))
              ∙ zero-mod p;
        }

        pub slide_rest : (get_or h'' (a + e) 0 ≡ 0) × ((i : ℕ) → a + e < i → get_or h'' i 0 ≡ get_or h i 0)
        slide_rest =
            let inside : e < e + 1 = omega arith in (
              sym (mod-eq_of_lt (slide_window.below (a + e)))
                  ∙ residue_same p (sym (word_inside h'' a (e + 1) e inside))
                  ∙ word_past p positive (take (e + 1) (drop a h'')) e small,
              λ i gt.
                  ap (λ l. get_or l i 0) reduces
                  ∙ stored_outside _ h' 0 (a + e + 1) i (inr (omega arith))
                  ∙ kept i (omega arith),
            )
