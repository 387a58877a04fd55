-- The invariant of long division: from the place i on, the words hold what the definition makes of the coefficients from i on.
use mathlib.Core.Path.{◌≡◌, refl, sym, ap, ap₂, ◌∙◌, subst}
use mathlib.Core.Logic.{inl}
use mathlib.Core.List.{List, ◌∷◌}
use Prim.Native.Nat.{ℕ, ◌+◌, ◌-◌, ◌*◌, ◌%◌, ◌≤◌, ◌<◌}
use native.Mathlib.Nat.{mod-lt, mod-eq_of_lt, mul-le-mul, mul-le-mul_right, le-mul_of_pos_right, add-mul}
use native.Mathlib.Numerals.{add-one}
use native.Mathlib.Omega.{arith}
use lib.ListN.{length, get_or, set, take, drop, length-set, length-take, length-drop}
use lib.Seq.{drop-cons, drop-set-lt, get_or-take, get_or-set_same, length-take-le}
use Rattle.algebra.specs.Coefficients.{Division, cons, coefficient, add, subtract, scale, shift, factor, divide}
use Rattle.modular.specs.Modulo.{modulo}
use Rattle.modular.specs.Canonical.{Canonical}
use Rattle.modular.specs.Coefficientwise.{coefficient_get_or, coefficient_below}
use Rattle.residue.specs.Sum.{SmallSum}
use Rattle.vector.specs.Stored.{stored, length_stored, stored_outside}
use Rattle.vector.specs.Bound.{AtMost, at_most_set, at_most_sum}
use Rattle.vector.specs.Reduced.{polynomial, reduced, canonical_reduced, coefficient_reduced, residue_same, word_inside}
use Rattle.vector.specs.Multiple.{sum_at, GainsMultiple}
use Rattle.polynomial_words.specs.Product.{unreduced_terms}
use Rattle.polynomial_words.specs.Long.{Divisor, LongDivided}
use Rattle.polynomial_words.proofs.Rest.{canonical_drop, polynomial_first, reduced_canonical}
use Rattle.polynomial_words.proofs.Rest.{polynomial_zero, polynomial_rest}
use Rattle.polynomial_words.proofs.Step.{extend_is, subtract_multiple, divide_short}

-- what is divided: n words of h, with zeros q for the quotient, by the e + 1 words of w
pub record Task (p : ℕ) (h q : List ℕ) (n : ℕ) (w : List ℕ) (e inverse : ℕ) : Type 0 where
  pub large : 1 < p
  pub divisor : Divisor p w e inverse
  pub canonical : Canonical p (take n h)
  pub room_h : n ≤ length h
  pub room_q : n ≤ length q

pub record Dividing (p : ℕ) (h₀ q₀ : List ℕ) (n : ℕ) (d q h : List ℕ) (i : ℕ) : Type 0 where
  pub same_quotient : length q ≡ length q₀
  pub same_remainder : length h ≡ length h₀
  pub small_quotient : AtMost p q
  pub small_remainder : AtMost (p + (n - i) * (p * p)) h
  pub before : (j : ℕ) → j < i → get_or h j 0 ≡ get_or h₀ j 0
  pub quotient : polynomial p q i (n - i) ≡ (divide (modulo p) (drop i (take n h₀)) d).quotient
  pub remainder : polynomial p h i (n - i) ≡ (divide (modulo p) (drop i (take n h₀)) d).remainder

module _ {p : ℕ} {h₀ q₀ : List ℕ} {n : ℕ} {w : List ℕ} {e inverse : ℕ} (task : Task p h₀ q₀ n w e inverse) where
  abbrev d : List ℕ
  d = take (e + 1) w

  abbrev f : List ℕ
  f = take n h₀

  positive : 0 < p
  positive = omega (arith, task.large)

  size_d : length d ≡ e + 1
  size_d = length-take-le (e + 1) w task.divisor.room

  pub dividing_start : AtMost 0 q₀ → AtMost p h₀ → Dividing p h₀ q₀ n d q₀ h₀ (n - e)
  dividing_start zeros small =
      let few : length (drop (n - e) f) < length d = simp (length-drop, length-take) (omega (arith, size_d)) in
      let short = divide_short p (drop (n - e) f) d (canonical_drop p (n - e) f task.canonical) few in
      record {
        same_quotient = refl;
        same_remainder = refl;
        small_quotient = λ j. omega (arith, zeros j);
        small_remainder = λ j. omega (arith, small j);
        before = λ j lt. refl;
        quotient = polynomial_zero p positive q₀ (n - e) (n - (n - e)) zeros ∙ sym (ap (λ x. x.quotient) short);
        remainder = polynomial_rest p positive h₀ (n - e) n task.canonical ∙ sym (ap (λ x. x.remainder) short);
      }

  -- a turn at the place i: c is the factor, from the word at d's highest power
  module _ {q h : List ℕ} (i : ℕ) (so_far : Dividing p h₀ q₀ n d q h (i + 1)) (inside : i + e < n) (c : ℕ)
      (by : c ≡ get_or h (i + e) 0 % p * inverse % p) where
    a : ℕ
    a = get_or h₀ i 0

    r : List ℕ
    r = polynomial p h i (n - i)

    w₊ : Division ℕ
    w₊ = divide (modulo p) (drop (i + 1) f) d

    small_c : c < p
    small_c = rw by (mod-lt (get_or h (i + e) 0 % p * inverse) positive)

    split : drop i f ≡ a ∷ drop (i + 1) f
    unfolding a
    split =
        let here : i < length f = simp length-take (omega (arith, task.room_h)) in
        let lt : i < n = omega arith in
        drop-cons f i 0 here ∙ ap₂ (λ (x j : ℕ). x ∷ drop j f) (get_or-take n h₀ i 0 lt) (sym (add-one i))

    below_a : a < p
    unfolding a
    below_a =
        let lt : i < n = omega arith in
        subst
        (λ (x : ℕ). x < p)
        (coefficient_get_or p f i ∙ get_or-take n h₀ i 0 lt)
        (coefficient_below p positive f i task.canonical)

    first : cons (modulo p) a w₊.remainder ≡ r
    unfolding a r w₊
    first =
        let kept : get_or h i 0 ≡ get_or h₀ i 0 = so_far.before i (omega arith) in
        sym
        (polynomial_first p h i n (omega arith) (omega (arith, so_far.same_remainder, task.room_h))
        ∙ ap₂ (cons (modulo p)) (residue_same p kept ∙ mod-eq_of_lt below_a) so_far.remainder)

    factor_c : factor (modulo p) d r ≡ c
    unfolding modulo r
    factor_c =
        let lt : e < n - i = omega arith in
        let top : length d - 1 ≡ e = omega (arith, size_d) in
        let at : coefficient (modulo p) (polynomial p h i (n - i)) (length d - 1) ≡ get_or h (i + e) 0 % p =
        ap (coefficient (modulo p) (polynomial p h i (n - i))) top
        ∙ coefficient_reduced p positive (take (n - i) (drop i h)) e
        ∙ residue_same p (word_inside h i (n - i) e lt) in
        ap₂ (λ (x y : ℕ). x * y % p) at (sym task.divisor.inverts) ∙ sym by

    step : divide (modulo p) (drop i f) d
        ≡ record { quotient = cons (modulo p) c w₊.quotient; remainder = subtract (modulo p) r (scale (modulo p) c d) }
    unfolding divide w₊
    step = ap (λ (l : List ℕ). divide (modulo p) l d) split ∙ extend_is p d a w₊ r c first factor_c

    product_small : (j : ℕ) → (p - c) * get_or w (0 + j) 0 ≤ p * p
    product_small j =
        mul-le-mul {n₁ = p - c} {m₁ = get_or w (0 + j) 0} {n₂ = p} {m₂ = p} (omega arith) (task.divisor.small (0 + j))

    pub dividing_turn : {h' : List ℕ} → h' ≡ stored (sum_at h i w 0 (p - c)) h i (e + 1) → GainsMultiple h h' i w 0 (e + 1) (p - c) →
        Dividing p h₀ q₀ n d (set q i c) h' i
    unfolding r w₊ shift
    dividing_turn words gains = record {
      same_quotient = length-set q i c ∙ so_far.same_quotient;
      same_remainder = ap length words ∙ length_stored (sum_at h i w 0 (p - c)) h i (e + 1) ∙ so_far.same_remainder;
      small_quotient = at_most_set p c q i (omega (arith, small_c)) so_far.small_quotient;
      small_remainder =
          let as_sum : n - i ≡ n - (i + 1) + 1 = omega arith in
          let b : ℕ = p + (n - (i + 1)) * (p * p) in
          rw (words, as_sum) (λ j.
          omega (
            arith,
            at_most_sum b (p * p) h i w 0 (e + 1) (p - c) so_far.small_remainder (λ t l. product_small t) j,
            add-mul (n - (i + 1)) 1 (p * p),
          ));
      before =
          λ j lt.
          ap (λ (l : List ℕ). get_or l j 0) words
          ∙ stored_outside (sum_at h i w 0 (p - c)) h i (e + 1) j (inl lt)
          ∙ so_far.before j (omega arith);
      quotient =
          polynomial_first p (set q i c) i n (omega arith) (rw length-set (omega (arith, so_far.same_quotient, task.room_q)))
          ∙ ap₂
          (cons (modulo p))
          (residue_same p (get_or-set_same q i c 0 (omega (arith, so_far.same_quotient, task.room_q))) ∙ mod-eq_of_lt small_c)
          (ap (λ (l : List ℕ). reduced p (take (n - (i + 1)) l)) (drop-set-lt (i + 1) q i c (omega arith)) ∙ so_far.quotient)
          ∙ sym (ap (λ x. x.quotient) step);
      remainder =
          gains p i 0 (n - i) positive (omega arith) (omega arith)
          ∙ ap
          (λ (l : List ℕ). add (modulo p) (polynomial p h i (n - i)) (scale (modulo p) (p - c) l))
          (reduced_canonical p positive d task.divisor.canonical)
          ∙ subtract_multiple
          p
          positive
          (polynomial p h i (n - i))
          d
          c
          (omega (arith, small_c))
          (canonical_reduced p positive (take (n - i) (drop i h)))
          ∙ sym (ap (λ x. x.remainder) step);
    }

-- a word of the hand is small enough for a reduction, and stays so with one product more
pub word_small : (p n i : ℕ) (h : List ℕ) → 0 < p → n ≤ unreduced_terms → AtMost (p + (n - i) * (p * p)) h →
    (j : ℕ) → SmallSum p (get_or h j 0 + p * p)
word_small p n i h positive few small j =
    let steps : n - i ≤ unreduced_terms = omega arith in
    omega (arith, small j, mul-le-mul_right (p * p) steps, le-mul_of_pos_right p positive)

-- what a turn puts into the quotient
pub factor_is : (p x y : ℕ) {v c : ℕ} → v ≡ x % p → c ≡ (modulo p).mul v y → c ≡ x % p * y % p
unfolding modulo
factor_is p x y ev ec = rw (← ev) ec

-- at the end all coefficients are divided
pub dividing_end : (p : ℕ) {h₀ q₀ : List ℕ} {n : ℕ} {b q h : List ℕ} {i : ℕ} → 0 < p → n ≤ unreduced_terms → i ≡ 0 →
    Dividing p h₀ q₀ n b q h i → LongDivided p (take n h₀) n b q h
dividing_end p {h₀} {q₀} {n} {b} {q} {h} positive few end state =
    let last : Dividing p h₀ q₀ n b q h 0 = rw end at state in
    let all : n - 0 ≡ n = omega arith in
    record {
      quotient = rw all at last.quotient;
      remainder = rw all at last.remainder;
      small_quotient = λ j. omega (arith, last.small_quotient j, le-mul_of_pos_right p positive);
      small_remainder = λ j. omega (arith, word_small p n 0 h positive few last.small_remainder j);
    }
