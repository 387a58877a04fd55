-- The window at the start of a row: Z_i, copied and divided by w, then what is left of it copied to its place and reduced.
use mathlib.Core.Path.{◌≡◌, sym, ap, ◌∙◌, subst}
use mathlib.Core.Logic.{◌⊎◌, inl, inr, ⊎_elim}
use mathlib.Core.List.{List}
use Prim.Native.Nat.{ℕ, ◌+◌, ◌-◌, ◌%◌, ◌≤◌, ◌<◌, min}
use native.Mathlib.Nat.{mod-lt, mod-mod, zero-mod, zero-add}
use native.Mathlib.Omega.{arith}
use lib.ListN.{length, get_or, take, drop, get_or-eq_default}
use lib.Seq.{get_or-take, length-take-le, take_all, ext_get_or}
use Rattle.algebra.specs.Coefficients.{coefficient, leading, remainder, divide}
use Rattle.modular.specs.Prime.{Prime}
use Rattle.modular.specs.Modulo.{modulo}
use Rattle.modular.specs.Canonical.{Canonical}
use Rattle.modular.specs.Coefficientwise.{coefficient_beyond}
use Rattle.modular.specs.Lists.{length_remainder}
use Rattle.residue.specs.Sum.{SmallSum}
use Rattle.vector.specs.Bound.{AtMost, Reducible}
use Rattle.vector.specs.Reduced.{polynomial, polynomial_same, reduced_is, canonical_reduced, coefficient_reduced, residue_same}
use Rattle.vector.specs.Reduced.{word_inside, word_behind}
use Rattle.vector.specs.Size.{length_polynomial}
use Rattle.vector.specs.Stored.{stored, stored_first, stored_inside, stored_outside, stored_all, stored_all_first, length_stored}
use Rattle.vector.specs.Stored.{below_or_not}
use Rattle.polynomial_words.specs.Long.{Divisor, LongDivided}
use Rattle.polynomial_words.specs.Window.{ReducedFrom}
use Rattle.loader.specs.SlotLaws.{canonical_word}

-- w as a divisor
module _ {p : ℕ} (positive : 0 < p) (w : List ℕ) (canonical : Canonical p w) (some : 0 < length w) where
  whole : take (length w - 1 + 1) w ≡ w
  whole = take_all (length w - 1 + 1) w (omega arith)

  pub divisor_of : (inverse : ℕ) → inverse ≡ (modulo p).inverse (leading (modulo p) w) → Divisor p w (length w - 1) inverse
  divisor_of inverse e = record {
    room = omega arith;
    canonical = subst (Canonical p) (sym whole) canonical;
    small = λ i. omega (arith, canonical_word p positive w canonical i);
    inverts = e ∙ ap (λ l. (modulo p).inverse (leading (modulo p) l)) (sym whole);
  }

-- z in words that were zeros
module _ {p : ℕ} (positive : 0 < p) (z : List ℕ) (canonical : Canonical p z) (zeros : List ℕ) {copied : List ℕ}
    (none : AtMost 0 zeros)
    (room : length z ≤ length zeros) (copies : copied ≡ stored (λ j. get_or z (0 + j) 0) zeros 0 (length z)) where
  same_room : length copied ≡ length zeros
  same_room = ap length copies ∙ length_stored _ zeros 0 (length z)

  pub copied_is : take (length z) copied ≡ z
  copied_is =
      let long = length-take-le (length z) copied (omega (arith, same_room)) in
      ext_get_or 0 (take (length z) copied) z long (λ i lt.
      let inside : i < length z = omega (arith, long) in
      get_or-take (length z) copied i 0 inside
      ∙ ap (λ l. get_or l i 0) copies
      ∙ stored_first (λ j. get_or z (0 + j) 0) zeros (length z) i room inside
      ∙ ap (λ k. get_or z k 0) (zero-add i))

  pub copied_small : AtMost p copied
  copied_small = stored_all_first (λ i x. x ≤ p) _ zeros copied (length z) copies room
      (λ j lt. omega (arith, canonical_word p positive z canonical (0 + j)))
      (λ i ge. omega (arith, none i))

-- words that were cleared
pub cleared_none : (n : ℕ) (h : List ℕ) {h' : List ℕ} → length h ≡ n → h' ≡ stored (λ j. 0) h 0 n → AtMost 0 h'
cleared_none n h {h'} long clears = stored_all_first (λ i x. x ≤ 0) _ h h' n clears (omega (arith, long)) (λ j lt. omega arith)
    (λ i ge. let none : get_or h i 0 ≡ 0 = get_or-eq_default h 0 (omega (arith, long)) in omega arith)

-- what is left of it, from the place a on
module _ {p : ℕ} (prime : Prime p) (z w : List ℕ) (hz : Canonical p z) (hw : Canonical p w) (some : 0 < length w) (a : ℕ)
    (copied : List ℕ) {q rest : List ℕ} (is : take (length z) copied ≡ z)
    (divided : LongDivided p (take (length z) copied) (length z) (take (length w - 1 + 1) w) q rest)
    (window : List ℕ) {moved : List ℕ} (none : AtMost 0 window) (room : a + (length w - 1) ≤ length window)
    (m : ℕ) (lesser : m ≡ min (length z) (length w - 1))
    (moves : moved ≡ stored (λ j. get_or rest (0 + j) 0) window a m) where
  positive : 0 < p
  positive = omega (arith, prime.large)

  abbrev e : ℕ
  e = length w - 1

  abbrev f : List ℕ
  f = remainder (modulo p) z w

  long : length moved ≡ length window
  long = ap length moves ∙ length_stored _ window a m

  left : polynomial p rest 0 (length z) ≡ f
  left =
      divided.remainder
      ∙ ap (λ l. (divide (modulo p) l (take (e + 1) w)).remainder) is
      ∙ ap (λ l. (divide (modulo p) z l).remainder) (whole positive w hw some)

  pub moved_reducible : Reducible p moved (a + e)
  moved_reducible j lt = stored_all (λ i x. SmallSum p x) _ window moved a m moves (omega (arith, room, lesser))
      (λ i l. divided.small_remainder (0 + i)) (λ i out. omega (arith, none i)) j

  word : (i : ℕ) → get_or (take e (drop a moved)) i 0 % p ≡ coefficient (modulo p) f i
  word i = ⊎_elim
      (λ lt.
      let in_e : i < e = omega (arith, lesser) in
      let in_z : i < length z = omega (arith, lesser) in
      residue_same p (word_inside moved a e i in_e ∙ ap (λ l. get_or l (a + i) 0) moves
      ∙ stored_inside (λ j. get_or rest (0 + j) 0) window a m i (omega (arith, room, lesser)) lt
      ∙ sym (word_inside rest 0 (length z) i in_z))
      ∙ sym (coefficient_reduced p positive (take (length z) (drop 0 rest)) i)
      ∙ ap (λ l. coefficient (modulo p) l i) left)
      (λ ge.
      residue_same p (behind i ge) ∙ zero-mod p
      ∙ sym (coefficient_beyond p f i (omega (
        arith,
        lesser,
        length_remainder p prime z w hz hw some,
        ap length left,
        length_polynomial p rest 0 (length z),
      ))))
      (below_or_not i m)
    where
      behind : (i : ℕ) → m ≤ i → get_or (take e (drop a moved)) i 0 ≡ 0
      behind i ge = ⊎_elim
          (λ lt. word_inside moved a e i lt ∙ ap (λ l. get_or l (a + i) 0) moves
          ∙ stored_outside _ window a m (a + i) (inr (omega arith)) ∙ omega (arith, none (a + i)))
          (word_behind moved a e i)
          (below_or_not i e)

  module _ {exit : List ℕ} (reduces : exit ≡ stored (λ j. get_or moved j 0 % p) moved 0 (a + e)) where
    started_room : length exit ≡ length window
    started_room = ap length reduces ∙ length_stored _ moved 0 (a + e) ∙ long

    reduced_word : (i : ℕ) → i < a + e → get_or exit i 0 ≡ get_or moved i 0 % p
    reduced_word i lt = ap (λ l. get_or l i 0) reduces
        ∙ stored_first (λ j. get_or moved j 0 % p) moved (a + e) i (omega (arith, room, long)) lt

    started_value : polynomial p exit a e ≡ f
    started_value =
        polynomial_same p positive exit moved a a e
        (λ j lt. residue_same p (reduced_word (a + j) (omega arith)) ∙ mod-mod (get_or moved (a + j) 0) p)
        ∙ reduced_is p positive (take e (drop a moved)) f
        (subst (Canonical p) left (canonical_reduced p positive (take (length z) (drop 0 rest)))) word

    started_window : ReducedFrom p exit a
    started_window = record {
      below = stored_all_first (λ i x. x < p) _ moved exit (a + e) reduces (omega (arith, room, long)) (λ j lt. mod-lt _ positive)
          (λ i ge. subst (λ x. x < p) (sym (kept i (inr (omega (arith, lesser))))) positive);
      zeros = λ i lt. reduced_word i (omega arith) ∙ residue_same p (kept i (inl lt)) ∙ zero-mod p;
    }
      where
        kept : (i : ℕ) → (i < a) ⊎ (a + m ≤ i) → get_or moved i 0 ≡ 0
        kept i out = ap (λ l. get_or l i 0) moves ∙ stored_outside _ window a m i out ∙ omega (arith, none i)

    -- the remainder stands in the window, as long as it was
    pub started : {n : ℕ} → length window ≡ n → (polynomial p exit a e ≡ f) × (ReducedFrom p exit a × (length exit ≡ n))
    started same = (started_value, (started_window, started_room ∙ same))
