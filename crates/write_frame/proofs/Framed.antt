-- A turn of the loop that writes polynomials: those before k are written over the first of the lent words.
use mathlib.Core.Path.{◌≡◌, refl, sym, ap, ◌∙◌, subst}
use mathlib.Core.List.{List, [], ◌∷◌, ◌++◌, append_assoc, append-nil}
use Prim.Native.Nat.{ℕ, ◌+◌, ◌-◌, ◌*◌, ◌≤◌, ◌<◌}
use native.Mathlib.Nat.{mul-le-mul_right, le_of_eq}
use native.Mathlib.Omega.{arith}
use lib.ListN.{length, get_or, take, drop, set, length-append, length-take, length-drop}
use Rattle.words.specs.Word.{AllBelow, payload_bound}
use Rattle.words.specs.Polynomial.{polynomial_words, polynomials_words}
use Rattle.words.proofs.PolynomialLaws.{length_polynomial_words}
use Rattle.words.specs.Frame.{end_word, framed_words}
use Rattle.words.proofs.FrameLaws.{length_framed_words}
use Rattle.write_frame.specs.Overwriting.{overwritten}
use Rattle.write_frame.specs.Framing.{Wrote}
use Rattle.write_frame.specs.Values.{polynomial_in, polynomials_in}
use Rattle.write_frame.specs.ValuesLaws.{length_polynomial_in, polynomials_in_append}
use Rattle.write_frame.proofs.Turns.{part_of, part_of_polynomial}
use Rattle.write_frame.proofs.Overwriting.{length_overwritten, set_written, part_written}

polynomials_words_append : (fs gs : List (List ℕ)) → polynomials_words (fs ++ gs) ≡ polynomials_words fs ++ polynomials_words gs
unfolding polynomials_words
polynomials_words_append [] gs = refl
polynomials_words_append (f ∷ fs) gs =
    ap (λ (r : List ℕ). polynomial_words f ++ r) (polynomials_words_append fs gs)
    ∙ sym (append_assoc (polynomial_words f) (polynomials_words fs) (polynomials_words gs))

module _ (stride : ℕ) (sizes coefficients : List ℕ) where
  -- the words of the polynomials before k
  abbrev front : ℕ → List ℕ
  front k = polynomials_words (polynomials_in stride sizes coefficients 0 k)

  front_next : (k : ℕ) → front k ++ polynomial_words (polynomial_in stride sizes coefficients k) ≡ front (k + 1)
  unfolding polynomials_words polynomials_in
  front_next k =
      let f = polynomial_in stride sizes coefficients k in
      let fs = polynomials_in stride sizes coefficients 0 k in
      let z : k ≡ 0 + k = omega arith in
      ap (λ (r : List ℕ). front k ++ r) (sym (append-nil (polynomial_words f)))
      ∙ sym (polynomials_words_append fs (f ∷ []))
      ∙ ap polynomials_words
      (ap (λ (i : ℕ). fs ++ polynomials_in stride sizes coefficients i 1) z ∙ polynomials_in_append stride sizes coefficients 0 k 1)

  module _ (count : ℕ) (lent : List ℕ) where
    -- no polynomial is longer
    abbrev pub Few : ℕ → Type 0
    Few limit = (k : ℕ) → k < count → get_or sizes k 0 ≤ limit

    pub record PolynomialsWritten (now : List ℕ) (at k : ℕ) : Type 0 where
      pub within : k ≤ count
      pub most : (limit : ℕ) → Few limit → at ≤ k * (1 + limit)
      pub place : at ≡ length (front k)
      pub size : length now ≡ length lent
      pub words : now ≡ overwritten (front k) lent

    pub written_none : PolynomialsWritten lent 0 0
    unfolding polynomials_words polynomials_in
    written_none = record { within = omega arith; most = λ limit few. omega arith; place = refl; size = refl; words = refl }

    module _ {now : List ℕ} {at k limit : ℕ} (t : PolynomialsWritten now at k) (few : Few limit)
        (room : count * (1 + limit) ≤ length lent) (h : k < count) where
      -- there is room for polynomial k
      pub room_left : at + (1 + limit) ≤ length now
      room_left =
          let m = t.most limit few in
          let s = t.size in
          let n : k + 1 ≤ count = omega arith in
          omega (arith, mul-le-mul_right (1 + limit) n)

      pub written_one : (part : List ℕ) → stride * k + get_or sizes k 0 ≤ length coefficients
          → part ≡ overwritten (polynomial_words (part_of stride sizes coefficients k)) (take (length now - at) (drop at now))
          → PolynomialsWritten (take at now ++ (part ++ drop (length now - at) (drop at now))) (at + (1 + get_or sizes k 0)) (k + 1)
      written_one part r e =
          let f = polynomial_in stride sizes coefficients k in
          let place = t.place in
          let left = room_left in
          let short = few k h in
          let n = length_polynomial_words f in
          let m = length_polynomial_in stride sizes coefficients k in
          let e' = e ∙ ap (λ (g : List ℕ). overwritten (polynomial_words g) (take (length now - at) (drop at now)))
          (part_of_polynomial stride sizes coefficients k r) in
          let w = part_written (front k) (polynomial_words f) lent now at part t.words place e'
          ∙ ap (λ (v : List ℕ). overwritten v lent) (front_next k) in
          let l : at + (1 + get_or sizes k 0) ≡ length (front (k + 1))
          = omega (arith, length-append (front k) (polynomial_words f), ap length (front_next k)) in
          record {
            within = omega arith;
            most = λ limit few. omega (arith, t.most limit few, few k h);
            place = l;
            size = ap length w ∙ length_overwritten (front (k + 1)) lent (omega (arith, t.size));
            words = w;
          }

    pub written_all : {now : List ℕ} {at k limit : ℕ} → PolynomialsWritten now at k → Few limit → count ≤ k
        → Wrote (front count) lent now at × (at ≤ count * (1 + limit))
    written_all {now} {at} {k} {limit} t few h =
        let w = t.within in
        let most = t.most limit few in
        let e : k ≡ count = omega arith in (
          record {
            count =
                t.place ∙ ap (λ (i : ℕ). length (front i)) e;
            words = t.words ∙ ap (λ (i : ℕ). overwritten (front i) lent) e;
          },
          omega (arith, mul-le-mul_right (1 + limit) (le_of_eq e)),
        )

  -- what writing polynomial k asks, of the parts that code lends
  pub part_ready : (limit k : ℕ) (now : List ℕ) (at : ℕ) → stride * k + get_or sizes k 0 ≤ length coefficients
      → get_or sizes k 0 ≤ limit → limit < payload_bound
      → at + (1 + limit) ≤ length now → AllBelow payload_bound (polynomial_in stride sizes coefficients k)
      → (1 + length (part_of stride sizes coefficients k) ≤ length (take (length now - at) (drop at now)))
      × (length (part_of stride sizes coefficients k) < payload_bound)
      × AllBelow payload_bound (part_of stride sizes coefficients k)
  part_ready limit k now at r few short left below =
      let e = part_of_polynomial stride sizes coefficients k r in
      let n = ap length e ∙ length_polynomial_in stride sizes coefficients k in (
        simp (length-take (length now - at) (drop at now), length-drop) (omega arith),
        omega arith,
        subst
            (λ (f : List ℕ). AllBelow payload_bound f) (sym e) below,
      )

-- ---- a head, polynomials that a callee wrote behind it, an end

module _ (head : ℕ) (fs : List (List ℕ)) (lent part : List ℕ) (n : ℕ) where
  abbrev headed : List ℕ
  headed = set lent 0 head

  -- the callee's part is back
  abbrev whole : List ℕ
  whole = take 1 headed ++ (part ++ drop (length headed - 1) (drop 1 headed))

  module _ (room : 2 + n ≤ length lent) (w : Wrote (polynomials_words fs) (take (length headed - 1) (drop 1 headed)) part n) where
    whole_written : whole ≡ overwritten (head ∷ polynomials_words fs) lent
    whole_written =
        part_written (head ∷ []) (polynomials_words fs) lent headed 1 part
        (set_written [] lent lent 0 head refl refl (omega arith)) refl w.words

    pub framed_written : Wrote (framed_words head fs) lent (set whole (1 + n) (4 * payload_bound + (1 + n + 1))) (1 + n + 1)
    unfolding framed_words
    framed_written =
        let c = w.count in
        let ws = polynomials_words fs in
        let e : 4 * payload_bound + (1 + n + 1) ≡ end_word (1 + length ws) = omega arith in
        record {
          count = omega (arith, length_framed_words head fs);
          words =
              set_written (head ∷ ws) lent whole (1 + n) _ whole_written (omega arith) (omega arith)
              ∙ ap (λ (v : ℕ). overwritten (head ∷ ws ++ v ∷ []) lent) e;
        }
