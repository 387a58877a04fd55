-- Polynomials laid into arrays: the arrays keep their lengths, one polynomial more, and the polynomials that the arrays then stand
-- for.
use Rattle.std.specs.Prelude.{◌≡◌, replicate}
use Rattle.std.proofs.Math.Path.{refl, sym, ap, ap₂}
use Rattle.std.proofs.Common.{◌∙◌, take-append-drop, drop-drop, drop-cons, get_or-drop, length-take-le, ext_get_or}
use mathlib.Core.List.{List, [], ◌∷◌, ◌++◌, map, append_assoc}
use Prim.Native.Nat.{ℕ, zero, suc, ◌+◌, ◌*◌, ◌≤◌, ◌<◌}
use Rattle.std.proofs.Math.Nat.{mul-le-mul_left}
use native.Mathlib.Omega.{arith}
use Rattle.std.proofs.Math.ListN.{length, get_or, take, drop, length-append, length-drop, length-map, get_or-append, get_or-map}
use Rattle.std.proofs.Math.Seq.{take_at, take-append-add, drop-append-add}
use Rattle.std.proofs.lemmas.List.{drop-append-le}
use Rattle.words.specs.Word.{AllBelow}
use Rattle.words.proofs.WidthLaws.{below_nil, below_cons, below_append}
use Rattle.write_frame.specs.Overwriting.{overwritten}
use Rattle.write_frame.specs.Values.{numbers_from, polynomial_in, polynomials_in}
use Rattle.write_frame.specs.ValuesLaws.{numbers_from_part, length_polynomials_in, get_or_polynomials_in}
use Rattle.values.specs.Laid.{sizes_over, laid_over}

pub length_sizes : (fs : List (List ℕ)) (lent : List ℕ) → length fs ≤ length lent → length (sizes_over fs lent) ≡ length lent
unfolding sizes_over
length_sizes fs lent room =
    omega (
      arith,
      length-map fs length,
      length-append (map length fs) (drop (length (map length fs)) lent),
      length-drop (length (map length fs)) lent,
    )

module _ (stride : ℕ) where
  -- no polynomial is longer than its room
  abbrev pub Few : List (List ℕ) → Type 0
  Few fs = (k : ℕ) → length (get_or fs k []) ≤ stride

  module _ (f v : List ℕ) (few : length f ≤ stride) (room : stride ≤ length v) where
    length_room : length (overwritten f (take stride v)) ≡ stride
    length_room =
        omega (
          arith,
          length-append f (drop (length f) (take stride v)),
          length-drop (length f) (take stride v),
          length-take-le stride v room,
        )

    -- one room, and what is behind it
    room_of : overwritten f (take stride v) ++ drop stride v ≡ overwritten f v
    room_of =
        append_assoc f (drop (length f) (take stride v)) (drop stride v)
        ∙ ap (λ (r : List ℕ). f ++ r)
        (sym (drop-append-le (length f) (take stride v) (drop stride v) (omega (arith, length-take-le stride v room)))
        ∙ ap (drop (length f)) (take-append-drop stride v))

  pub length_laid : (fs : List (List ℕ)) (v : List ℕ) → Few fs → stride * length fs ≤ length v
      → length (laid_over stride fs v) ≡ length v
  unfolding laid_over
  length_laid [] v few room = refl
  length_laid (f ∷ fs) v few room =
      let long = length-drop stride v in
      omega (
        arith,
        length-append (overwritten f (take stride v)) (laid_over stride fs (drop stride v)),
        length_room f v (few 0) (omega arith),
        length_laid fs (drop stride v) (λ k. few (suc k)) (omega arith),
      )

  -- one polynomial more, into the room behind
  pub laid_next : (fs : List (List ℕ)) (f v : List ℕ) → Few fs → length f ≤ stride → stride * length fs + stride ≤ length v
      → take (stride * length fs) (laid_over stride fs v) ++ overwritten f (drop (stride * length fs) (laid_over stride fs v))
      ≡ laid_over stride (fs ++ f ∷ []) v
  unfolding laid_over
  laid_next [] f v few short room =
      let none : stride * 0 ≡ 0 = omega arith in
      ap (λ (n : ℕ). take n v ++ overwritten f (drop n v)) none ∙ sym (room_of f v short (omega arith))
  laid_next (g ∷ fs) f v few short room =
      let first = overwritten g (take stride v) in
      let rest = laid_over stride fs (drop stride v) in
      let n = stride * length fs in
      let long = length-drop stride v in
      let place : stride * suc (length fs) ≡ length first + n = omega (arith, length_room g v (few 0) (omega arith)) in
      ap (λ (i : ℕ). take i (first ++ rest) ++ overwritten f (drop i (first ++ rest))) place
      ∙ ap₂ (λ (a b : List ℕ). a ++ overwritten f b) (take-append-add first rest n) (drop-append-add first rest n)
      ∙ append_assoc first (take n rest) (overwritten f (drop n rest))
      ∙ ap (λ (r : List ℕ). first ++ r) (laid_next fs f (drop stride v) (λ k. few (suc k)) short (omega arith))

  -- from the room of polynomial k on
  drop_laid : (k : ℕ) (fs : List (List ℕ)) (v : List ℕ) → Few fs → k ≤ length fs → stride * length fs ≤ length v
      → drop (stride * k) (laid_over stride fs v) ≡ laid_over stride (drop k fs) (drop (stride * k) v)
  unfolding laid_over
  drop_laid zero fs v few within room =
      let none : stride * 0 ≡ 0 = omega arith in
      ap (λ (n : ℕ). drop n (laid_over stride fs v)) none ∙ ap (λ (n : ℕ). laid_over stride fs (drop n v)) (sym none)
  drop_laid (suc k) [] v few within room = absurd (omega arith)
  drop_laid (suc k) (f ∷ fs) v few within room =
      let first = overwritten f (take stride v) in
      let rest = laid_over stride fs (drop stride v) in
      let long = length-drop stride v in
      let place : stride * suc k ≡ length first + stride * k = omega (arith, length_room f v (few 0) (omega arith)) in
      let place' : stride + stride * k ≡ stride * suc k = omega arith in
      ap (λ (i : ℕ). drop i (first ++ rest)) place
      ∙ drop-append-add first rest (stride * k)
      ∙ drop_laid k fs (drop stride v) (λ j. few (suc j)) (omega arith) (omega arith)
      ∙ ap (laid_over stride (drop k fs)) (drop-drop (stride * k) stride v ∙ ap (λ (n : ℕ). drop n v) place')

  -- ---- the polynomials that the arrays stand for

  module _ (fs : List (List ℕ)) (sizes v : List ℕ) (few : Few fs) (room : stride * length fs ≤ length v) where
    size_laid : (k : ℕ) → k < length fs → get_or (sizes_over fs sizes) k 0 ≡ length (get_or fs k [])
    unfolding sizes_over
    size_laid k some =
        let all = length-map fs length in
        get_or-append (map length fs) (drop (length (map length fs)) sizes) 0 k (omega arith) ∙ get_or-map length fs k []

    polynomial_laid : (k : ℕ) → k < length fs → polynomial_in stride (sizes_over fs sizes) (laid_over stride fs v) k ≡ get_or fs k []
    unfolding polynomial_in laid_over
    polynomial_laid k some =
        let f = get_or fs k [] in
        let behind = drop (stride * k) v in
        let more : k + 1 ≤ length fs = omega arith in
        ap (numbers_from (laid_over stride fs v) (stride * k)) (size_laid k some)
        ∙ numbers_from_part (laid_over stride fs v) (stride * k) (length f)
        (omega (arith, few k, length_laid fs v few room, mul-le-mul_left stride more))
        ∙ ap (take (length f))
        (drop_laid k fs v few (omega arith) room
        ∙ ap (λ (gs : List (List ℕ)). laid_over stride gs behind) (drop-cons fs k [] some)
        ∙ append_assoc f (drop (length f) (take stride behind)) (laid_over stride (drop (suc k) fs) (drop stride behind)))
        ∙ take_at f _ (length f) refl

    pub entries_laid : polynomials_in stride (sizes_over fs sizes) (laid_over stride fs v) 0 (length fs) ≡ fs
    entries_laid =
        let all = length_polynomials_in stride (sizes_over fs sizes) (laid_over stride fs v) 0 (length fs) in
        ext_get_or [] _ fs all (λ k lt.
        let some : k < length fs = omega arith in
        let place : 0 + k ≡ k = omega arith in
        get_or_polynomials_in stride (sizes_over fs sizes) (laid_over stride fs v) 0 (length fs) k some
        ∙ ap (polynomial_in stride (sizes_over fs sizes) (laid_over stride fs v)) place
        ∙ polynomial_laid k some)

-- ---- numbers below a bound

module _ (bound : ℕ) where
  pub below_replicate : (n : ℕ) → 0 < bound → AllBelow bound (replicate n 0)
  below_replicate zero positive = below_nil bound positive
  below_replicate (suc n) positive = below_cons bound 0 (replicate n 0) positive (below_replicate n positive)

  below_take : (n : ℕ) (v : List ℕ) → AllBelow bound v → AllBelow bound (take n v)
  below_take zero v h i = let positive = h 0 in omega arith
  below_take (suc n) [] h i = h i
  below_take (suc n) (a ∷ v) h zero = h zero
  below_take (suc n) (a ∷ v) h (suc i) = below_take n v (λ j. h (suc j)) i

  below_drop : (n : ℕ) (v : List ℕ) → AllBelow bound v → AllBelow bound (drop n v)
  below_drop n v h i = rw get_or-drop (h (n + i))

  below_lengths : (fs : List (List ℕ)) → 0 < bound → ((k : ℕ) → length (get_or fs k []) < bound) → AllBelow bound (map length fs)
  below_lengths [] positive each = below_nil bound positive
  below_lengths (f ∷ fs) positive each =
      below_cons bound (length f) (map length fs) (each 0) (below_lengths fs positive (λ k. each (suc k)))

  pub below_sizes : (fs : List (List ℕ)) (lent : List ℕ) → ((k : ℕ) → length (get_or fs k []) < bound) → AllBelow bound lent
      → AllBelow bound (sizes_over fs lent)
  unfolding sizes_over
  below_sizes fs lent each h =
      let some = each 0 in
      below_append bound (map length fs) (drop (length (map length fs)) lent) (below_lengths fs (omega arith) each)
      (below_drop (length (map length fs)) lent h)

  pub below_laid : (stride : ℕ) (fs : List (List ℕ)) (v : List ℕ) → ((k : ℕ) → AllBelow bound (get_or fs k [])) → AllBelow bound v
      → AllBelow bound (laid_over stride fs v)
  unfolding laid_over
  below_laid stride [] v each h = h
  below_laid stride (f ∷ fs) v each h =
      below_append bound (overwritten f (take stride v)) (laid_over stride fs (drop stride v))
      (below_append bound f (drop (length f) (take stride v)) (each 0)
      (below_drop (length f) (take stride v) (below_take stride v h)))
      (below_laid stride fs (drop stride v) (λ k. each (suc k)) (below_drop stride v h))
