-- The polynomials that arrays stand for: their lengths, their parts, several in a row.
use Rattle.std.specs.Prelude.{◌≡◌, length, get_or, take, drop}
use Rattle.std.proofs.Math.Path.{refl, ap, ap₂}
use Rattle.std.proofs.Common.{sym, ◌∙◌, add-one, drop-cons}
use mathlib.Core.List.{List, [], ◌∷◌, ◌++◌}
use Prim.Native.Nat.{ℕ, zero, suc, ◌+◌, ◌*◌, ◌≤◌, ◌<◌}
use native.Mathlib.Omega.{arith}
use Rattle.words.specs.Word.{AllBelow}
use Rattle.write_frame.specs.Values.{numbers_from, polynomial_in, polynomials_in}

length_numbers_from : (xs : List ℕ) (at count : ℕ) → length (numbers_from xs at count) ≡ count
unfolding numbers_from
length_numbers_from xs at zero = refl
length_numbers_from xs at (suc count) = ap suc (length_numbers_from xs (at + 1) count)

-- numbers within the array are a part of it
pub numbers_from_part : (xs : List ℕ) (at count : ℕ) → at + count ≤ length xs → numbers_from xs at count ≡ take count (drop at xs)
unfolding numbers_from
numbers_from_part xs at zero h = refl
numbers_from_part xs at (suc count) h =
    let here = drop-cons xs at 0 (omega arith) in
    ap (λ (rest : List ℕ). get_or xs at 0 ∷ rest)
    (numbers_from_part xs (at + 1) count (omega arith) ∙ ap (λ (i : ℕ). take count (drop i xs)) (add-one at))
    ∙ ap (take (suc count)) (sym here)

-- their entries, 0 behind them
pub get_or_numbers_from : (xs : List ℕ) (at count i : ℕ) → i < count → get_or (numbers_from xs at count) i 0 ≡ get_or xs (at + i) 0
unfolding numbers_from
get_or_numbers_from xs at zero i h = absurd (omega arith)
get_or_numbers_from xs at (suc count) zero h = let e : at ≡ at + 0 = omega arith in ap (λ (k : ℕ). get_or xs k 0) e
get_or_numbers_from xs at (suc count) (suc i) h =
    let e : at + 1 + i ≡ at + suc i = omega arith in
    get_or_numbers_from xs (at + 1) count i (omega arith) ∙ ap (λ (k : ℕ). get_or xs k 0) e

pub get_or_numbers_from_behind : (xs : List ℕ) (at count i : ℕ) → count ≤ i → get_or (numbers_from xs at count) i 0 ≡ 0
unfolding numbers_from
get_or_numbers_from_behind xs at zero i h = refl
get_or_numbers_from_behind xs at (suc count) zero h = absurd (omega arith)
get_or_numbers_from_behind xs at (suc count) (suc i) h = get_or_numbers_from_behind xs (at + 1) count i (omega arith)

pub numbers_from_below : (bound : ℕ) (xs : List ℕ) (at count : ℕ) → AllBelow bound xs → AllBelow bound (numbers_from xs at count)
unfolding numbers_from
numbers_from_below bound xs at zero h i = let b = h 0 in omega arith
numbers_from_below bound xs at (suc count) h zero = h at
numbers_from_below bound xs at (suc count) h (suc i) = numbers_from_below bound xs (at + 1) count h i

module _ (stride : ℕ) (sizes coefficients : List ℕ) where
  abbrev at : ℕ → List ℕ
  at k = polynomial_in stride sizes coefficients k

  abbrev from : ℕ → ℕ → List (List ℕ)
  from k count = polynomials_in stride sizes coefficients k count

  pub length_polynomial_in : (k : ℕ) → length (at k) ≡ get_or sizes k 0
  unfolding polynomial_in
  length_polynomial_in k = length_numbers_from coefficients (stride * k) (get_or sizes k 0)

  -- a polynomial within the array is a part of the array
  pub polynomial_in_part : (k : ℕ) → stride * k + get_or sizes k 0 ≤ length coefficients
      → at k ≡ take (get_or sizes k 0) (drop (stride * k) coefficients)
  unfolding polynomial_in
  polynomial_in_part k h = numbers_from_part coefficients (stride * k) (get_or sizes k 0) h

  pub polynomials_in_cons : (k count : ℕ) → from k (suc count) ≡ at k ∷ from (k + 1) count
  unfolding polynomials_in
  polynomials_in_cons k count = refl

  pub length_polynomials_in : (k count : ℕ) → length (from k count) ≡ count
  unfolding polynomials_in
  length_polynomials_in k zero = refl
  length_polynomials_in k (suc count) = ap suc (length_polynomials_in (k + 1) count)

  pub get_or_polynomials_in : (k count i : ℕ) → i < count → get_or (from k count) i [] ≡ at (k + i)
  unfolding polynomials_in
  get_or_polynomials_in k zero i h = absurd (omega arith)
  get_or_polynomials_in k (suc count) zero h = let e : k ≡ k + 0 = omega arith in ap at e
  get_or_polynomials_in k (suc count) (suc i) h =
      let e : k + 1 + i ≡ k + suc i = omega arith in get_or_polynomials_in (k + 1) count i (omega arith) ∙ ap at e

  pub polynomials_in_append : (k i count : ℕ) → from k i ++ from (k + i) count ≡ from k (i + count)
  unfolding polynomials_in
  polynomials_in_append k zero count =
      let e : k + 0 ≡ k = omega arith in
      let z : count ≡ 0 + count = omega arith in
      ap₂ from e z
  polynomials_in_append k (suc i) count =
      let e : suc i + count ≡ suc (i + count) = omega arith in
      let j : k + suc i ≡ k + 1 + i = omega arith in
      ap (λ (rest : List (List ℕ)). at k ∷ rest)
      (ap (λ (l : ℕ). from (k + 1) i ++ from l count) j ∙ polynomials_in_append (k + 1) i count)
      ∙ ap (from k) (sym e)
