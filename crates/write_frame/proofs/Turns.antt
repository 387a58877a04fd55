-- A turn of a loop over polynomials in arrays: which part of the arrays polynomial k is.
use mathlib.Core.Path.{◌≡◌, sym, ap, ◌∙◌}
use mathlib.Core.List.{List}
use Prim.Native.Nat.{ℕ, ◌+◌, ◌-◌, ◌*◌, ◌≤◌, ◌<◌}
use native.Mathlib.Nat.{mul-le-mul_left, mul-le-mul_right}
use native.Mathlib.Omega.{arith}
use lib.ListN.{length, get_or, take, drop}
use Rattle.words.specs.Word.{payload_bound}
use Rattle.write_frame.specs.declared.format.Format.{Format}
use Rattle.write_frame.specs.Framing.{Covers}
use Rattle.write_frame.specs.Values.{polynomial_in}
use Rattle.write_frame.specs.ValuesLaws.{polynomial_in_part}

-- polynomial k is due in a loop over the arrays: it is within them, and so are its words' places
pub record Turn (stride limit : ℕ) (sizes coefficients : List ℕ) (place k : ℕ) : Type 0 where
  pub sized : k < length sizes
  pub roomy : stride * k + limit ≤ length coefficients
  pub short : place + 1 + limit < payload_bound

pub turn : {format : Format} {sizes coefficients : List ℕ} {place k : ℕ} → Covers format sizes coefficients
    → place ≤ 1 + k * (1 + format.limit)
    → k < format.count → Turn format.stride format.limit sizes coefficients place k
turn {format} {sizes} {coefficients} {place} {k} h m d =
    let n : k + 1 ≤ format.count = omega arith in
    let apart = h.apart in
    record {
      sized = omega arith;
      roomy = omega (arith, mul-le-mul_left format.stride n);
      short = omega (arith, mul-le-mul_right (1 + format.limit) n);
    }

-- the part that code lends
abbrev pub part_of : ℕ → List ℕ → List ℕ → ℕ → List ℕ
part_of stride sizes coefficients k = take (stride * k + get_or sizes k 0 - stride * k) (drop (stride * k) coefficients)

pub part_of_polynomial : (stride : ℕ) (sizes coefficients : List ℕ) (k : ℕ) → stride * k + get_or sizes k 0 ≤ length coefficients
    → part_of stride sizes coefficients k ≡ polynomial_in stride sizes coefficients k
part_of_polynomial stride sizes coefficients k r =
    let n : stride * k + get_or sizes k 0 - stride * k ≡ get_or sizes k 0 = omega arith in
    ap (λ (i : ℕ). take i (drop (stride * k) coefficients)) n ∙ sym (polynomial_in_part stride sizes coefficients k r)
