-- The right side of the second system times its denominator: that it has room, and what it is.
use Rattle.std.specs.Prelude.{ℕ, ◌+◌, ◌-◌, ◌*◌, ◌<◌, ◌≤◌, ◌≡◌, List, length}
use Rattle.std.proofs.Common.{◌∙◌, arith}
use Rattle.std.proofs.Math.Decide.{ℕ_discrete}
use Rattle.algebra.specs.Polynomial.{Polynomial, polynomials}
use Rattle.algebra.specs.Size.{size, sized, size_mul}
use Rattle.modular.specs.Prime.{Prime}
use Rattle.modular.specs.Residue.{residues}
use Rattle.reduction.specs.Pivot.{Pivot}
use Rattle.reduction.specs.Slots.{Slots, unweighted}
use Rattle.reduction.specs.Transpose.{Tops, second_side, weights}
use Rattle.reduction.specs.Second.{second_room}
use Rattle.reduction.specs.Polynomials.{associate}
use Rattle.reduction.specs.Holds.{Holds, holds_size_exact}
use Rattle.reduction.specs.Flat.{Flat}
use Rattle.vector.specs.Reduced.{polynomial}
use Rattle.solve_lattice.specs.Word.{words}
use Rattle.solve_lattice.specs.Memory.{row, height, Ends, Level, ValidLevel}
use Rattle.solve_lattice.specs.Holding.{HoldsSlots}
use Rattle.solve_lattice.specs.Range.{words_zero, words_shorter, zero_word}
use Rattle.solve_lattice.specs.Reading.{flat_same, ends_pivot}
use Rattle.solve_lattice.specs.Found.{found_ends}
use Rattle.solve_lattice.specs.Room.{product_words, lanes}
use Rattle.solve_second.specs.Product.{BlockMultiplied}
use Rattle.solve_second.specs.Greatest.{greatest, greatest_small}
use Rattle.solve_second.specs.Transposed.{side_held}
use Rattle.solve_second.specs.SideInserted.{tops_lower}
use Rattle.solve_second.specs.Laid.{SecondLaid}
use Rattle.solve_second.specs.Solved.{HasTops}
use Rattle.solve_second.specs.Denominator.{FoundDenominator, DenominatorFound}

pub record SideScaled (p n : ℕ) (L : Level) (w : List ℕ) (count : ℕ) (out : List ℕ) : Type 0 where
  pub holds : (prime : Prime p) (U : Slots (Polynomial (residues p prime))) (x : Polynomial (residues p prime))
      → ValidLevel p L → HoldsSlots p prime n unweighted L U → Holds (residues p prime) (words p prime w 0 count) x
      → Flat (residues p prime) n lanes (weights (polynomials (residues p prime)) n (greatest L n) U)
      (words p prime out 0 product_words)
      (λ i. (polynomials (residues p prime)).mul x (second_side (polynomials (residues p prime)) n (greatest L n) U i))

-- an array of so many words up to the last that is not 0 holds a polynomial of that size
ends_size : (p : ℕ) (prime : Prime p) {l : List ℕ} {N k : ℕ} {x : Polynomial (residues p prime)} → Ends p l 0 N k → 0 < k
    → Holds (residues p prime) (words p prime l 0 N) x → size (residues p prime) x ≡ k
ends_size p prime {l} {N} {k} {x} ends some holds =
    holds_size_exact (residues p prime) holds (k - 1) nonzero (λ j h. words_zero p prime l 0 N k ends.behind j (omega arith))
    ∙ omega arith
  where
    nonzero : ¬ (words p prime l 0 N (k - 1) ≡ (residues p prime).ring.zero)
    nonzero e = omega (arith, ends.last some, zero_word p prime l 0 N (k - 1) (omega (arith, ends.within)) e)

-- the right side as it is laid out, of m words
module _ {p n : ℕ} (small : n ≤ lanes) {L T : Level} {b : List ℕ} (laid : SecondLaid n L T b) (valid : ValidLevel p L) {w : List ℕ}
    {count : ℕ}
    (found : DenominatorFound p n L w count) (m : ℕ) (m_is : m ≡ length (polynomial p b 0 product_words)) where
  positive : 0 < p
  positive = omega (arith, valid.below 0 (omega arith))

  side_ends : Ends p b 0 product_words m
  side_ends = found_ends p positive b product_words product_words (omega arith) (λ j h lt. absurd (omega arith)) m m_is

  pub side_within : m ≤ product_words
  side_within = side_ends.within

  pub side_scaled : {out : List ℕ} → BlockMultiplied p w count b m out → SideScaled p n L w count out
  side_scaled {out} done = record {
    holds = λ prime U x valid holds factor. done.holds prime n (weights (polynomials (residues p prime)) n (greatest L n) U) x
        (second_side (polynomials (residues p prime)) n (greatest L n) U) factor
        (flat_same (words_shorter p prime b 0 product_words m side_ends.within side_ends.behind)
        (side_held p prime small valid holds laid));
  }

  -- L8: where the slots have a second system, its right side has room
  module _ (has : HasTops p n L) where
    module _ (some : 0 < m) (nonzero : 0 < count) where
      tops : Tops (sized (residues p has.prime)) n has.bound (greatest L n) has.slots
      tops = tops_lower has.holds has.tops

      abbrev F : FoundDenominator p has.prime n (greatest L n) has.slots w
      F = found.found has.prime has.bound has.slots has.holds tops

      abbrev x : Polynomial (residues p has.prime)
      x = (polynomials (residues p has.prime)).mul
          (associate (residues p has.prime) (F.inserted.run.now.hand n) F.some).unit (F.inserted.run.now.hand n)

      abbrev g : ℕ → Polynomial (residues p has.prime)
      g = second_side (polynomials (residues p has.prime)) n (greatest L n) has.slots

      P : Pivot (sized (residues p has.prime)) n (weights (polynomials (residues p has.prime)) n (greatest L n) has.slots)
          g (row m) (height m)
      P = ends_pivot p has.prime side_ends (side_held p has.prime small valid has.holds laid) some

      long : size (residues p has.prime) x ≡ count
      long = ends_size p has.prime found.ends nonzero F.holds

      filled_room : count * lanes + m ≤ product_words + lanes
      filled_room = omega (
        arith,
        long,
        P.reached,
        P.positive,
        size_mul (residues p has.prime) x (g (row m)) (omega (arith, long)) P.positive,
        second_room tops F.inserted.run F.inserted.ends
            (associate (residues p has.prime) (F.inserted.run.now.hand n) F.some) (row m) P.inside,
        has.small,
        greatest_small L n small (λ q h. (valid.slot q h).block.within),
      )

    -- w times the right side has at most 136 degrees
    pub product_room : count * lanes + m ≤ product_words + lanes
    product_room = go (ℕ_discrete m 0) (ℕ_discrete count 0)
      where
        go : Dec (m ≡ 0) → Dec (count ≡ 0) → count * lanes + m ≤ product_words + lanes
        go (yes none) d = omega (arith, found.ends.within)
        go (no some) (yes none) = omega (arith, side_within)
        go (no some) (no many) = filled_room (omega arith) (omega arith)
