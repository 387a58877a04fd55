-- `find_coordinate`: what its steps give together.
use Prim.Native.Nat.{ℕ, ◌+◌, ◌*◌, ◌≤◌}
use mathlib.Core.Path.{◌≡◌, refl, sym, ◌∙◌, ap, subst}
use mathlib.Core.List.{List, [], ◌∷◌}
use native.Mathlib.Nat.{mul-le-mul_right}
use native.Mathlib.Omega.{arith}
use Rattle.ring.specs.Ring.{Ring}
use Rattle.ring.specs.Identity.{quotes, identity}
use Rattle.algebra.specs.Polynomial.{Polynomial, polynomials}
use Rattle.modular.specs.Prime.{Prime}
use Rattle.modular.specs.Residue.{residues}
use Rattle.vector.specs.Bound.{AtMost}
use Rattle.reduction.specs.Replace.{extend, extend_below, extend_at, below_suc}
use Rattle.reduction.specs.Slots.{Slots}
use Rattle.reduction.specs.Span.{combined}
use Rattle.reduction.specs.Holds.{Holds, read, read_holds, holds_unique}
use Rattle.reduction.specs.Flat.{flat}
use Rattle.solve_lattice.specs.Memory.{Level}
use Rattle.solve_lattice.specs.Word.{words, words_behind}
use Rattle.solve_lattice.specs.Holding.{HoldsSlots}
use Rattle.solve_lattice.specs.Coefficients.{HoldsCoefficients}
use Rattle.solve_lattice.specs.Room.{block_words, slot_words, tail_words, coordinate_products, lanes, product_degrees}
use Rattle.solve_descent.specs.Degrees.{FewDegrees}
use Rattle.solve_descent.specs.Product.{less}
use Rattle.solve_descent.specs.Combination.{less_all, first_quotient, TakesCombination}
use Rattle.solve_descent.specs.Kernel.{Lessened, TakesKernel}
use Rattle.solve_descent.specs.Coordinate.{Coordinate, FindsCoordinate}
use Rattle.solve_lattice.specs.Reading.{holds_same}
use Rattle.solve_descent.specs.Held.{one_lane, zeros_held}
use Rattle.solve_descent.proofs.Lanes.{quotient_size}
use Rattle.solve_descent.proofs.Combinations.{less_filled}

module _ {p : ℕ} (L : Level) {n : ℕ} {kernel : List ℕ} {size : ℕ} {quotients y y₁ y' : List ℕ} (rows : n ≤ lanes)
    (none : AtMost 0 y)
    {degrees : ℕ} (few : FewDegrees p quotients degrees)
    (C : TakesCombination p 1 tail_words quotients (λ _. degrees) L (λ q. slot_words * q + block_words) n y y₁)
    (K : TakesKernel p y₁ kernel size y') where
  bound_found : AtMost (coordinate_products * (p * p)) y'
  bound_found i =
      let products = mul-le-mul_right (product_degrees * (p * p)) rows in
      omega (arith, K.bound (0 + n * (product_degrees * (p * p))) (C.bound 0 none) i)

  module _ (prime : Prime p) (ω : ℕ → ℕ) (U : Slots (Polynomial (residues p prime))) (v : ℕ → Polynomial (residues p prime))
      (u : Polynomial (residues p prime)) (S : HoldsSlots p prime n ω L U) (Q : HoldsCoefficients p prime n U v quotients)
      (B : Holds (residues p prime) (words p prime kernel 0 block_words) u) where
    abbrev R : Ring (Polynomial (residues p prime))
    R = polynomials (residues p prime)

    -- what stands in the place of a tail, be the slot filled or not
    abbrev tail : ℕ → Polynomial (residues p prime)
    tail q = read (residues p prime) block_words (words p prime L (slot_words * q + block_words) block_words)

    tail_held : (q : ℕ) → Holds (residues p prime) (words p prime L (slot_words * q + block_words) block_words) (tail q)
    tail_held q = read_holds (residues p prime) block_words (words p prime L (slot_words * q + block_words) block_words)
        (λ j ge. words_behind p prime L (slot_words * q + block_words) block_words j ge)

    abbrev tails : Polynomial (residues p prime)
    tails = combined (polynomials (residues p prime)) n Q.span.coefficient U n

    abbrev taken : Polynomial (residues p prime)
    taken = less_all p prime n (polynomials (residues p prime)).zero (first_quotient p prime quotients degrees) tail

    taken_held : Holds (residues p prime) (words p prime y₁ 0 tail_words) taken
    taken_held = holds_same (λ e. ap (words p prime y₁ 0 tail_words) (one_lane e)) (C.holds prime 0 (omega arith) R.zero tail
        (λ q h. holds_same (λ e. ap (words p prime L (slot_words * q + block_words) block_words) (sym (one_lane e))) (tail_held q))
        (zeros_held p prime y none tail_words (flat 1 0)))

    less_kernel : Lessened p prime taken u y'
    less_kernel = K.holds prime taken u taken_held B

    abbrev m : Polynomial (residues p prime)
    m = less_kernel.multiple

    equal : less p prime taken m u ≡ R.neg (less p prime tails (R.neg m) u)
    equal =
        ap (λ x. less p prime x m u) (less_filled prime rows Q (λ _. degrees) (λ q h. few.most)
        (λ q h. quotient_size p prime quotients q (omega arith) (Q.span.coefficient q) (Q.holds q h) few) tail (λ q. U.at q n)
        (λ q h some. holds_unique (residues p prime) (tail_held q) (S.vector q h some).tail) R.zero)
        ∙ identity R (tails ∷ m ∷ u ∷ []) (λ ρ qt qm qu. search quotes depth 16) refl

    found : Coordinate p prime n U v u y'
    found = record {
      tails = tails;
      span = record {
        coefficient = Q.span.coefficient;
        empty = Q.span.empty;
        equal = below_suc n (λ k. extend n v tails k ≡ combined R n Q.span.coefficient U k)
            (λ k h. extend_below n v tails k h ∙ Q.span.equal k h) (extend_at n v tails);
      };
      multiple = R.neg m;
      holds = subst (Holds (residues p prime) (words p prime y' 0 tail_words)) equal less_kernel.holds;
    }

  pub coordinate_found : FindsCoordinate p L n kernel size quotients y'
  coordinate_found = record { bound = bound_found; short = K.short; finds = found }
