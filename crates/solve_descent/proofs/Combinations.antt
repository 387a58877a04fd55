-- The loops over the slots of a level: their invariant is what they ensure, as far as they have come. And with the coefficients of
-- a vector for quotients, what they take off is a combination of the filled slots.
use Prim.Native.Nat.{ℕ, ◌+◌, ◌-◌, ◌*◌, ◌<◌, ◌≤◌}
use mathlib.Core.Path.{◌≡◌, refl, sym, ◌∙◌, ap, subst}
use mathlib.Core.List.{List, [], ◌∷◌}
use native.Mathlib.Nat.{mul-le-mul, mul-le-mul_right, add-mul}
use native.Mathlib.Numerals.{add-one}
use native.Mathlib.Omega.{arith}
use native.Mathlib.Decide.{ℕ_discrete}
use lib.ListN.{length}
use Rattle.ring.specs.Ring.{Ring, zero_mul, neg_mul}
use Rattle.ring.specs.Sum.{sum, sum_ext, sum_neg}
use Rattle.ring.specs.Identity.{quotes, identity}
use Rattle.algebra.specs.Polynomial.{Polynomial, polynomials}
use Rattle.algebra.specs.Size.{size}
use Rattle.modular.specs.Prime.{Prime}
use Rattle.modular.specs.Residue.{residues}
use Rattle.modular.specs.LargestPrime.{largest_modulus}
use Rattle.vector.specs.Bound.{AtMost}
use Rattle.reduction.specs.Slots.{Slots}
use Rattle.reduction.specs.Holds.{Holds}
use Rattle.reduction.specs.Flat.{flat}
use Rattle.solve_lattice.specs.Memory.{ZeroFrom}
use Rattle.solve_lattice.specs.Word.{words}
use Rattle.solve_lattice.specs.Coefficients.{HoldsCoefficients}
use Rattle.solve_lattice.specs.Room.{block_words, lanes, last_lane, product_degrees}
use Rattle.solve_descent.specs.Product.{less, TakesProduct, dividend_most}
use Rattle.solve_descent.specs.Combination.{less_all, first_quotient, TakesCombination}
use Rattle.solve_lattice.specs.Range.{words_shorter}
use Rattle.solve_lattice.specs.Reading.{holds_same}
use Rattle.solve_descent.proofs.Lanes.{quotient_read}

module _ {p w N : ℕ} {quotients : List ℕ} {terms : ℕ → ℕ} {slots : List ℕ} {at : ℕ → ℕ} {y₀ : List ℕ} where
  pub combination_start : TakesCombination p w N quotients terms slots at 0 y₀ y₀
  unfolding sum
  combination_start = record {
    same_length = refl;
    bound = λ b small i. omega (arith, small i);
    holds = λ prime i lane x u B A. subst (Holds (residues p prime) _)
        (identity (polynomials (residues p prime)) (x ∷ []) (λ ρ qx. search quotes depth 16) refl) A;
  }

  module _ {q : ℕ} {y : List ℕ} (so_far : TakesCombination p w N quotients terms slots at q y₀ y) where
    pub combination_small : q ≤ lanes → p ≤ largest_modulus → AtMost 0 y₀ → AtMost dividend_most y
    combination_small few limit none i =
        let square : p * p ≤ largest_modulus * largest_modulus = mul-le-mul limit limit in
        let products : product_degrees * (p * p) ≤ product_degrees * (largest_modulus * largest_modulus) = omega arith in
        omega (arith, so_far.bound 0 none i, mul-le-mul few products)

    module _ {k m : ℕ} {y' : List ℕ} (is : k ≡ terms q) (few : k ≤ product_degrees) (inside : k * w + m ≤ N + w)
        (room : N ≤ length y₀)
        (short : m ≤ block_words) (behind : ZeroFrom p slots (at q) block_words m)
        (T : TakesProduct p w y quotients (last_lane - q) lanes k slots (at q) m y') where
      bound_after : (b : ℕ) → AtMost b y₀ → AtMost (b + (q + 1) * (product_degrees * (p * p))) y'
      bound_after b small i = omega (
        arith,
        T.bound (b + q * (product_degrees * (p * p))) (so_far.bound b small) i,
        mul-le-mul_right (p * p) few,
        add-mul q 1 (product_degrees * (p * p)),
      )

      module _ (prime : Prime p) (i : ℕ) (lane : i < w) (x : Polynomial (residues p prime)) (u : ℕ → Polynomial (residues p prime))
          (B : (r : ℕ) → r < q + 1 → Holds (residues p prime) (λ e. words p prime slots (at r) block_words (flat w i e)) (u r))
          (A : Holds (residues p prime) (λ e. words p prime y₀ 0 N (flat w i e)) x) where
        abbrev c : ℕ → Polynomial (residues p prime)
        c r = first_quotient p prime quotients (terms r) r

        before : Holds (residues p prime) (λ e. words p prime y 0 N (flat w i e)) (less_all p prime q x c u)
        before = so_far.holds prime i lane x u (λ r h. B r (omega arith)) A

        abbrev total : Polynomial (residues p prime)
        total = sum (polynomials (residues p prime)) q (λ r. (polynomials (residues p prime)).mul (c r) (u r))

        taken : Holds (residues p prime) (λ e. words p prime y' 0 N (flat w i e))
            (less p prime (less_all p prime q x c u) (c q) (u q))
        taken = subst (λ z. Holds (residues p prime) (λ e. words p prime y' 0 N (flat w i e))
            (less p prime (less_all p prime q x c u) (first_quotient p prime quotients z q) (u q))) is
            (T.holds N inside (omega (arith, so_far.same_length)) prime i lane _ _ before
            (holds_same (λ e. words_shorter p prime slots (at q) block_words m short behind (flat w i e)) (B q (omega arith))))

        holds_after : Holds (residues p prime) (λ e. words p prime y' 0 N (flat w i e)) (less_all p prime (q + 1) x c u)
        unfolding sum
        holds_after = subst (Holds (residues p prime) (λ e. words p prime y' 0 N (flat w i e)))
            (identity (polynomials (residues p prime)) (x ∷ total ∷ c q ∷ u q ∷ []) (λ ρ qx qt qc qu. search quotes depth 16) refl
            ∙ ap (λ n. less_all p prime n x c u) (sym (add-one q)))
            taken

      pub combination_turn : TakesCombination p w N quotients terms slots at (q + 1) y₀ y'
      combination_turn = record { same_length = T.same_length ∙ so_far.same_length; bound = bound_after; holds = holds_after }

-- the quotients are coefficients: of the slots only the filled ones count
module _ {p : ℕ} (prime : Prime p) {n : ℕ} (rows : n ≤ lanes) {U : Slots (Polynomial (residues p prime))}
    {v : ℕ → Polynomial (residues p prime)} {quotients : List ℕ} (Q : HoldsCoefficients p prime n U v quotients) (terms : ℕ → ℕ)
    (few : (q : ℕ) → q < n → terms q ≤ product_degrees)
    (enough : (q : ℕ) → q < n → size (residues p prime) (Q.span.coefficient q) ≤ terms q) where
  abbrev R : Ring (Polynomial (residues p prime))
  R = polynomials (residues p prime)

  module _ (u z : ℕ → Polynomial (residues p prime)) (same : (q : ℕ) → q < n → 0 < U.size q → u q ≡ z q) where
    read_is : (q : ℕ) → q < n → first_quotient p prime quotients (terms q) q ≡ Q.span.coefficient q
    read_is q h = quotient_read p prime quotients q (omega arith) (Q.span.coefficient q) (Q.holds q h) (terms q) (few q h)
        (enough q h)

    term : (q : ℕ) → q < n → Dec (U.size q ≡ 0) → R.mul (Q.span.coefficient q) (u q) ≡ R.mul (Q.span.coefficient q) (z q)
    term q h (yes e) =
        ap (λ c. R.mul c (u q)) (Q.span.empty q h e)
        ∙ zero_mul R (u q)
        ∙ sym (ap (λ c. R.mul c (z q)) (Q.span.empty q h e) ∙ zero_mul R (z q))
    term q h (no e) = ap (R.mul (Q.span.coefficient q)) (same q h (omega arith))

    sum_filled : sum R n (λ q. R.mul (first_quotient p prime quotients (terms q) q) (u q)) ≡ sum R n
        (λ q. R.mul (Q.span.coefficient q) (z q))
    sum_filled = sum_ext R n _ _ (λ q h. ap (λ c. R.mul c (u q)) (read_is q h) ∙ term q h (ℕ_discrete (U.size q) 0))

    pub less_filled : (x : Polynomial (residues p prime))
        → less_all p prime n x (λ q. first_quotient p prime quotients (terms q) q) u ≡ less_all p prime n x Q.span.coefficient z
    less_filled x = ap (λ s. R.add x (R.neg s)) sum_filled

    -- the negated quotients add what the quotients take off
    pub more_filled : (negated : List ℕ)
        → ((q : ℕ) → q < n → first_quotient p prime negated (terms q) q ≡ R.neg (first_quotient p prime quotients (terms q) q))
        → less_all p prime n R.zero (λ q. first_quotient p prime negated (terms q) q) u ≡ sum R n
        (λ q. R.mul (Q.span.coefficient q) (z q))
    more_filled negated is =
        ap (λ s. R.add R.zero (R.neg s))
        (sum_ext R n _ _ (λ q h. ap (λ c. R.mul c (u q)) (is q h) ∙ neg_mul R (first_quotient p prime quotients (terms q) q) (u q))
        ∙ sum_neg R n (λ q. R.mul (first_quotient p prime quotients (terms q) q) (u q)))
        ∙ twice (sum R n (λ q. R.mul (first_quotient p prime quotients (terms q) q) (u q)))
        ∙ sum_filled
      where
        twice : (x : Polynomial (residues p prime)) → R.add R.zero (R.neg (R.neg x)) ≡ x
        twice x = identity R (x ∷ []) (λ ρ qx. search quotes depth 16) refl
