-- What a lane of the quotients holds: how much it has room for, and what is read of it with strides.
use Prim.Native.Nat.{ℕ, ◌+◌, ◌-◌, ◌*◌, ◌<◌, ◌≤◌}
use mathlib.Core.Path.{◌≡◌, sym, ◌∙◌, ap}
use mathlib.Core.List.{List}
use native.Mathlib.Omega.{arith}
use native.Mathlib.Decide.{dec_lt}
use lib.ListN.{get_or}
use Rattle.algebra.specs.Polynomial.{Polynomial, coefficients, equal_coefficients}
use Rattle.algebra.specs.Size.{size, coefficients_beyond}
use Rattle.modular.specs.Prime.{Prime}
use Rattle.modular.specs.Residue.{residues}
use Rattle.reduction.specs.Holds.{holds_size, read_at, read_beyond}
use Rattle.reduction.specs.Flat.{flat}
use Rattle.solve_lattice.specs.Word.{residue, words_first}
use Rattle.solve_lattice.specs.Range.{words_zero}
use Rattle.solve_lattice.specs.Quotients.{HoldsQuotient}
use Rattle.solve_lattice.specs.Room.{product_words, lanes, last_lane, product_degrees}
use Rattle.solve_descent.specs.Degrees.{FewDegrees}
use Rattle.solve_descent.specs.Product.{strided}
use Rattle.solve_descent.specs.Combination.{first_quotient}

module _ (p : ℕ) (prime : Prime p) where
  -- the lane of row q: how much it has room for, and what `strided` reads of it
  module _ (l : List ℕ) (q : ℕ) (lt : q < lanes) (x : Polynomial (residues p prime)) (A : HoldsQuotient p prime l q x) where
    pub quotient_size : {k : ℕ} → FewDegrees p l k → size (residues p prime) x ≤ k
    quotient_size {k} D = holds_size (residues p prime) A k
        (λ e ge. words_zero p prime l 0 product_words (lanes * k) D.behind (flat lanes q e) (omega arith))

    pub quotient_read : (k : ℕ) → k ≤ product_degrees → size (residues p prime) x ≤ k → first_quotient p prime l k q ≡ x
    quotient_read k most short = equal_coefficients (residues p prime) _ _ (λ e. go e (dec_lt e k))
      where
        go : (e : ℕ) → Dec (e < k) → coefficients (residues p prime) (first_quotient p prime l k q) e ≡ coefficients
            (residues p prime) x e
        go e (yes h) =
            let place : flat lanes q e ≡ last_lane - q + e * lanes = omega arith in
            read_at (residues p prime) k (strided p prime l (last_lane - q) lanes) e h
            ∙ ap (λ i. residue p prime (get_or l i 0)) (sym place)
            ∙ sym (words_first p prime l product_words (flat lanes q e) (omega arith))
            ∙ sym (A.at e)
        go e (no h) =
            read_beyond (residues p prime) k (strided p prime l (last_lane - q) lanes) e (omega arith)
            ∙ sym (coefficients_beyond (residues p prime) x e (omega arith))
