-- A polynomial read from an array, one coefficient more, or zeros more, or negated.
use Rattle.std.specs.Prelude.{ℕ, suc, ◌<◌, ◌≤◌, ◌≡◌}
use Rattle.std.proofs.Common.{sym, ◌∙◌, ap, ap₂, arith}
use Rattle.std.proofs.Math.Decide.{ℕ_discrete, dec_lt}
use Rattle.ring.specs.Ring.{zero_add, neg_zero}
use Rattle.algebra.specs.Field.{Field}
use Rattle.algebra.specs.Polynomial.{polynomials, coefficients, equal_coefficients, coefficients_add, coefficients_neg}
use Rattle.reduction.specs.Holds.{monomial, read, read_at, read_beyond}
use Rattle.solve_lattice.specs.Monomial.{coefficients_monomial, coefficients_monomial_other}

module _ {K : Type 0} (F : Field K) where
  open F.ring use {add as ◌⊕◌, neg as ⊝◌, zero as 𝟎, add_zero}
  open polynomials F use {add as ◌+◌}

  infixl 65 ◌⊕◌
  infixl 65 ◌+◌
  infix 75 ⊝◌
  pub read_suc : (k : ℕ) (f : ℕ → K) → read F (suc k) f ≡ read F k f + monomial F (f k) k
  read_suc k f = equal_coefficients F _ _
      (λ j. go j (ℕ_discrete j k) (dec_lt j k) ∙ sym (coefficients_add F (read F k f) (monomial F (f k) k) j))
    where
      go : (j : ℕ) → Dec (j ≡ k) → Dec (j < k)
          → coefficients F (read F (suc k) f) j ≡ coefficients F (read F k f) j ⊕ coefficients F (monomial F (f k) k) j
      go j (yes e) l =
          read_at F (suc k) f j (omega arith)
          ∙ ap f e
          ∙ sym (zero_add F.ring (f k))
          ∙ sym (ap₂ ◌⊕◌ (read_beyond F k f j (omega arith))
          (ap (coefficients F (monomial F (f k) k)) e ∙ coefficients_monomial F (f k) k))
      go j (no e) (yes l) =
          read_at F (suc k) f j (omega arith)
          ∙ sym (add_zero (f j))
          ∙ sym (ap₂ ◌⊕◌ (read_at F k f j l) (coefficients_monomial_other F (f k) k j e))
      go j (no e) (no l) =
          read_beyond F (suc k) f j (omega arith)
          ∙ sym (add_zero 𝟎)
          ∙ sym (ap₂ ◌⊕◌ (read_beyond F k f j (omega arith)) (coefficients_monomial_other F (f k) k j e))

  pub read_zeros : (k n : ℕ) (f : ℕ → K) → k ≤ n → ((j : ℕ) → k ≤ j → j < n → f j ≡ 𝟎) → read F n f ≡ read F k f
  read_zeros k n f le zeros = equal_coefficients F _ _ (λ j. go j (dec_lt j k) (dec_lt j n))
    where
      go : (j : ℕ) → Dec (j < k) → Dec (j < n) → coefficients F (read F n f) j ≡ coefficients F (read F k f) j
      go j (yes l) h = read_at F n f j (omega arith) ∙ sym (read_at F k f j l)
      go j (no l) (yes h) = read_at F n f j h ∙ zeros j (omega arith) h ∙ sym (read_beyond F k f j (omega arith))
      go j (no l) (no h) = read_beyond F n f j (omega arith) ∙ sym (read_beyond F k f j (omega arith))

  pub read_neg : (n : ℕ) (f g : ℕ → K) → ((j : ℕ) → j < n → g j ≡ ⊝ f j) → read F n g ≡ (polynomials F).neg (read F n f)
  read_neg n f g same = equal_coefficients F _ _ (λ j. go j (dec_lt j n) ∙ sym (coefficients_neg F (read F n f) j))
    where
      go : (j : ℕ) → Dec (j < n) → coefficients F (read F n g) j ≡ ⊝ coefficients F (read F n f) j
      go j (yes h) = read_at F n g j h ∙ same j h ∙ sym (ap (λ z. ⊝ z) (read_at F n f j h))
      go j (no h) =
          read_beyond F n g j (omega arith)
          ∙ sym (ap (λ z. ⊝ z) (read_beyond F n f j (omega arith)) ∙ neg_zero F.ring)
