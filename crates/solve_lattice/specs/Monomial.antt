-- An array of coefficients with a added at the place k holds the polynomial with a·x^k added.
use Rattle.std.specs.Prelude.{ℕ, zero, suc, ◌<◌, ◌+◌ as ◌+ₙ◌, ◌-◌ as ◌-ₙ◌, ◌≡◌, refl}
use Rattle.std.proofs.Common.{sym, ◌∙◌, ap, ap₂, arith}
use Rattle.std.proofs.Math.Decide.{ℕ_discrete, dec_lt}
use Rattle.ring.specs.Ring.{mul_zero}
use Rattle.algebra.specs.Field.{Field}
use Rattle.algebra.specs.Series.{unit}
use Rattle.algebra.specs.Polynomial.{Polynomial, polynomials, coefficients, coefficients_one, coefficients_add}
use Rattle.reduction.specs.Holds.{Holds, monomial, monomial_at, monomial_below}

module _ {K : Type 0} (F : Field K) where
  open F.ring use {add as ◌⊕◌, mul as ◌⊗◌, zero as 𝟎, one as 𝟏}
  open polynomials F use {add as ◌+◌, one as 𝟙, mul_one}

  infixl 65 ◌⊕◌
  infixl 65 ◌+◌
  infixl 70 ◌⊗◌
  -- the coefficients of a·x^k
  pub coefficients_monomial : (a : K) (k : ℕ) → coefficients F (monomial F a k) k ≡ a
  coefficients_monomial a k =
      let here : k ≡ k +ₙ 0 = omega arith in
      ap₂ (coefficients F) (sym (mul_one (monomial F a k))) here
      ∙ monomial_at F a k 𝟙 0
      ∙ ap (λ x. a ⊗ x) (coefficients_one F 0)
      ∙ F.ring.mul_one a

  pub coefficients_monomial_other : (a : K) (k j : ℕ) → ¬ (j ≡ k) → coefficients F (monomial F a k) j ≡ 𝟎
  coefficients_monomial_other a k j ne = ap (λ x. coefficients F x j) (sym (mul_one (monomial F a k))) ∙ go (dec_lt j k)
    where
      above : (i : ℕ) → 0 < i → unit F.ring i ≡ 𝟎
      above zero h = absurd (omega arith)
      above (suc i) h = refl

      go : Dec (j < k) → coefficients F ((polynomials F).mul (monomial F a k) 𝟙) j ≡ 𝟎
      go (yes h) = monomial_below F a k 𝟙 j h
      go (no h) =
          let e : j ≡ k +ₙ (j -ₙ k) = omega arith in
          ap (coefficients F ((polynomials F).mul (monomial F a k) 𝟙)) e
          ∙ monomial_at F a k 𝟙 (j -ₙ k)
          ∙ ap (λ x. a ⊗ x) (coefficients_one F (j -ₙ k) ∙ above (j -ₙ k) (omega arith))
          ∙ mul_zero F.ring a

  pub holds_monomial : {H H' : ℕ → K} {x : Polynomial F} (a : K) (k : ℕ) → Holds F H x → H' k ≡ H k ⊕ a
      → ((j : ℕ) → ¬ (j ≡ k) → H' j ≡ H j) → Holds F H' (x + monomial F a k)
  holds_monomial {H} {H'} {x} a k A here other = record {
    at = λ j. coefficients_add F x (monomial F a k) j ∙ go j (ℕ_discrete j k);
  }
    where
      go : (j : ℕ) → Dec (j ≡ k) → coefficients F x j ⊕ coefficients F (monomial F a k) j ≡ H' j
      go j (yes e) =
          ap (λ i. coefficients F x i ⊕ coefficients F (monomial F a k) i) e
          ∙ ap₂ ◌⊕◌ (A.at k) (coefficients_monomial a k)
          ∙ sym here
          ∙ ap H' (sym e)
      go j (no e) =
          ap₂ ◌⊕◌ (A.at j) (coefficients_monomial_other a k j e)
          ∙ F.ring.add_zero (H j)
          ∙ sym (other j e)
