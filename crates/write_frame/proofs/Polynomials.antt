-- A turn of the loop that tries polynomials: what all of them give is what those give that are still to be tried.
use mathlib.Core.Path.{◌≡◌, sym, ap, ◌∙◌}
use mathlib.Core.List.{List, ◌∷◌}
use Prim.Native.Nat.{ℕ, suc, ◌+◌, ◌-◌, ◌*◌, ◌≤◌, ◌<◌}
use native.Mathlib.Omega.{arith}
use lib.ListN.{length, get_or}
use borrow.Author.Tests.{lt-ltb, le-ltb}
use Rattle.words.specs.Outcome.{Outcome}
use Rattle.words.specs.Outcome.Outcome.{refused}
use Rattle.write_frame.specs.Values.{polynomial_in, polynomials_in}
use Rattle.write_frame.specs.ValuesLaws.{length_polynomial_in, polynomials_in_cons}
use Rattle.write_frame.proofs.Turns.{part_of, part_of_polynomial}
use Rattle.write_frame.specs.Trial.{passed, refuse_coefficients, refuse_polynomials}
use Rattle.write_frame.specs.TrialLaws.{next_after, coefficients_first}

module _ (p limit stride by : ℕ) (sizes coefficients : List ℕ) (count : ℕ) where
  abbrev all : Outcome (Unit {0})
  all = refuse_polynomials p limit by 1 (polynomials_in stride sizes coefficients 0 count) passed

  -- those from k on, the first of which starts at a place
  abbrev due : ℕ → ℕ → Outcome (Unit {0})
  due place k = refuse_polynomials p limit by place (polynomials_in stride sizes coefficients k (count - k)) passed

  pub record PolynomialsTried (place k : ℕ) : Type 0 where
    pub within : k ≤ count
    pub most : place ≤ 1 + k * (1 + limit)
    pub same : all ≡ due place k

  pub polynomials_end : (place k : ℕ) → PolynomialsTried place k → count ≤ k → passed ≡ all
  unfolding refuse_polynomials polynomials_in
  polynomials_end place k t h =
      let n : count - k ≡ 0 = omega arith in
      sym (t.same ∙ ap (λ (n : ℕ). refuse_polynomials p limit by place (polynomials_in stride sizes coefficients k n) passed) n)

  module _ (place k : ℕ) (t : PolynomialsTried place k) (h : k < count) where
    abbrev size : ℕ
    size = get_or sizes k 0

    here : due place k ≡ refuse_polynomials p limit by place
        (polynomial_in stride sizes coefficients k ∷ polynomials_in stride sizes coefficients (k + 1) (count - (k + 1))) passed
    here =
        let n : count - k ≡ suc (count - (k + 1)) = omega arith in
        ap (λ (n : ℕ). refuse_polynomials p limit by place (polynomials_in stride sizes coefficients k n) passed) n
        ∙ ap (λ (fs : List (List ℕ)). refuse_polynomials p limit by place fs passed)
        (polynomials_in_cons stride sizes coefficients k (count - (k + 1)))

    pub polynomial_many : limit < size → refused (6 + by) place ≡ all
    unfolding refuse_polynomials
    polynomial_many m = sym (t.same ∙ here ∙ simp (length_polynomial_in stride sizes coefficients k, lt-ltb limit size m))

    module _ (few : size ≤ limit) (r : stride * k + limit ≤ length coefficients) where
      -- what the coefficients give comes first, then what follows
      turn_same : all ≡ next_after (refuse_coefficients p by (place + 1) (part_of stride sizes coefficients k) passed)
          (due (place + 1 + size) (k + 1))
      unfolding refuse_polynomials
      turn_same =
          let rest = due (place + 1 + size) (k + 1) in
          t.same
          ∙ here
          ∙ simp (length_polynomial_in stride sizes coefficients k, le-ltb limit size few)
          (coefficients_first p by rest (place + 1) (polynomial_in stride sizes coefficients k)
          ∙ ap (λ (f : List ℕ). next_after (refuse_coefficients p by (place + 1) f passed) rest)
          (sym (part_of_polynomial stride sizes coefficients k (omega arith))))

      pub polynomial_refused : {number at : ℕ}
          → refused number at ≡ refuse_coefficients p by (place + 1) (part_of stride sizes coefficients k) passed
          → refused number at ≡ all
      polynomial_refused e =
          sym (turn_same ∙ ap (λ (o : Outcome (Unit {0})). next_after o (due (place + 1 + size) (k + 1))) (sym e))

      pub polynomials_next : passed ≡ refuse_coefficients p by (place + 1) (part_of stride sizes coefficients k) passed
          → PolynomialsTried (place + (1 + size)) (k + 1)
      polynomials_next e =
          let m = t.most in
          let n : place + 1 + size ≡ place + (1 + size) = omega arith in
          record {
            within = omega arith;
            most = omega arith;
            same = turn_same ∙ ap (λ (o : Outcome (Unit {0})). next_after o (due (place + 1 + size) (k + 1))) (sym e)
                ∙ ap (λ (i : ℕ). due i (k + 1)) n;
          }
