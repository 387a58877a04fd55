-- A turn of the loop that tries coefficients: what all of them give is what those give that are still to be tried.
use mathlib.Core.Path.{◌≡◌, sym, ap, ap₂, ◌∙◌}
use mathlib.Core.Bool.{Bool, true, false, ◌&&◌, and-false}
use mathlib.Core.List.{List, ◌∷◌}
use Prim.Native.Nat.{ℕ, suc, ◌+◌, ◌≤◌, ◌<◌}
use native.Mathlib.Omega.{arith}
use lib.ListN.{length, get_or, drop}
use lib.Seq.{drop-cons, drop-length}
use lib.Dec.{eqb}
use borrow.Author.Tests.{eq-eqb, ne_eqb, le-leb, lt-leb}
use Rattle.words.specs.Outcome.{Outcome}
use Rattle.words.specs.Outcome.Outcome.{refused}
use Rattle.write_frame.specs.Trial.{passed, last?, refuse_coefficients}

last_drop : (n : ℕ) (f : List ℕ) → n ≡ length f → last? (drop n f) ≡ true
last_drop n f e = ap (λ (k : ℕ). last? (drop k f)) e ∙ ap last? (drop-length f)

more_drop : (n : ℕ) (f : List ℕ) → n < length f → last? (drop n f) ≡ false
more_drop n f h = ap last? (drop-cons f n 0 h)

module _ (p by place : ℕ) (f : List ℕ) where
  -- those from i on
  abbrev due : ℕ → Outcome (Unit {0})
  due i = refuse_coefficients p by (place + i) (drop i f) passed

  pub record CoefficientsTried (i : ℕ) : Type 0 where
    pub within : i ≤ length f
    pub same : refuse_coefficients p by place f passed ≡ due i

  pub coefficients_end : (i : ℕ) → CoefficientsTried i → length f ≤ i → passed ≡ refuse_coefficients p by place f passed
  unfolding refuse_coefficients
  coefficients_end i t h =
      let w = t.within in
      let e : i ≡ length f = omega arith in
      sym (t.same ∙ ap (λ (k : ℕ). refuse_coefficients p by (place + i) (drop k f) passed) e
      ∙ ap (λ (g : List ℕ). refuse_coefficients p by (place + i) g passed) (drop-length f))

  module _ (i : ℕ) (t : CoefficientsTried i) (h : i < length f) where
    here : due i ≡ refuse_coefficients p by (place + i) (get_or f i 0 ∷ drop (suc i) f) passed
    here = ap (λ (g : List ℕ). refuse_coefficients p by (place + i) g passed) (drop-cons f i 0 h)

    pub coefficient_large : p ≤ get_or f i 0 → refused (7 + by) (place + i) ≡ refuse_coefficients p by place f passed
    unfolding refuse_coefficients
    coefficient_large large = sym (t.same ∙ here ∙ simp (le-leb _ _ large))

    module _ (below : get_or f i 0 < p) where
      pub coefficient_last : get_or f i 0 ≡ 0 → i + 1 ≡ length f
          → refused (8 + by) (place + i) ≡ refuse_coefficients p by place f passed
      unfolding refuse_coefficients
      coefficient_last z l = sym (t.same ∙ here ∙ simp (lt-leb _ _ below, last_drop (suc i) f (omega arith), eq-eqb _ _ z))

      -- behind a coefficient that is not 0, or not the last
      next : last? (drop (suc i) f) && eqb (get_or f i 0) 0 ≡ false → CoefficientsTried (i + 1)
      unfolding refuse_coefficients
      next e =
          let k : place + i + 1 ≡ place + (i + 1) = omega arith in
          let j : suc i ≡ i + 1 = omega arith in
          record {
            within = omega arith;
            same = t.same ∙ here ∙ simp (lt-leb _ _ below, e) (ap₂ (λ (k j : ℕ). refuse_coefficients p by k (drop j f) passed) k j);
          }

      pub coefficients_next_nonzero : (get_or f i 0 ≡ 0 → ⊥) → CoefficientsTried (i + 1)
      coefficients_next_nonzero n =
          next (ap (λ (b : Bool). last? (drop (suc i) f) && b) (ne_eqb _ _ n) ∙ and-false (last? (drop (suc i) f)))

      pub coefficients_next_inner : (i + 1 ≡ length f → ⊥) → CoefficientsTried (i + 1)
      coefficients_next_inner n = next (ap (λ (b : Bool). b && eqb (get_or f i 0) 0) (more_drop (suc i) f (omega arith)))
