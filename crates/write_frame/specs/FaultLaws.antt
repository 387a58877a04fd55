-- Trials refuse just the first value at fault.
use Rattle.std.proofs.Math.Path.{◌≡◌, refl}
use Rattle.std.proofs.Common.{sym, ap, ap₂, ◌∙◌, mul-le-mul_right, length-take-le}
use Rattle.std.proofs.Math.Bool.{true}
use Rattle.std.specs.Prelude.{◌&&◌, ◌⊎◌, ◌↔◌, get_or, take, leb, ltb}
use Rattle.std.proofs.Math.Logic.{inl, inr, ⊎_elim}
use mathlib.Core.List.{List, [], ◌∷◌, ◌++◌}
use Prim.Native.Nat.{ℕ, zero, suc, ◌+◌, ◌*◌, ◌≤◌, ◌<◌}
use native.Mathlib.Omega.{arith}
use Rattle.std.proofs.Math.ListN.{length, length-append}
use Rattle.std.proofs.Math.Dec.{eqb}
use borrow.Author.Tests.{ltb-true, ltb-false, leb-true, leb-false, eqb-true, lt-ltb, le-ltb, le-leb, lt-leb, eq-eqb}
use Rattle.modular.specs.Canonical.{Canonical}
use Rattle.words.specs.Limits.{words_for}
use Rattle.words.specs.Outcome.{Outcome}
use Rattle.words.specs.Outcome.Outcome.{refused}
use Rattle.words.specs.OutcomeLaws.{refuse_refused_iff}
use Rattle.words.specs.Polynomial.{Within, AllWithin, polynomial_words, polynomials_words}
use Rattle.words.proofs.PolynomialLaws.{length_polynomial_words, length_polynomials_words}
use Rattle.words.specs.Frame.{entry_place}
use Rattle.write_frame.specs.Trial.{last?, refuse_coefficients, refuse_polynomials}
use Rattle.write_frame.specs.TrialLaws.{ends_passed, coefficients_within, polynomials_within}
use Rattle.write_frame.specs.Fault.{CoefficientFault, PolynomialFault, ValueFault}
use Rattle.write_frame.specs.Fault.CoefficientFault.{large, last_zero}
use Rattle.write_frame.specs.Fault.PolynomialFault.{many, coefficient}

-- ---- coefficients

module _ {A : Type 0} (p by : ℕ) (next : Outcome A) (n k : ℕ) where
  abbrev Found : ℕ → List ℕ → Type 0
  Found at f = CoefficientFault p by at f n k

  -- below p
  among : (a : ℕ) (f : List ℕ) (j : ℕ) → a < p → ((i : ℕ) → i < j → get_or f i 0 < p) → (i : ℕ) → i < suc j → get_or (a ∷ f) i 0 < p
  among a f j below before zero lt = below
  among a f j below before (suc i) lt = before i (omega arith)

  -- one coefficient more, which is below p and not the last
  found_behind : (at a : ℕ) (f : List ℕ) → a < p → Found (at + 1) f → Found at (a ∷ f)
  found_behind at a f below (large j some before over number place) =
      large (suc j) (omega arith) (among a f j below before) over number (omega arith)
  found_behind at a f below (last_zero j all each none number place) =
      last_zero (suc j) (ap suc all) (among a f (length f) below each) none number (omega arith)

  coefficients_fault : (at : ℕ) (f : List ℕ) → refuse_coefficients p by at f next ≡ refused n k
      → Found at f ⊎ (Canonical p f × (next ≡ refused n k))
  unfolding refuse_coefficients Canonical
  coefficients_fault at [] e = inr (tt, e)
  coefficients_fault at (a ∷ f) e =
      ⊎_elim
      (λ t. inl (large 0 (omega arith) (λ i lt. absurd (omega arith)) (leb-true p a t.0) t.1 (omega (arith, t.2))))
      (λ t.
      let below = leb-false p a t.0 in
      ⊎_elim
      (λ u. inl (of_last at a f below u.0 u.1 u.2))
      (λ u. ⊎_elim
      (λ found. inl (found_behind at a f below found))
      (λ rest. inr ((below, ends_passed a f u.0, rest.0), rest.1))
      (coefficients_fault (at + 1) f u.1))
      ((refuse_refused_iff (last? f && eqb a 0) (8 + by) at _ n k).0 t.1))
      ((refuse_refused_iff (leb p a) (7 + by) at _ n k).0 e)
    where
      of_last : (at a : ℕ) (f : List ℕ) → a < p → last? f && eqb a 0 ≡ true → n ≡ 8 + by → k ≡ at → Found at (a ∷ f)
      of_last at a [] below e number place =
          last_zero 0 refl (λ i lt. among a [] 0 below (λ j l. absurd (omega arith)) i lt) (eqb-true a 0 e) number (omega arith)
      of_last at a (b ∷ f) below e number place = absurd (let z : ◌≡◌ {A = ℕ} 0 1 = cc in omega arith)

  -- a coefficient that is below p and not the last is passed
  passed_over : (at a : ℕ) (f : List ℕ) → a < p → 0 < length f
      → refuse_coefficients p by at (a ∷ f) next ≡ refuse_coefficients p by (at + 1) f next
  unfolding refuse_coefficients
  passed_over at a [] below some = absurd (omega arith)
  passed_over at a (b ∷ f) below some = simp (lt-leb p a below)

  fault_coefficients : (at : ℕ) (f : List ℕ) → Found at f → refuse_coefficients p by at f next ≡ refused n k
  unfolding refuse_coefficients
  fault_coefficients at [] (large j some before over number place) = absurd (omega arith)
  fault_coefficients at [] (last_zero j all each none number place) = absurd (omega arith)
  fault_coefficients at (a ∷ f) (large zero some before over number place) =
      let here : k ≡ at = omega arith in
      simp (le-leb p a over) (ap₂ refused (sym number) (sym here))
  fault_coefficients at (a ∷ f) (large (suc j) some before over number place) =
      passed_over at a f (before 0 (omega arith)) (omega arith)
      ∙ fault_coefficients (at + 1) f (large j (omega arith) (λ i lt. before (suc i) (omega arith)) over number (omega arith))
  fault_coefficients at (a ∷ []) (last_zero zero all each none number place) =
      let here : k ≡ at = omega arith in
      simp (lt-leb p a (each 0 (omega arith)), eq-eqb a 0 none) (ap₂ refused (sym number) (sym here))
  fault_coefficients at (a ∷ b ∷ f) (last_zero zero all each none number place) = absurd (omega arith)
  fault_coefficients at (a ∷ f) (last_zero (suc j) all each none number place) =
      passed_over at a f (each 0 (omega arith)) (omega arith)
      ∙ fault_coefficients (at + 1) f (last_zero j (omega arith) (λ i lt. each (suc i) (omega arith)) none number (omega arith))

-- ---- polynomials

module _ {A : Type 0} (p limit by : ℕ) (next : Outcome A) (n k : ℕ) where
  -- of several, the first of whose words would stand at a place
  pub record FoundFrom (at : ℕ) (fs : List (List ℕ)) : Type 0 where
    pub i : ℕ
    pub some : i < length fs
    pub before : AllWithin p limit (take i fs)
    pub fault : PolynomialFault p limit by (at + length (polynomials_words (take i fs))) (get_or fs i []) n k

  polynomials_fault : (at : ℕ) (fs : List (List ℕ)) → refuse_polynomials p limit by at fs next ≡ refused n k
      → FoundFrom at fs ⊎ (AllWithin p limit fs × (next ≡ refused n k))
  unfolding refuse_polynomials AllWithin polynomials_words
  polynomials_fault at [] e = inr (tt, e)
  polynomials_fault at (f ∷ fs) e =
      let here : at + 0 ≡ at = omega arith in
      let first : PolynomialFault p limit by at f n k → FoundFrom at (f ∷ fs) =
      λ fault. record { i = 0; some = omega arith; before = tt; fault = rw here fault } in
      ⊎_elim
      (λ t. inl (first (many (ltb-true limit (length f) t.0) t.1 t.2)))
      (λ t.
      let few = ltb-false limit (length f) t.0 in
      ⊎_elim
      (λ found. inl (first (coefficient few found)))
      (λ rest.
      let within : Within p limit f = record { canonical = rest.0; size = few } in
      ⊎_elim
      (λ found. inl (found_next at f fs within found))
      (λ last. inr ((within, last.0), last.1))
      (polynomials_fault (at + 1 + length f) fs rest.1))
      (coefficients_fault p by (refuse_polynomials p limit by (at + 1 + length f) fs next) n k (at + 1) f t.1))
      ((refuse_refused_iff (ltb limit (length f)) (6 + by) at _ n k).0 e)
    where
      found_next : (at : ℕ) (f : List ℕ) (fs : List (List ℕ)) → Within p limit f → FoundFrom (at + 1 + length f) fs
          → FoundFrom at (f ∷ fs)
      found_next at f fs within found =
          let words = polynomials_words (take found.i fs) in
          let here : at + length (polynomial_words f ++ words) ≡ at + 1 + length f + length words =
          omega (arith, length-append (polynomial_words f) words, length_polynomial_words f) in
          record {
            i = suc found.i;
            some = omega (arith, found.some);
            before = (within, found.before);
            fault = rw here found.fault;
          }

  fault_polynomials : (at : ℕ) (fs : List (List ℕ)) (i : ℕ) → i < length fs → AllWithin p limit (take i fs)
      → PolynomialFault p limit by (at + length (polynomials_words (take i fs))) (get_or fs i []) n k
      → refuse_polynomials p limit by at fs next ≡ refused n k
  unfolding refuse_polynomials AllWithin polynomials_words
  fault_polynomials at [] i some before fault = absurd (omega arith)
  fault_polynomials at (f ∷ fs) zero some before (many over number place) =
      let here : k ≡ at = omega arith in
      simp (lt-ltb limit (length f) over) (ap₂ refused (sym number) (sym here))
  fault_polynomials at (f ∷ fs) zero some before (coefficient few found) =
      let here : at + 0 + 1 ≡ at + 1 = omega arith in
      simp (le-ltb limit (length f) few)
      (fault_coefficients p by (refuse_polynomials p limit by (at + 1 + length f) fs next) n k (at + 1) f (rw here at found))
  fault_polynomials at (f ∷ fs) (suc i) some before fault =
      let words = polynomials_words (take i fs) in
      let here : at + length (polynomial_words f ++ words) ≡ at + 1 + length f + length words =
      omega (arith, length-append (polynomial_words f) words, length_polynomial_words f) in
      let rest = refuse_polynomials p limit by (at + 1 + length f) fs next in
      simp (le-ltb limit (length f) before.0.size)
      (coefficients_within p by rest (at + 1) f before.0.canonical
      ∙ fault_polynomials (at + 1 + length f) fs i (omega arith) before.1 (rw here at fault))

  -- the first value at fault, or what comes next where there is none
  pub polynomials_refused_iff : (fs : List (List ℕ)) → (refuse_polynomials p limit by 1 fs next ≡ refused n k)
      ↔ (ValueFault p limit by fs n k ⊎ (AllWithin p limit fs × (next ≡ refused n k)))
  unfolding entry_place
  polynomials_refused_iff fs = (
    λ e. ⊎_elim
        (λ found. inl (record { k = found.i; some = found.some; before = found.before; fault = found.fault }))
        inr
        (polynomials_fault 1 fs e),
    ⊎_elim
        (λ f. fault_polynomials 1 fs f.k f.some f.before f.fault)
        (λ t. polynomials_within p limit by next 1 fs t.0 ∙ t.1),
  )

-- the place is that of a word of a form of so many polynomials
coefficient_place : {p by at : ℕ} {f : List ℕ} {n k : ℕ} → CoefficientFault p by at f n k → k < at + length f
coefficient_place (large j some before over number place) = omega arith
coefficient_place (last_zero j all each none number place) = omega arith

polynomial_place : {p limit by at : ℕ} {f : List ℕ} {n k : ℕ} → PolynomialFault p limit by at f n k → k ≤ at + limit
polynomial_place (many over number place) = omega arith
polynomial_place (coefficient few found) = omega (arith, coefficient_place found)

pub value_place : {p limit by : ℕ} {fs : List (List ℕ)} {n k : ℕ} → ValueFault p limit by fs n k → k < words_for (length fs) limit
unfolding entry_place
value_place {p} {limit} {by} {fs} v =
    let i = v.k in
    let some = v.some in
    let more : i + 1 ≤ length fs = omega arith in
    let first = take i fs in
    let before = length_polynomials_words p limit first v.before in
    omega (
      arith,
      polynomial_place v.fault,
      before,
      ap (λ (m : ℕ). m * (1 + limit)) (length-take-le i fs (omega arith)),
      mul-le-mul_right (1 + limit) more,
    )
