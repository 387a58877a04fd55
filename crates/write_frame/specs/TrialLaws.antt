-- Trials: each is made first, whatever comes next; and they refuse nothing exactly where the polynomials keep the limits.
use Rattle.std.specs.Prelude.{◌≡◌, Bool, true, false, ◌&&◌, ℕ, ◌+◌, leb, ltb}
use Rattle.std.proofs.Math.Path.{refl, ap}
use Rattle.std.proofs.Common.{sym, ◌∙◌, arith}
use mathlib.Core.List.{List, [], ◌∷◌}
use Rattle.std.proofs.Math.ListN.{length}
use Rattle.std.proofs.Math.Dec.{eqb}
use borrow.Author.Tests.{eqb-false, ne_eqb, lt-leb, le-ltb, leb-false, ltb-false}
use Rattle.modular.specs.Canonical.{LastNonzero, Canonical}
use Rattle.words.specs.Outcome.{Outcome, refuse, followed_by}
use Rattle.words.specs.Outcome.Outcome.{accepted, refused}
use Rattle.words.specs.OutcomeLaws.{refuse_passed}
use Rattle.words.specs.Polynomial.{AllWithin}
use Rattle.write_frame.specs.Trial.{passed, last?, refuse_coefficients, refuse_polynomials}

-- ---- one thing tried after another

-- what comes next, where nothing was refused before it
abbrev pub next_after : {A : Type 0} → Outcome (Unit {0}) → Outcome A → Outcome A
next_after tried next = followed_by tried (λ _. next)

module _ {A : Type 0} where
  after_after : (first second : Outcome (Unit {0})) (next : Outcome A)
      → next_after first (next_after second next) ≡ next_after (next_after first second) next
  after_after (accepted u) second next = refl
  after_after (refused number place) second next = refl

  -- a row, and what is tried behind it
  pub refuse_after : (b : Bool) (number place : ℕ) (first : Outcome (Unit {0})) (next : Outcome A) {rest : Outcome A}
      → rest ≡ next_after first next → refuse b number place rest ≡ next_after (refuse b number place first) next
  refuse_after true number place first next e = refl
  refuse_after false number place first next e = e

-- ---- polynomials

pub ends_passed : (a : ℕ) (f : List ℕ) → last? f && eqb a 0 ≡ false → LastNonzero a f
unfolding LastNonzero
ends_passed a [] e = let n = eqb-false a 0 e in omega arith
ends_passed a (b ∷ f) e = tt

ends_within : (a : ℕ) (f : List ℕ) → LastNonzero a f → last? f && eqb a 0 ≡ false
unfolding LastNonzero
ends_within a [] h = ne_eqb a 0 (λ e. omega arith)
ends_within a (b ∷ f) h = refl

module _ {A : Type 0} (p by : ℕ) (next : Outcome A) where
  pub coefficients_first : (place : ℕ) (f : List ℕ)
      → refuse_coefficients p by place f next ≡ next_after (refuse_coefficients p by place f passed) next
  unfolding refuse_coefficients
  coefficients_first place [] = refl
  coefficients_first place (a ∷ f) =
      let rest = refuse_coefficients p by (place + 1) f passed in
      refuse_after (leb p a) (7 + by) place (refuse (last? f && eqb a 0) (8 + by) place rest) next
      (refuse_after (last? f && eqb a 0) (8 + by) place rest next (coefficients_first (place + 1) f))

  pub coefficients_passed : (place : ℕ) (f : List ℕ) {a : A} → refuse_coefficients p by place f next ≡ accepted a
      → Canonical p f × (next ≡ accepted a)
  unfolding refuse_coefficients Canonical
  coefficients_passed place [] e = (tt, e)
  coefficients_passed place (a ∷ f) e =
      let l = refuse_passed (leb p a) _ _ _ e in
      let z = refuse_passed (last? f && eqb a 0) _ _ _ l.1 in
      let t = coefficients_passed (place + 1) f z.1 in
      ((leb-false p a l.0, ends_passed a f z.0, t.0), t.1)

  pub coefficients_within : (place : ℕ) (f : List ℕ) → Canonical p f → refuse_coefficients p by place f next ≡ next
  unfolding refuse_coefficients Canonical
  coefficients_within place [] h = refl
  coefficients_within place (a ∷ f) h = simp (lt-leb p a h.0, ends_within a f h.1, coefficients_within (place + 1) f h.2)

module _ {A : Type 0} (p limit by : ℕ) (next : Outcome A) where
  pub polynomials_first : (place : ℕ) (fs : List (List ℕ))
      → refuse_polynomials p limit by place fs next ≡ next_after (refuse_polynomials p limit by place fs passed) next
  unfolding refuse_polynomials
  polynomials_first place [] = refl
  polynomials_first place (f ∷ fs) =
      let behind = place + 1 + length f in
      let here = refuse_coefficients p by (place + 1) f passed in
      let rest = refuse_polynomials p limit by behind fs passed in
      refuse_after (ltb limit (length f)) (6 + by) place (refuse_coefficients p by (place + 1) f rest) next
      (coefficients_first p by (refuse_polynomials p limit by behind fs next) (place + 1) f
      ∙ ap (next_after here) (polynomials_first behind fs)
      ∙ after_after here rest next
      ∙ ap (λ (o : Outcome (Unit {0})). next_after o next) (sym (coefficients_first p by rest (place + 1) f)))

  pub polynomials_passed : (place : ℕ) (fs : List (List ℕ)) {a : A} → refuse_polynomials p limit by place fs next ≡ accepted a
      → AllWithin p limit fs × (next ≡ accepted a)
  unfolding refuse_polynomials AllWithin
  polynomials_passed place [] e = (tt, e)
  polynomials_passed place (f ∷ fs) e =
      let s = refuse_passed (ltb limit (length f)) _ _ _ e in
      let c = coefficients_passed p by _ (place + 1) f s.1 in
      let t = polynomials_passed (place + 1 + length f) fs c.1 in
      ((record { canonical = c.0; size = ltb-false limit (length f) s.0 }, t.0), t.1)

  pub polynomials_within : (place : ℕ) (fs : List (List ℕ)) → AllWithin p limit fs
      → refuse_polynomials p limit by place fs next ≡ next
  unfolding refuse_polynomials AllWithin
  polynomials_within place [] h = refl
  polynomials_within place (f ∷ fs) h =
      let rest = refuse_polynomials p limit by (place + 1 + length f) fs next in
      simp (le-ltb limit (length f) h.0.size)
      (coefficients_within p by rest (place + 1) f h.0.canonical ∙ polynomials_within (place + 1 + length f) fs h.1)
