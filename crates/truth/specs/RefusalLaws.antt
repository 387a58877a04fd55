-- When rows of the table turn nothing back.
use Rattle.std.specs.Prelude.{ℕ, zero, suc, ◌<◌, ◌≡◌, refl, Bool, true, false, not, ◌&&◌, List, [], ◌∷◌, eqb}
use Rattle.std.proofs.Common.{sym, ◌∙◌, ap, arith, eqb-true, eq-eqb}
use Rattle.std.proofs.Math.Decide.{ℕ_discrete}
use Rattle.words.specs.Outcome.{Outcome, refuse}
use Rattle.words.specs.Outcome.Outcome.{accepted}
use Rattle.words.specs.OutcomeLaws.{refuse_passed, passed_refuse}
use Rattle.truth.specs.Verdict.{zero?, same?, refuse_first}

-- a row for several places
pub record AllPassed (A : Type 0) (n : ℕ) (holds : ℕ → Bool) (next : Outcome A) (a : A) : Type 0 where
  pub free : (i : ℕ) → i < n → holds i ≡ false
  pub rest : next ≡ accepted a

pub refuse_first_passed : {A : Type 0} (n : ℕ) (holds : ℕ → Bool) (number : ℕ) (next : Outcome A) (a : A)
    → refuse_first n holds number next ≡ accepted a → AllPassed A n holds next a
unfolding refuse_first
refuse_first_passed zero holds number next a e = record { free = λ i k. absurd (omega arith); rest = e }
refuse_first_passed (suc n) holds number next a e = go (refuse_first_passed n holds number (refuse (holds n) number n next) a e)
  where
    go : AllPassed _ n holds (refuse (holds n) number n next) a → AllPassed _ (suc n) holds next a
    go w = record { free = λ i k. at i k (ℕ_discrete i n); rest = last.1 }
      where
        last : (holds n ≡ false) × (next ≡ accepted a)
        last = refuse_passed (holds n) number n next w.rest

        at : (i : ℕ) → i < suc n → Dec (i ≡ n) → holds i ≡ false
        at i k (yes q) = ap holds q ∙ last.0
        at i k (no q) = w.free i (omega arith)

pub passed_refuse_first : {A : Type 0} (n : ℕ) (holds : ℕ → Bool) (number : ℕ) (next : Outcome A) (a : A)
    → ((i : ℕ) → i < n → holds i ≡ false) → next ≡ accepted a → refuse_first n holds number next ≡ accepted a
unfolding refuse_first
passed_refuse_first zero holds number next a free e = e
passed_refuse_first (suc n) holds number next a free e = passed_refuse_first n holds number (refuse (holds n) number n next) a
    (λ i k. free i (omega arith)) (passed_refuse (holds n) number n next (free n (omega arith)) e)

-- ---- the tests

pub true_not : {b : Bool} → b ≡ true → not b ≡ false
true_not {b} e = ap not e

pub zero?_true : (f : List ℕ) → zero? f ≡ true → f ≡ []
zero?_true [] e = refl
zero?_true (a ∷ f) e = absurd (let z : ◌≡◌ {A = ℕ} 0 1 = cc in omega arith)

pub zero?_false : (f : List ℕ) → zero? f ≡ false → ¬ (f ≡ [])
zero?_false [] e h = let z : ◌≡◌ {A = ℕ} 0 1 = cc in omega arith
zero?_false (a ∷ f) e h = let z : ◌≡◌ {A = ℕ} 0 1 = cc in omega arith

pub nonzero_zero? : (f : List ℕ) → ¬ (f ≡ []) → zero? f ≡ false
nonzero_zero? [] h = absurd (h refl)
nonzero_zero? (a ∷ f) h = refl

pub same?_true : (f g : List ℕ) → same? f g ≡ true → f ≡ g
unfolding same?
same?_true [] [] e = refl
same?_true [] (b ∷ g) e = absurd (let z : ◌≡◌ {A = ℕ} 0 1 = cc in omega arith)
same?_true (a ∷ f) [] e = absurd (let z : ◌≡◌ {A = ℕ} 0 1 = cc in omega arith)
same?_true (a ∷ f) (b ∷ g) e = go (eqb a b) refl e (same?_true f g)
  where
    go : (t : Bool) → eqb a b ≡ t → t && same? f g ≡ true → (same? f g ≡ true → f ≡ g) → a ∷ f ≡ b ∷ g
    go true q r tails = let x : a ≡ b = eqb-true a b q in let y : f ≡ g = tails r in cc
    go false q r tails = absurd (let z : ◌≡◌ {A = ℕ} 0 1 = cc in omega arith)

same?_refl : (f : List ℕ) → same? f f ≡ true
unfolding same?
same?_refl [] = refl
same?_refl (a ∷ f) = ap (λ t. t && same? f f) (eq-eqb a a refl) ∙ same?_refl f

pub true_same? : (f g : List ℕ) → f ≡ g → same? f g ≡ true
true_same? f g e = ap (same? f) (sym e) ∙ same?_refl f
