-- What each row of the table that is tried at one place tells, by the code's test.
use mathlib.Core.Path.{◌≡◌, sym, ap, ap₂, ◌∙◌}
use mathlib.Core.Bool.{Bool, true, false, not}
use mathlib.Core.List.{List}
use Prim.Native.Nat.{ℕ}
use Rattle.words.specs.Outcome.{Outcome, refuse}
use Rattle.words.specs.Outcome.Outcome.{accepted, refused}
use Rattle.words.specs.System.{System}
use Rattle.truth.specs.Solution.{side_of}
use Rattle.truth.specs.Right.{certified}
use Rattle.truth.specs.Verdict.{zero?, same?, monic?}
use Rattle.check_conditions.specs.Table.{try_monic, try_denominators, try_side}

-- 31
module _ (p : ℕ) (d w : List ℕ) {t : Bool} (test_d : t ≡ monic? p d) where
  pub monic_first : not t ≡ true → ◌≡◌ {A = Outcome (Unit {0})} (refused 31 0) (try_monic p d w)
  unfolding try_monic
  monic_first h = ap (λ b. refuse b 31 0 (refuse (not (monic? p w)) 31 1 (accepted tt))) (sym h ∙ ap not test_d)

  module _ (passed : not t ≡ false) {u : Bool} (test_w : u ≡ monic? p w) where
    second : (b : Bool) → not u ≡ b → refuse b 31 1 (accepted tt) ≡ try_monic p d w
    unfolding try_monic
    second b h = ap₂ (λ x y. refuse x 31 0 (refuse y 31 1 (accepted tt))) (sym passed ∙ ap not test_d) (sym h ∙ ap not test_w)

    pub monic_second : not u ≡ true → ◌≡◌ {A = Outcome (Unit {0})} (refused 31 1) (try_monic p d w)
    monic_second h = second true h

    pub monic_passed : not u ≡ false → ◌≡◌ {A = Outcome (Unit {0})} (accepted tt) (try_monic p d w)
    monic_passed h = second false h

-- 34
module _ (s : System) (d w : List ℕ) (Z : List (List ℕ)) {t : Bool} (test : t ≡ same? (certified s w Z) d) where
  decided_34 : (b : Bool) → t ≡ b → refuse (not b) 34 0 (accepted tt) ≡ try_denominators s d w Z
  unfolding try_denominators
  decided_34 b h = ap (λ x. refuse (not x) 34 0 (accepted tt)) (sym h ∙ test)

  pub denominators_same : t ≡ true → ◌≡◌ {A = Outcome (Unit {0})} (accepted tt) (try_denominators s d w Z)
  denominators_same h = decided_34 true h

  pub denominators_differ : t ≡ false → ◌≡◌ {A = Outcome (Unit {0})} (refused 34 0) (try_denominators s d w Z)
  denominators_differ h = decided_34 false h

-- 36
module _ (s : System) (q : List (List ℕ)) {t : Bool} (test : t ≡ zero? (side_of s q)) where
  decided_36 : (b : Bool) → t ≡ b → refuse b 36 0 (accepted tt) ≡ try_side s q
  unfolding try_side
  decided_36 b h = ap (λ x. refuse x 36 0 (accepted tt)) (sym h ∙ test)

  pub side_zero : t ≡ true → ◌≡◌ {A = Outcome (Unit {0})} (refused 36 0) (try_side s q)
  side_zero h = decided_36 true h

  pub side_some : t ≡ false → ◌≡◌ {A = Outcome (Unit {0})} (accepted tt) (try_side s q)
  side_some h = decided_36 false h
