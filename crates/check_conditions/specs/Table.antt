-- The rows 31 to 36 of document 01's table one by one, as the code tries them: each turns back by its own condition only. The two
-- laws say that the verdict on a certificate is these rows, one after another.
use Rattle.std.specs.Prelude.{◌≡◌, refl, Bool, true, false, not, List, ℕ, zero, suc}
use Rattle.std.proofs.Math.Path.{sym, ap}
use Rattle.std.proofs.Common.{◌∙◌}
use Rattle.algebra.specs.Coefficients.{mul, remainder}
use Rattle.modular.specs.Modulo.{modulo}
use Rattle.words.specs.Outcome.{Outcome, refuse, followed_by}
use Rattle.words.specs.Outcome.Outcome.{accepted}
use Rattle.words.specs.System.{System, side_entry}
use Rattle.truth.specs.Solution.{row_of, column_of, side_of}
use Rattle.truth.specs.Right.{certified}
use Rattle.truth.specs.Verdict.{zero?, same?, monic?, refuse_first, solution_verdict, absence_verdict}

-- 31: d (place 0, tried first) or w (place 1) not monic
unfoldable pub try_monic : ℕ → List ℕ → List ℕ → Outcome (Unit {0})
try_monic p d w = refuse (not (monic? p d)) 31 0 (refuse (not (monic? p w)) 31 1 (accepted tt))

-- 32: A·N not d·b; first such row
unfoldable pub row_wrong : System → List ℕ → List (List ℕ) → ℕ → Bool
row_wrong s d N i = not (same? (row_of s N i) (mul (modulo s.modulus) d (side_entry s i)))

unfoldable pub try_rows : System → List ℕ → List (List ℕ) → Outcome (Unit {0})
try_rows s d N = refuse_first s.rows (row_wrong s d N) 32 (accepted tt)

-- 33: w does not divide Z·A; first such column
unfoldable pub column_wrong : System → List ℕ → List (List ℕ) → ℕ → Bool
column_wrong s w Z j = not (zero? (remainder (modulo s.modulus) (column_of s Z j) w))

unfoldable pub try_columns : System → List ℕ → List (List ℕ) → Outcome (Unit {0})
try_columns s w Z = refuse_first s.columns (column_wrong s w Z) 33 (accepted tt)

-- 34: the denominators differ; 0
unfoldable pub try_denominators : System → List ℕ → List ℕ → List (List ℕ) → Outcome (Unit {0})
try_denominators s d w Z = refuse (not (same? (certified s w Z) d)) 34 0 (accepted tt)

-- 35: q·A not zero; first such column
unfoldable pub product_wrong : System → List (List ℕ) → ℕ → Bool
product_wrong s q j = not (zero? (column_of s q j))

unfoldable pub try_products : System → List (List ℕ) → Outcome (Unit {0})
try_products s q = refuse_first s.columns (product_wrong s q) 35 (accepted tt)

-- 36: q·b zero; 0
unfoldable pub try_side : System → List (List ℕ) → Outcome (Unit {0})
try_side s q = refuse (zero? (side_of s q)) 36 0 (accepted tt)

-- ---- one row after another; the first refusal decides

abbrev pub both : Outcome (Unit {0}) → Outcome (Unit {0}) → Outcome (Unit {0})
both first next = followed_by first (λ _. next)

refuse_both : (t : Bool) (number place : ℕ) (first next : Outcome (Unit {0}))
    → both (refuse t number place first) next ≡ refuse t number place (both first next)
refuse_both true number place first next = refl
refuse_both false number place first next = refl

refuse_first_both : (n : ℕ) (holds : ℕ → Bool) (number : ℕ) (first next : Outcome (Unit {0}))
    → both (refuse_first n holds number first) next ≡ refuse_first n holds number (both first next)
unfolding refuse_first
refuse_first_both zero holds number first next = refl
refuse_first_both (suc n) holds number first next =
    refuse_first_both n holds number (refuse (holds n) number n first) next
    ∙ ap (refuse_first n holds number) (refuse_both (holds n) number n first next)

module _ (s : System) where
  pub solution_rows : (d : List ℕ) (N : List (List ℕ)) (w : List ℕ) (Z : List (List ℕ))
      → solution_verdict s d N w Z ≡ both (try_monic s.modulus d w)
      (both (try_rows s d N) (both (try_columns s w Z) (try_denominators s d w Z)))
  unfolding solution_verdict try_monic try_rows row_wrong try_columns column_wrong try_denominators
  solution_rows d N w Z = sym (
      refuse_both (not (monic? s.modulus d)) 31 0 _ _
      ∙ ap (refuse (not (monic? s.modulus d)) 31 0) (refuse_both (not (monic? s.modulus w)) 31 1 _ _)
      ∙ ap (λ o. refuse (not (monic? s.modulus d)) 31 0 (refuse (not (monic? s.modulus w)) 31 1 o))
      (refuse_first_both s.rows (row_wrong s d N) 32 (accepted tt) _
      ∙ ap (refuse_first s.rows (row_wrong s d N) 32) (refuse_first_both s.columns (column_wrong s w Z) 33 (accepted tt) _)))

  pub absence_rows : (q : List (List ℕ)) → absence_verdict s q ≡ both (try_products s q) (try_side s q)
  unfolding absence_verdict try_products product_wrong try_side
  absence_rows q = sym (refuse_first_both s.columns (product_wrong s q) 35 (accepted tt) (try_side s q))
