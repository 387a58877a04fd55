-- The rows of the table in their order: where one turns back the verdict is what it tells, and the last tells the rest.
use mathlib.Core.Path.{◌≡◌, sym, ap, ◌∙◌}
use mathlib.Core.List.{List}
use Prim.Native.Nat.{ℕ}
use Rattle.words.specs.Outcome.{Outcome}
use Rattle.words.specs.Outcome.Outcome.{accepted, refused}
use Rattle.words.specs.System.{System}
use Rattle.truth.specs.Verdict.{solution_verdict, absence_verdict}
use Rattle.check_conditions.specs.Table.{try_monic, try_rows, try_columns, try_denominators, try_products, try_side, both}
use Rattle.check_conditions.specs.Table.{solution_rows}
use Rattle.check_conditions.specs.Table.{absence_rows}

-- a row before others: where it turns back it decides, else the others do
module _ {told first : Outcome (Unit {0})} (is : told ≡ first) (next : Outcome (Unit {0})) where
  stops : {number place : ℕ} → told ≡ refused number place → told ≡ both first next
  stops e = e ∙ ap (λ o. both o next) (sym e ∙ is)

  goes_on : told ≡ accepted tt → next ≡ both first next
  goes_on e = ap (λ o. both o next) (sym e ∙ is)

module _ (s : System) (d : List ℕ) (N : List (List ℕ)) (w : List ℕ) (Z : List (List ℕ)) {first : Outcome (Unit {0})}
    (is_first : first ≡ try_monic s.modulus d w) where
  abbrev Verdict : Outcome (Unit {0})
  Verdict = solution_verdict s d N w Z

  pub solution_monic : {number place : ℕ} → first ≡ refused number place → first ≡ Verdict
  solution_monic e = stops is_first _ e ∙ sym (solution_rows s d N w Z)

  module _ (pass : first ≡ accepted tt) {second : Outcome (Unit {0})} (is_second : second ≡ try_rows s d N) where
    from_second : both (try_rows s d N) (both (try_columns s w Z) (try_denominators s d w Z)) ≡ Verdict
    from_second = goes_on is_first _ pass ∙ sym (solution_rows s d N w Z)

    pub solution_row : {number place : ℕ} → second ≡ refused number place → second ≡ Verdict
    solution_row e = stops is_second _ e ∙ from_second

    module _ (pass_second : second ≡ accepted tt) {third : Outcome (Unit {0})} (is_third : third ≡ try_columns s w Z) where
      from_third : both (try_columns s w Z) (try_denominators s d w Z) ≡ Verdict
      from_third = goes_on is_second _ pass_second ∙ from_second

      pub solution_column : {number place : ℕ} → third ≡ refused number place → third ≡ Verdict
      solution_column e = stops is_third _ e ∙ from_third

      pub solution_last : third ≡ accepted tt → {last : Outcome (Unit {0})} → last ≡ try_denominators s d w Z → last ≡ Verdict
      solution_last pass_third is = is ∙ goes_on is_third _ pass_third ∙ from_third

module _ (s : System) (q : List (List ℕ)) {first : Outcome (Unit {0})} (is_first : first ≡ try_products s q) where
  pub absence_product : {number place : ℕ} → first ≡ refused number place → first ≡ absence_verdict s q
  absence_product e = stops is_first _ e ∙ sym (absence_rows s q)

  pub absence_last : first ≡ accepted tt → {last : Outcome (Unit {0})} → last ≡ try_side s q → last ≡ absence_verdict s q
  absence_last pass is = is ∙ goes_on is_first _ pass ∙ sym (absence_rows s q)
