-- The start word of a polynomial: what is told at each test of the code.
use mathlib.Core.Path.{◌≡◌, refl, ap}
use mathlib.Core.List.{List, [], ◌∷◌}
use Prim.Native.Nat.{ℕ, ◌≤◌, ◌<◌}
use native.Mathlib.Omega.{arith}
use lib.ListN.{length, get_or, drop}
use borrow.Author.Tests.{eq-eqb, ne_eqb, le-ltb, lt-ltb}
use Rattle.words.specs.Word.{kind, payload}
use Rattle.words.specs.Outcome.Outcome.{refused}
use Rattle.words.specs.Reading.{words_used}
use Rattle.words.specs.Polynomial.{coefficients_from, polynomial_from}

module _ (p limit : ℕ) where
  pub start_missing : (ws : List ℕ) → length ws ≤ 0 → words_used (length ws) (polynomial_from p limit ws) ≡ refused 4 0
  unfolding polynomial_from
  start_missing [] e = refl
  start_missing (w ∷ ws) e = absurd (omega arith)

  pub start_kind : (ws : List ℕ) → 0 < length ws → (kind (get_or ws 0 0) ≡ 2 → ⊥)
      → words_used (length ws) (polynomial_from p limit ws) ≡ refused 5 0
  unfolding polynomial_from
  start_kind [] some k = absurd (omega arith)
  start_kind (w ∷ ws) some k = simp (ne_eqb _ _ k) (ap (refused 5) (omega arith))

  pub start_many : (ws : List ℕ) → 0 < length ws → kind (get_or ws 0 0) ≡ 2 → limit < payload (get_or ws 0 0)
      → words_used (length ws) (polynomial_from p limit ws) ≡ refused 6 0
  unfolding polynomial_from
  start_many [] some k h = absurd (omega arith)
  start_many (w ∷ ws) some k h = simp (eq-eqb _ _ k, lt-ltb _ _ h) (ap (refused 6) (omega arith))

  pub start_right : (ws : List ℕ) → 0 < length ws → kind (get_or ws 0 0) ≡ 2 → payload (get_or ws 0 0) ≤ limit
      → polynomial_from p limit ws ≡ coefficients_from p (payload (get_or ws 0 0)) (drop 1 ws)
  unfolding polynomial_from
  start_right [] some k h = absurd (omega arith)
  start_right (w ∷ ws) some k h = simp (eq-eqb _ _ k, le-ltb _ _ h)
