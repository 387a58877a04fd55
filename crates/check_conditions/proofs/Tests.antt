-- The tests on values answer as those of the verdict do.
use mathlib.Core.Path.{◌≡◌, sym, ◌∙◌, subst, subst₂}
use mathlib.Core.Bool.{Bool, true≢false}
use mathlib.Core.List.{List, []}
use Prim.Native.Nat.{ℕ}
use Rattle.polynomial.specs.declared.value.Polynomial.{Polynomial}
use Rattle.polynomial.specs.Value.{coefficients_of, Represents}
use Rattle.polynomial_words.specs.Decides.{Decides, decides_same}
use Rattle.truth.specs.Verdict.{zero?, same?}
use Rattle.truth.specs.RefusalLaws.{zero?_true, zero?_false, same?_true, true_same?}

zero_decides : (f : List ℕ) → Decides (zero? f) (f ≡ [])
zero_decides f = record { holds = zero?_true f; fails = zero?_false f }

same_decides : (f g : List ℕ) → Decides (same? f g) (f ≡ g)
same_decides f g = record { holds = same?_true f g; fails = λ e is. true≢false (sym (true_same? f g is) ∙ e) }

module _ {p : ℕ} {x : Polynomial} {f : List ℕ} (r : Represents p x f) {t : Bool} where
  pub zero_test : Decides t (coefficients_of x ≡ []) → t ≡ zero? f
  zero_test d = decides_same t (zero? f) (subst (λ (l : List ℕ). Decides t (l ≡ [])) r.same d) (zero_decides f)

  pub equal_test : {y : Polynomial} {g : List ℕ} → Represents p y g → Decides t (coefficients_of x ≡ coefficients_of y)
      → t ≡ same? f g
  equal_test {y} {g} s d =
      decides_same t (same? f g) (subst₂ (λ (k l : List ℕ). Decides t (k ≡ l)) r.same s.same d) (same_decides f g)
