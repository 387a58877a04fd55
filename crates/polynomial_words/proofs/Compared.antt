-- Words compared that are not as many.
use mathlib.Core.Path.{◌≡◌, sym, ap, ◌∙◌}
use mathlib.Core.Bool.{false}
use mathlib.Core.List.{List}
use Prim.Native.Nat.{ℕ, ◌≤◌}
use lib.ListN.{length, take}
use lib.Seq.{length-take-le}
use Rattle.polynomial_words.specs.Decides.{Decides, decides_no}

pub compared_sizes : (f g : List ℕ) (n m : ℕ) → n ≤ length f → m ≤ length g → (n ≡ m → ⊥) →
    Decides false (take n f ≡ take m g)
compared_sizes f g n m in_f in_g differ =
    decides_no (λ e. differ (sym (length-take-le n f in_f) ∙ ap length e ∙ length-take-le m g in_g))
