-- The values 0 and 1, and what the words of a value say of its coefficients.
use mathlib.Core.Path.{◌≡◌, refl, sym, ap, ◌∙◌, subst}
use mathlib.Core.Bool.{Bool}
use mathlib.Core.List.{List, [], ◌∷◌}
use Prim.Native.Nat.{ℕ, zero, suc, ◌-◌, ◌<◌}
use native.Mathlib.Omega.{arith}
use lib.Dec.{eqb, eqb-suc-zero}
use lib.ListN.{length, get_or, set, take, replicate, length-set}
use lib.Seq.{get_or-set_same, get_or-set_other}
use Rattle.algebra.specs.Coefficients.{one, leading}
use Rattle.modular.specs.Modulo.{modulo}
use Rattle.modular.specs.Closed.{canonical_nil, canonical_one}
use Rattle.modular.specs.Coefficientwise.{coefficient_get_or, coefficient_last}
use Rattle.polynomial_words.specs.Decides.{Decides, decides_yes, decides_no}
use Rattle.polynomial.specs.Value.{polynomial_room, Represents, represents}

pub zeros_are_zero : (n i : ℕ) → get_or {A = ℕ} (replicate n 0) i 0 ≡ 0
zeros_are_zero zero i = refl
zeros_are_zero (suc n) zero = refl
zeros_are_zero (suc n) (suc i) = zeros_are_zero n i

module _ (p : ℕ) (words : List ℕ) (room : length words ≡ polynomial_room) (zeros : (i : ℕ) → get_or words i 0 ≡ 0) where
  pub represents_zero : Represents p (record { size = 0; coefficients = words }) []
  represents_zero =
      represents
      p
      (record { size = 0; coefficients = words })
      []
      (canonical_nil p)
      room
      refl
      (omega arith)
      (λ i. zeros i ∙ sym (coefficient_get_or p [] i))

  pub represents_one : 1 < p → Represents p (record { size = 1; coefficients = set words 0 1 }) (one (modulo p))
  unfolding one modulo
  represents_one large =
      represents
      p
      (record { size = 1; coefficients = set words 0 1 })
      (one (modulo p))
      (canonical_one p large)
      (length-set words 0 1 ∙ room)
      refl
      (omega arith)
      (λ i. word i ∙ sym (coefficient_get_or p (1 ∷ []) i))
    where
      word : (i : ℕ) → get_or (set words 0 1) i 0 ≡ get_or {A = ℕ} (1 ∷ []) i 0
      word zero = get_or-set_same words 0 1 0 (omega arith)
      word (suc i) = get_or-set_other words 0 (suc i) 1 0 (λ e. omega arith) ∙ zeros (suc i)

-- no coefficients, and some
pub decides_zero : (n : ℕ) (words : List ℕ) → 0 < length words → Decides (eqb n 0) (take n words ≡ [])
decides_zero zero words some = decides_yes refl
decides_zero (suc n) [] some = absurd (omega arith)
decides_zero (suc n) (a ∷ words) some =
    subst
    (λ (b : Bool). Decides b (a ∷ take n words ≡ []))
    (sym (eqb-suc-zero n))
    (decides_no (λ e. let z = ap length e in omega arith))

-- the last word is the leading coefficient; without one, zero's is 0
pub leading_last : (p : ℕ) (l : List ℕ) → get_or l (length l - 1) 0 ≡ leading (modulo p) l
unfolding leading modulo
leading_last p [] = refl
leading_last p (a ∷ l) =
    sym (coefficient_get_or p (a ∷ l) (length (a ∷ l) - 1)) ∙ coefficient_last p (a ∷ l) (length (a ∷ l) - 1) (omega arith)
