-- The second system solved, as a function.
use Rattle.std.specs.Prelude.{ℕ, refl}
use Rattle.std.proofs.Common.{inl, inr}
use Rattle.ring.specs.Ring.{Ring}
use Rattle.algebra.specs.Sized.{Sized}
use Rattle.ring.specs.Total.{total}
use Rattle.reduction.specs.Pivot.{Vanishes}
use Rattle.reduction.specs.Slots.{Slots}
use Rattle.reduction.specs.Span.{InSpan}
use Rattle.reduction.specs.Euclidean.{Euclidean, Associate}
use Rattle.reduction.specs.Insert.{Stop}
use Rattle.reduction.specs.Division.{Divided, slot_quotient, quotient_empty, division_quotients, divide_out}
use Rattle.reduction.specs.Dual.{Dual}
use Rattle.reduction.specs.Transpose.{Tops, back, transposed, second_side, weights, transposed_filled}
use Rattle.reduction.specs.Second.{not_stuck, second_positive, second_span, second_dual}
use Rattle.reduction.specs.Run.{Run, run}

module _ {A : Type 0} {R : Ring A} {S : Sized R} (E : Euclidean S) where
  pub record SecondSolution (n B : ℕ) (U : Slots A) : Type 0 where
    pub w : A
    pub Y : ℕ → A
    pub monic : E.Monic w
    pub dual : Dual S n B U w Y

  module _ (n B : ℕ) (U : Slots A) (O : Tops S n B (total n U.size) U) where
    abbrev D : ℕ
    D = total n U.size

    abbrev C : Slots A
    C = transposed R n D U

    X : Run S n (weights R n D U) C (second_side R n D U)
    X = run E n (weights R n D U) C (transposed_filled O) (second_side R n D U)

    -- w times the right side divided by the slots
    module _ (z : Vanishes R n X.inserting.now.hand) where
      μ : Associate S E.Monic (X.inserting.now.hand n)
      μ = E.associate (X.inserting.now.hand n) (second_positive O X.inserting z)

      abbrev w : A
      w = R.mul μ.unit (X.inserting.now.hand n)

      abbrev product : ℕ → A
      product i = R.mul w (second_side R n D U i)

      divided : Divided R n C product
      divided = divide_out R n C (transposed_filled O) E product (second_span O X.inserting z μ)

      coefficients : InSpan R n n C product
      coefficients = record {
        coefficient = slot_quotient R n C divided.trace;
        empty = quotient_empty R n C divided.trace;
        equal = division_quotients R n C divided.trace divided.ends;
      }

      solved : SecondSolution n B U
      solved = record {
        w = w;
        Y = λ k. coefficients.coefficient (back n k);
        monic = μ.monic;
        dual = second_dual O X.inserting z μ coefficients (λ k. coefficients.coefficient (back n k)) (λ k h. refl);
      }

    pub second : SecondSolution n B U
    second = go X.stop
      where
        go : Stop S n (weights R n D U) X.inserting.now → SecondSolution n B U
        go (inl z) = solved z
        go (inr K) = absurd (not_stuck O X.inserting K)
