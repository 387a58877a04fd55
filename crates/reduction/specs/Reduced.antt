-- The numerators of the way down are the reduced ones: a relation of the columns up to j puts v j·A_j in the span of level j.
use Rattle.std.specs.Prelude.{ℕ, suc, ◌<◌, ◌≡◌, refl, [], ◌∷◌}
use Rattle.std.proofs.Common.{sym, ◌∙◌, ap, arith}
use Rattle.ring.specs.Ring.{Ring, mul_zero}
use Rattle.ring.specs.Sum.{sum, sum_beyond}
use Rattle.ring.specs.Identity.{quotes, identity}
use Rattle.ring.specs.Combination.{given, combination}
use Rattle.algebra.specs.Sized.{Sized, size_positive}
use Rattle.algebra.specs.Divides.{Divides, divides_size}
use Rattle.reduction.specs.Slots.{Slots}
use Rattle.reduction.specs.Span.{InSpan, span_combine}
use Rattle.reduction.specs.System.{LinearSystem}
use Rattle.reduction.specs.Levels.{Levels, level_of, level_spans}
use Rattle.reduction.specs.Descent.{Descent}
use Rattle.reduction.specs.Numerators.{Relation, ReducedNumerators}

module _ {A : Type 0} {R : Ring A} {S : Sized R} (T : LinearSystem S) (level : ℕ → Slots A) (kernel : ℕ → A)
    (C : Levels T level kernel T.columns) where
  open T use {rows as n, columns as m, matrix as M}
  open R use {add as ◌+◌, mul as ◌*◌, neg as -◌, zero as 𝟘, one as 𝟙}
  open S use {size}

  infixl 65 ◌+◌
  infixl 70 ◌*◌
  infix 75 -◌
  module _ (j : ℕ) (h : j < m) (v : ℕ → A) (X : Relation S n m M j v) where
    -- the columns before j, with the coefficients v
    before : InSpan R n n (level j) (λ i. sum R j (λ l. M i l * v l))
    before = level_spans T (level_of T C j (omega arith)) (record { parts = v; equal = λ i g. refl })

    -- nothing comes after j
    after : (i : ℕ) → sum R m (λ l. M i l * v l) ≡ sum R (suc j) (λ l. M i l * v l)
    after i = sum_beyond R m (suc j) (λ l. M i l * v l) h (λ k g l. ap (λ x. M i k * x) (X.last k g l) ∙ mul_zero R (M i k))

    spanned : InSpan R n n (level j) (λ i. v j * M i j)
    unfolding sum
    spanned = span_combine R (- 𝟙) 𝟘 before before (λ i. v j * M i j) (λ i g.
        combination R (v j * M i j) ((- 𝟙) * sum R j (λ l. M i l * v l) + 𝟘 * sum R j (λ l. M i l * v l))
        (given 𝟙 (sym (after i) ∙ X.kills i g) ∷ [])
        (identity R (v j ∷ M i j ∷ sum R j (λ l. M i l * v l) ∷ []) (λ ρ qv qm qs. search quotes depth 16) refl))

    pub relation_kernel : Divides R (kernel j) (v j)
    relation_kernel = (C.link j h).least (v j) spanned

  pub descent_reduced : (f t N : ℕ → A) → Descent T level kernel f 0 t N → ReducedNumerators S n m M N
  descent_reduced f t N D j h v X ne =
      let divides = relation_kernel j h v X in
      let some : 0 < size (kernel j) = size_positive S (kernel j) (λ z.
      ne (divides.product ∙ ap (λ x. divides.cofactor * x) z ∙ mul_zero R divides.cofactor)) in
      omega (arith, D.reduced j (omega arith) h some, divides_size S divides ne)
