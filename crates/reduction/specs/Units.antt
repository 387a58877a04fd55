-- Independent rows: the unit columns have one denominator e in common, no longer than suc (n·δ); and h divides e wherever h divides
-- U·A for a row of fractions U / f in lowest terms whose f is a multiple of h. That bounds the w of certificates that are found one
-- by one.
use Rattle.std.specs.Prelude.{ℕ, suc, ◌<◌, ◌≤◌, min, ◌*◌ as ◌*ₙ◌, ◌≡◌, refl, ◌⊎◌, [], ◌∷◌}
use Rattle.std.proofs.Common.{sym, ◌∙◌, ap, inl, inr, arith}
use Rattle.ring.specs.Ring.{Ring, zero_mul}
use Rattle.ring.specs.Sum.{sum, sum_ext, sum_none, sum_single, sum_assoc}
use Rattle.ring.specs.Identity.{quotes, identity}
use Rattle.algebra.specs.Sized.{Sized, mul_nonzero_left}
use Rattle.algebra.specs.Divides.{Divides, divides_equal, divides_mul, divides_sum, mul_divides_mul, mul_divides_cancel}
use Rattle.reduction.specs.Replace.{replace, replace_here, replace_other, replace_elim}
use Rattle.reduction.specs.Euclidean.{Euclidean}
use Rattle.reduction.specs.System.{LinearSystem}
use Rattle.reduction.specs.Existence.{Solved, Unsolvable, certificate_within}
use Rattle.reduction.specs.Square.{IndependentRows}
use Rattle.reduction.specs.Joint.{Solvable, Joint, joint_within}
use Rattle.reduction.specs.Lines.{with_side, line_solvable}

-- one at k, zero elsewhere
abbrev pub unit_column : {A : Type 0} → Ring A → ℕ → ℕ → A
unit_column R k = replace (λ i. R.zero) k R.one

module _ {A : Type 0} {R : Ring A} {S : Sized R} (E : Euclidean S) (T : LinearSystem S) where
  open T use {rows as n, columns as m, degree as δ, matrix as M}
  open R use {mul as ◌*◌, zero as 𝟘, one as 𝟙}
  open S use {size, size_zero, size_one}

  infixl 70 ◌*◌
  unit_short : (k i : ℕ) → k < n → i < n → size (unit_column R k i) ≤ suc δ
  unit_short k i l h = replace_elim (λ i x. size x ≤ suc δ) (λ i. 𝟘) k 𝟙 (omega (arith, size_one)) i
      (λ ne. omega (arith, size_zero))

  -- a row that kills A is zero, and excludes no column
  pub units_joint : IndependentRows R n m M → (B : ℕ) → min n m *ₙ δ ≤ B → Joint T (unit_column R) n (suc B)
  units_joint independent B h = joint_within T (unit_column R) E n unit_short solvable B h
    where
      solvable : (k : ℕ) → k < n → Solvable T (unit_column R) k
      solvable k l = go (certificate_within E t B h)
        where
          t : LinearSystem S
          t = with_side T (unit_column R k) (λ i g. unit_short k i l g)

          go : Solved E t (suc B) ⊎ Unsolvable E t (suc B) → Solvable T (unit_column R) k
          go (inl s) = line_solvable E T (unit_column R) n unit_short k l s.d
              record { N = s.N; w = s.w; Z = s.Z; right = s.right }
          go (inr u) = absurd (u.right.nonzero (sum_none R n (λ i. u.q i * unit_column R k i) (λ i g.
              ap (λ y. y * unit_column R k i) (independent u.q u.right.kills i g) ∙ zero_mul R (unit_column R k i))))

  module _ {B : ℕ} (J : Joint T (unit_column R) n B) (h : A) (U : ℕ → A)
      (divides : (j : ℕ) → j < m → Divides R h (sum R n (λ i. U i * M i j))) where
    -- (U·A)·(Q i) = e·(U i)
    pub units_entry : (i : ℕ) → i < n → Divides R h (J.e * U i)
    units_entry i l = divides_equal (sym (sum_assoc R n m U M Q) ∙ single)
        (divides_sum m (λ j. sum R n (λ k. U k * M k j) * Q j) (λ j g.
        divides_equal (R.mul_comm (Q j) (sum R n (λ k. U k * M k j))) (divides_mul (Q j) (divides j g))))
      where
        Q : ℕ → A
        Q = (J.solved i l).N

        single : sum R n (λ k. U k * sum R m (λ j. M k j * Q j)) ≡ J.e * U i
        single =
            sum_ext R n (λ k. U k * sum R m (λ j. M k j * Q j)) (λ k. U k * (J.e * unit_column R i k))
            (λ k g. ap (λ y. U k * y) ((J.solved i l).solves k g))
            ∙ sum_single R n i (λ k. U k * (J.e * unit_column R i k)) l (λ k g ne.
            ap (λ y. U k * (J.e * y)) (replace_other (λ _. 𝟘) i 𝟙 k ne)
            ∙ identity R (U k ∷ J.e ∷ []) (λ ρ qu qe. search quotes depth 16) refl)
            ∙ ap (λ y. U i * (J.e * y)) (replace_here (λ _. 𝟘) i 𝟙)
            ∙ identity R (U i ∷ J.e ∷ []) (λ ρ qu qe. search quotes depth 16) refl

    -- f = u·h divides u·e·(U i) for every i, and so u·e
    pub units_divides : (f u : A) → ¬ (f ≡ 𝟘) → f ≡ u * h → ((t : A) → ((i : ℕ) → i < n → Divides R f (t * U i)) → Divides R f t)
        → Divides R h J.e
    units_divides f u nonzero e lowest = mul_divides_cancel S u h J.e (mul_nonzero_left S u h (λ z. nonzero (e ∙ z)))
        (rw e at whole)
      where
        whole : Divides R f (u * J.e)
        whole = lowest (u * J.e)
            (λ i l. rw e (divides_equal (sym (R.mul_assoc u J.e (U i))) (mul_divides_mul u (units_entry i l))))
