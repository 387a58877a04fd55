-- The denominator d of a right certificate is the least: d divides every f with A·Q = f·b, and every t that clears N / d.
use Rattle.std.specs.Prelude.{ℕ, ◌<◌, ◌≡◌, refl, [], ◌∷◌}
use Rattle.std.proofs.Common.{sym, ◌∙◌, ap}
use Rattle.ring.specs.Ring.{Ring}
use Rattle.ring.specs.Sum.{sum, sum_ext, sum_mul, sum_assoc}
use Rattle.ring.specs.Identity.{quotes, identity}
use Rattle.ring.specs.Combination.{given, combination}
use Rattle.algebra.specs.Sized.{Sized, mul_cancel}
use Rattle.algebra.specs.Divides.{Divides, divides_equal, divides_mul, divides_sum, divides_products, mul_divides_cancel}
use Rattle.algebra.specs.Bezout.{Greatest}
use Rattle.reduction.specs.Euclidean.{Euclidean}
use Rattle.reduction.specs.System.{LinearSystem}
use Rattle.reduction.specs.Certificate.{RightSolutionIn}

module _ {A : Type 0} {R : Ring A} {S : Sized R} (E : Euclidean S) (T : LinearSystem S) {d w : A} {N Z : ℕ → A}
    (C : RightSolutionIn E T d N w Z) where
  open T use {rows as n, columns as m, matrix as M, side as b}
  open R use {add as ◌+◌, mul as ◌*◌, zero as 𝟘}

  infixl 65 ◌+◌
  infixl 70 ◌*◌
  -- Z·b
  abbrev Zb : A
  Zb = sum R n (λ i. Z i * b i)

  pub right_nonzero : ¬ (d ≡ 𝟘)
  right_nonzero = E.monic_nonzero d C.monic

  -- with g = s·w + t·(Z·b) and w = d·g: g·f = s·w·f + t·w·Y
  divided : (f : A) → Divides R w (f * Zb) → Divides R d f
  divided f h = record {
    cofactor = G.s * f + G.t * Y;
    product = mul_cancel S g f ((G.s * f + G.t * Y) * d) (E.monic_nonzero g C.divisor_monic)
        (combination R (g * f) (g * ((G.s * f + G.t * Y) * d))
        (given f G.bezout ∷ given G.t h.product ∷ given (G.s * f + G.t * Y) C.quotient ∷ [])
        (identity R (g ∷ f ∷ d ∷ w ∷ Y ∷ Zb ∷ G.s ∷ G.t ∷ []) (λ ρ qg qf qd qw q_Y qz qs qt. search quotes depth 20) refl));
  }
    where
      g : A
      g = C.divisor

      G : Greatest R w Zb g
      G = C.divisor_greatest

      Y : A
      Y = h.cofactor

  -- A·x = f·b gives (Z·A)·x = f·(Z·b)
  times_row : (f : A) (x : ℕ → A) → ((i : ℕ) → i < n → sum R m (λ j. M i j * x j) ≡ f * b i)
      → sum R m (λ j. sum R n (λ i. Z i * M i j) * x j) ≡ f * Zb
  times_row f x e =
      sym (sum_assoc R n m Z M x)
      ∙ sum_ext R n (λ i. Z i * sum R m (λ j. M i j * x j)) (λ i. f * (Z i * b i)) (λ i l.
      ap (λ y. Z i * y) (e i l) ∙ identity R (f ∷ Z i ∷ b i ∷ []) (λ ρ qf qz qb. search quotes depth 16) refl)
      ∙ sum_mul R n f (λ i. Z i * b i)

  pub right_divides : (f : A) (Q : ℕ → A) → ((i : ℕ) → i < n → sum R m (λ j. M i j * Q j) ≡ f * b i) → Divides R d f
  right_divides f Q e = divided f (divides_equal (times_row f Q e)
      (divides_sum m (λ j. sum R n (λ i. Z i * M i j) * Q j)
      (λ j l. divides_equal (R.mul_comm (Q j) (sum R n (λ i. Z i * M i j))) (divides_mul (Q j) (C.divides j l)))))

  -- w·d divides (Z·A)·(t·N) = t·d·(Z·b)
  pub right_clears : (t : A) → ((j : ℕ) → j < m → Divides R d (t * N j)) → Divides R d t
  right_clears t h = divided t (mul_divides_cancel S d w (t * Zb) right_nonzero (divides_equal
      (times_row (t * d) (λ j. t * N j) row ∙ identity R (t ∷ d ∷ Zb ∷ []) (λ ρ qt qd qz. search quotes depth 16) refl)
      (divides_sum m (λ j. sum R n (λ i. Z i * M i j) * (t * N j)) (λ j l.
      divides_equal (R.mul_comm (t * N j) (sum R n (λ i. Z i * M i j))) (divides_products (h j l) (C.divides j l))))))
    where
      row : (i : ℕ) → i < n → sum R m (λ j. M i j * (t * N j)) ≡ t * d * b i
      row i l =
          sum_ext R m (λ j. M i j * (t * N j)) (λ j. t * (M i j * N j))
          (λ j g. identity R (t ∷ M i j ∷ N j ∷ []) (λ ρ qt qm qn. search quotes depth 16) refl)
          ∙ sum_mul R m t (λ j. M i j * N j)
          ∙ ap (λ y. t * y) (C.solves i l)
          ∙ sym (R.mul_assoc t d (b i))
