-- The way down, as a function: from a vector f of the span of the last level to numerators N with A·N = f.
use Rattle.std.specs.Prelude.{ℕ, zero, suc, ◌<◌, ◌≤◌, ◌+◌ as ◌+ₙ◌, ◌*◌ as ◌*ₙ◌, ◌≡◌, refl, [], ◌∷◌}
use Rattle.std.proofs.Common.{sym, ◌∙◌, ap, subst, arith}
use Rattle.std.proofs.Math.Decide.{ℕ_discrete}
use Rattle.ring.specs.Ring.{Ring}
use Rattle.ring.specs.Sum.{sum}
use Rattle.ring.specs.Identity.{quotes, identity}
use Rattle.ring.specs.Combination.{given, combination}
use Rattle.algebra.specs.Sized.{Sized}
use Rattle.reduction.specs.Total.{rank, degrees}
use Rattle.reduction.specs.Replace.{replace, replace_here, replace_other, extend, extend_below, extend_at}
use Rattle.reduction.specs.Slots.{Slots}
use Rattle.reduction.specs.Span.{InSpan, span_ext}
use Rattle.reduction.specs.Euclidean.{Euclidean, WithRemainder}
use Rattle.reduction.specs.Division.{Divided, division_tail, divide_out}
use Rattle.reduction.specs.System.{LinearSystem}
use Rattle.reduction.specs.Levels.{Levels, level_of}
use Rattle.reduction.specs.Descent.{Descent, descent_start, descent_turn, descent_end}
use Rattle.reduction.specs.Numerators.{ReducedNumerators}
use Rattle.reduction.specs.Reduced.{descent_reduced}

module _ {A : Type 0} {R : Ring A} {S : Sized R} (E : Euclidean S) where
  open R use {add as ◌+◌, mul as ◌*◌, neg as -◌, zero as 𝟘, one as 𝟙}
  open S use {size}

  infixl 65 ◌+◌
  infixl 65 ◌-◌
  infixl 70 ◌*◌
  infix 75 -◌
  abbrev ◌-◌ : A → A → A
  a - b = a + (- b)

  -- y₀ modulo a kernel that is not zero
  record Reduced (y₀ kernel : A) : Type 0 where
    pub multiple : A
    pub value : A
    pub equal : value ≡ y₀ - multiple * kernel
    pub smaller : 0 < size kernel → size value < size kernel

  reduced : (y₀ k : A) → Dec (size k ≡ 0) → Reduced y₀ k
  reduced y₀ k (yes e) = record {
    multiple = 𝟘;
    value = y₀;
    equal = identity R (y₀ ∷ k ∷ []) (λ ρ qy qk. search quotes depth 16) refl;
    smaller = λ h. absurd (omega arith);
  }
  reduced y₀ k (no e) = record {
    multiple = D.quotient;
    value = D.remainder;
    equal = combination R D.remainder (y₀ - D.quotient * k) (given (- 𝟙) D.equal ∷ [])
        (identity R (D.remainder ∷ y₀ ∷ D.quotient ∷ k ∷ []) (λ ρ qr qy qq qk. search quotes depth 16) refl);
    smaller = λ h. D.smaller;
  }
    where
      D : WithRemainder S y₀ k
      D = E.divide y₀ k (omega arith)

  module _ (T : LinearSystem S) (level : ℕ → Slots A) (kernel : ℕ → A) (C : Levels T level kernel T.columns) (f : ℕ → A) where
    open T use {rows as n, columns as m, degree as δ, matrix as M}

    record Down (j : ℕ) : Type 0 where
      pub rest : ℕ → A
      pub N : ℕ → A
      pub descent : Descent T level kernel f j rest N

    turn : (j : ℕ) → j < m → Down (suc j) → Down j
    turn j h D = record {
      rest = λ i. t i - y.value * M i j;
      N = N';
      descent = descent_turn T level kernel C f j h (record {
        tails = - divided.rest n;
        span = division_tail R n (level (suc j)) divided.trace t (extend_below n t 𝟘) (extend_at n t 𝟘) divided.ends;
        multiple = y.multiple;
        coordinate = here ∙ y.equal;
        reduced = λ p. subst (λ x. size x < size (kernel j)) (sym here) (y.smaller p);
        others = λ k l g. replace_other D.N j y.value k (omega arith);
        rest = λ i l. ap (λ x. t i - x * M i j) (sym here);
      }) D.descent;
    }
      where
        t : ℕ → A
        t = D.rest

        divided : Divided R n (level (suc j)) (extend n t 𝟘)
        divided = divide_out R n (level (suc j)) (level_of T C (suc j) h).filled E (extend n t 𝟘)
            (span_ext R D.descent.span (extend n t 𝟘) (extend_below n t 𝟘))

        y : Reduced (- divided.rest n) (kernel j)
        y = reduced (- divided.rest n) (kernel j) (ℕ_discrete (size (kernel j)) 0)

        N' : ℕ → A
        N' = replace D.N j y.value

        here : N' j ≡ y.value
        here = replace_here D.N j y.value

    -- i columns are done
    down : InSpan R n n (level m) f → ((i : ℕ) → i < n → size (f i) ≤ suc (δ +ₙ degrees n (level m).size))
        → (i j : ℕ) → j +ₙ i ≡ m → Down j
    down s small zero j e = record {
      rest = f;
      N = λ k. 𝟘;
      descent = subst (λ x. Descent T level kernel f x f (λ k. 𝟘)) (omega arith)
          (descent_start T level kernel f (λ k. 𝟘) s small);
    }
    down s small (suc i) j e = turn j (omega arith) (down s small i (suc j) (omega arith))

    pub record Numerators : Type 0 where
      pub N : ℕ → A
      pub solves : (i : ℕ) → i < n → sum R m (λ j. M i j * N j) ≡ f i
      pub small : (j : ℕ) → j < m → size (N j) ≤ suc (rank n (level m).size *ₙ δ)
      pub reduced : ReducedNumerators S n m M N

    pub numerators : InSpan R n n (level m) f → ((i : ℕ) → i < n → size (f i) ≤ suc (δ +ₙ degrees n (level m).size)) → Numerators
    numerators s small =
        let D = down s small m 0 (omega arith) in
        record {
          N = D.N;
          solves = descent_end T level kernel C f D.rest D.N D.descent;
          small = λ j h. D.descent.small j (omega arith) h;
          reduced = descent_reduced T level kernel C f D.rest D.N D.descent;
        }
