-- L7, the certificate of a solution is right: b was inserted into the last level U and ended with block zero, its tail e. Then d
-- is e made monic, and the second system is that of the slots after the insertion.
use Rattle.std.specs.Prelude.{ℕ, suc, ◌<◌, ◌≤◌, ◌+◌ as ◌+ₙ◌, ◌*◌ as ◌*ₙ◌, ◌≡◌, [], ◌∷◌}
use Rattle.std.proofs.Math.Path.{refl, ap}
use Rattle.std.proofs.Common.{sym, ◌∙◌, arith}
use Rattle.ring.specs.Ring.{Ring}
use Rattle.ring.specs.Sum.{sum, sum_ext, sum_mul}
use Rattle.ring.specs.Identity.{quotes, identity}
use Rattle.ring.specs.Combination.{given, combination}
use Rattle.algebra.specs.Sized.{Sized, size_positive, size_mul_le, mul_cancel, mul_nonzero}
use Rattle.algebra.specs.Divides.{Divides, divides_equal, mul_divides_mul}
use Rattle.algebra.specs.Bezout.{Greatest}
use Rattle.reduction.specs.Total.{rank, degrees, degrees_ext}
use Rattle.reduction.specs.Replace.{extend, extend_below, extend_at}
use Rattle.reduction.specs.Pivot.{Vanishes}
use Rattle.reduction.specs.Slots.{Slots, unweighted}
use Rattle.reduction.specs.Span.{InSpan, InSpanWith, span_scale, span_slot, with_none}
use Rattle.reduction.specs.Euclidean.{Euclidean, Associate, associate_nonzero, associate_size}
use Rattle.reduction.specs.Trace.{State}
use Rattle.reduction.specs.Kept.{tail_nonzero}
use Rattle.reduction.specs.Inserting.{Inserting, kept, inserting_old, inserting_new, inserting_blocks, inserting_hand}
use Rattle.reduction.specs.System.{LinearSystem}
use Rattle.reduction.specs.Levels.{Columns, LevelKnown}
use Rattle.reduction.specs.Dual.{Dual, dual_span}
use Rattle.reduction.specs.Transpose.{Tops}
use Rattle.reduction.specs.Certificate.{RightSolutionIn, SmallSolution}
use Rattle.reduction.specs.Certifying.{Short, Certifying}

module _ {A : Type 0} {R : Ring A} {S : Sized R} (E : Euclidean S) (T : LinearSystem S) where
  open T use {rows as n, columns as m, degree as δ, matrix as M, side as b, side_small}
  open R use {add as ◌+◌, mul as ◌*◌, neg as -◌, zero as 𝟘, one as 𝟙}
  open S use {size}

  infixl 65 ◌+◌
  infixl 65 ◌-◌
  infixl 70 ◌*◌
  infix 75 -◌
  abbrev ◌-◌ : A → A → A
  a - b = a + (- b)

  module _ {U : Slots A} (L : LevelKnown T m U) (X : Inserting S n unweighted U b) (z : Vanishes R n X.now.hand) where
    abbrev t : State A
    t = X.now

    abbrev e : A
    e = X.now.hand n

    -- the sum of the degrees of the last level
    abbrev Q : ℕ
    Q = degrees n U.size

    pub solution_positive : 0 < size (X.now.hand n)
    solution_positive = size_positive S e (tail_nonzero (kept L.filled X) z)

    -- L4 for b: the bound of e, and of the right side of the second system
    e_small : size e +ₙ degrees n t.slots.size ≤ suc Q
    e_small = (kept L.filled X).tails.hand solution_positive

    pub solution_tops : (D : ℕ) → ((q : ℕ) → q < n → X.now.slots.size q ≤ D) → Tops S n (degrees n U.size) D X.now.slots
    solution_tops D high = record {
      filled = (kept L.filled X).filled;
      tails = λ q h f y. omega (arith, (kept L.filled X).tails.slot q h f y);
      high = high;
    }

    module _ (μ : Associate S E.Monic (X.now.hand n)) where
      abbrev d : A
      d = μ.unit * X.now.hand n

      d_size : size d ≡ size e
      d_size = associate_size S μ solution_positive

      -- L4 for d, made from e
      pub solution_room : size (μ.unit * X.now.hand n) +ₙ degrees n X.now.slots.size ≤ suc (degrees n U.size)
      solution_room = omega (arith, d_size, e_small)

      -- d·b is in the span of the last level: the way down starts there
      pub solution_span : InSpan R n n U (λ k. d * b k)
      solution_span = span_scale R (- μ.unit) (inserting_hand L.filled X) (λ k. d * b k)
          (λ k h. sym (ap (λ x. (- μ.unit) * (x - e * b k)) (z k h)
          ∙ identity R (μ.unit ∷ e ∷ b k ∷ []) (λ ρ qu qe qb. search quotes depth 16) refl))

      pub solution_small : (i : ℕ) → i < n → size (d * b i) ≤ suc (δ +ₙ degrees n U.size)
      solution_small i h =
          omega (arith, size_mul_le S d (b i) (size e) (suc δ) (omega (arith, d_size)) (side_small i h), e_small)

      -- with w' and Y of the second system, of slots G that span the same with the hand
      module _ {G : Slots A} (sizes : (q : ℕ) → q < n → X.now.slots.size q ≡ G.size q)
          (into : (u : ℕ → A) → InSpanWith R n (suc n) X.now.slots X.now.hand u → InSpanWith R n (suc n) G X.now.hand u)
          (w' : A) (Y : ℕ → A) (monic : E.Monic w') (K : Dual S n (degrees n U.size) G w' Y) where
        abbrev w : A
        w = d * w'

        -- Y·x = w'·(τ - s·e) for (x | τ) in the span of slots and hand, s its multiple of the hand
        row : (x : ℕ → A) (τ : A) (s : InSpanWith R n (suc n) G t.hand (extend n x τ))
            → sum R n (λ i. Y i * x i) ≡ w' * (τ - s.multiple * e)
        row x τ s =
            sum_ext R n (λ i. Y i * x i) (λ i. Y i * (extend n x τ i - s.multiple * t.hand i))
            (λ i h. ap (λ y. Y i * y) (block i h))
            ∙ dual_span S n Q G w' Y K (λ i. extend n x τ i - s.multiple * t.hand i) s.rest
            ∙ ap (λ y. w' * (y - s.multiple * e)) (extend_at n x τ)
          where
            block : (i : ℕ) → i < n → x i ≡ extend n x τ i - s.multiple * t.hand i
            block i h = combination R (x i) (extend n x τ i - s.multiple * t.hand i)
                (given (- 𝟙) (extend_below n x τ i h) ∷ given s.multiple (z i h) ∷ [])
                (identity R (x i ∷ extend n x τ i ∷ s.multiple ∷ t.hand i ∷ []) (λ ρ qx qy qs qh. search quotes depth 16) refl)

        -- e = μ⁻¹·d
        e_is : e ≡ μ.inverse * d
        e_is = combination R e (μ.inverse * d) (given (- e) μ.unit_inverse ∷ [])
            (identity R (e ∷ μ.unit ∷ μ.inverse ∷ []) (λ ρ qe qu qi. search quotes depth 16) refl)

        -- of a column: w divides
        column : (j : ℕ) → j < m → Divides R w (sum R n (λ i. Y i * M i j))
        column j h = record {
          cofactor = - (s.multiple * μ.inverse);
          product = row (λ i. M i j) 𝟘 s ∙ ap (λ x. w' * (𝟘 - s.multiple * x)) e_is
              ∙ identity R (w' ∷ s.multiple ∷ μ.inverse ∷ d ∷ []) (λ ρ qw qs qi qd. search quotes depth 16) refl;
        }
          where
            s : InSpanWith R n (suc n) G t.hand (extend n (λ i. M i j) 𝟘)
            s = into (extend n (λ i. M i j) 𝟘) (inserting_old L.filled X (λ i. M i j) (L.spanned j h))

        -- of b: w' divides, and w' = k·w + Y·b
        s₁ : InSpanWith R n (suc n) G X.now.hand (extend n b 𝟙)
        s₁ = into (extend n b 𝟙) (inserting_new L.filled X)

        k₁ : A
        k₁ = s₁.multiple * μ.inverse

        Yb : sum R n (λ i. Y i * b i) ≡ w' * (𝟙 - k₁ * d)
        unfolding k₁
        Yb = row b 𝟙 s₁ ∙ ap (λ x. w' * (𝟙 - s₁.multiple * x)) e_is
            ∙ identity R (w' ∷ s₁.multiple ∷ μ.inverse ∷ d ∷ []) (λ ρ qw qs qi qd. search quotes depth 16) refl

        greatest : Greatest R w (sum R n (λ i. Y i * b i)) w'
        greatest = record {
          left = record { cofactor = d; product = refl };
          right = record { cofactor = 𝟙 - k₁ * d; product = Yb ∙ R.mul_comm w' (𝟙 - k₁ * d) };
          s = k₁;
          t = 𝟙;
          bezout = sym (ap (λ x. k₁ * w + 𝟙 * x) Yb ∙ identity R (k₁ ∷ d ∷ w' ∷ []) (λ ρ qk qd qw. search quotes depth 16) refl);
        }

        -- lowest terms: c·Y = y·w gives c = d·c' by b, and then y is a row for c'
        module _ (c : A) (y : ℕ → A) (terms : (i : ℕ) → i < n → c * Y i ≡ y i * (d * w')) where
          -- of any vector
          times : (x : ℕ → A) → c * sum R n (λ i. Y i * x i) ≡ w * sum R n (λ i. y i * x i)
          times x =
              sym (sum_mul R n c (λ i. Y i * x i))
              ∙ sum_ext R n (λ i. c * (Y i * x i)) (λ i. w * (y i * x i)) (λ i h. combination R (c * (Y i * x i)) (w * (y i * x i))
              (given (x i) (terms i h) ∷ []) (identity R (c ∷ Y i ∷ x i ∷ d ∷ w' ∷ y i ∷ [])
              (λ ρ q1 q2 q3 q4 q5 q6. search quotes depth 16) refl))
              ∙ sum_mul R n w (λ i. y i * x i)

          c' : A
          c' = sum R n (λ i. y i * b i) + c * k₁

          c_is : c ≡ d * c'
          unfolding c'
          c_is = mul_cancel S w' c (d * c') K.nonzero (combination R (w' * c) (w' * (d * c'))
              (given 𝟙 (times b) ∷ given (- c) Yb ∷ [])
              (identity R (w' ∷ c ∷ d ∷ k₁ ∷ sum R n (λ i. y i * b i) ∷ sum R n (λ i. Y i * b i) ∷ [])
              (λ ρ q1 q2 q3 q4 q5 q6. search quotes depth 16) refl))

          w_nonzero : ¬ (w ≡ 𝟘)
          w_nonzero = mul_nonzero S d w' (associate_nonzero S μ solution_positive) K.nonzero

          divides_c' : Divides R w' c'
          divides_c' = K.least c' y
              (λ i h e. mul_cancel S w (y i) 𝟘 w_nonzero (combination R (w * y i) (w * 𝟘)
              (given (- 𝟙) (terms i h) ∷ given c (K.empty i h e) ∷ [])
              (identity R (w ∷ y i ∷ c ∷ Y i ∷ []) (λ ρ q1 q2 q3 q4. search quotes depth 16) refl)))
              (λ q h f. mul_cancel S w (sum R n (λ i. y i * G.at q i)) (c' * G.at q n) w_nonzero
              (combination R (w * sum R n (λ i. y i * G.at q i)) (w * (c' * G.at q n))
              (given (- 𝟙) (times (G.at q)) ∷ given c (K.equal q h f) ∷ given (w' * G.at q n) c_is ∷ [])
              (identity R (d ∷ w' ∷ sum R n (λ i. y i * G.at q i) ∷ c' ∷ G.at q n ∷ c ∷ sum R n (λ i. Y i * G.at q i) ∷ [])
              (λ ρ q1 q2 q3 q4 q5 q6 q7. search quotes depth 16) refl)))

          pub solution_lowest : Divides R (d * w') c
          solution_lowest = divides_equal (sym c_is) (mul_divides_mul d divides_c')

        -- what the code finds of each row: with the slot's length it is no longer than w
        pub solution_short : (i : ℕ) → i < n → 0 < X.now.slots.size i → size (Y i) +ₙ X.now.slots.size i ≤ size (d * w')
            → Short S n m M b (d * w') Y i
        solution_short i h f le = record {
          vector = x;
          spanned = record {
            parts = C.parts;
            part = x n;
            equal = λ k l. combination R (x k) (sum R m (λ j. M k j * C.parts j) + x n * b k) (given 𝟙 (C.equal k l) ∷ [])
                (identity R (x k ∷ sum R m (λ j. M k j * C.parts j) ∷ x n ∷ b k ∷ []) (λ ρ q1 q2 q3 q4. search quotes depth 16)
                refl);
          };
          length = t.slots.size i;
          pivot = (kept L.filled X).filled i h f;
          short = le;
        }
          where
            x : ℕ → A
            x = t.slots.at i

            C : Columns T m (λ k. x k - x n * b k)
            C = L.within (λ k. x k - x n * b k)
                (inserting_blocks L.filled X x (with_none R t.hand (span_slot R t.slots i h f)))

        pub solution_certifying : ((i : ℕ) → i < n → ¬ (Y i ≡ 𝟘) → Short S n m M b (d * w') Y i) → Certifying S n m M b d (d * w') Y
        solution_certifying short = record {
          nonzero = mul_nonzero S d w' (associate_nonzero S μ solution_positive) K.nonzero;
          columns = column;
          cofactor = w';
          quotient = refl;
          side = record {
            cofactor = - k₁;
            product = combination R (sum R n (λ i. Y i * b i) - w') ((- k₁) * (d * w')) (given 𝟙 Yb ∷ [])
                (identity R (sum R n (λ i. Y i * b i) ∷ w' ∷ k₁ ∷ d ∷ []) (λ ρ q1 q2 q3 q4. search quotes depth 16) refl);
          };
          short = short;
          lowest = solution_lowest;
        }

        -- with the numerators N of the way down
        module _ (N : ℕ → A) where
          -- L7
          pub solution_right : ((i : ℕ) → i < n → sum R m (λ j. M i j * N j) ≡ d * b i) → RightSolutionIn E T d N (d * w') Y
          solution_right solves = record {
            monic = μ.monic;
            certifying_monic_lem = E.monic_mul d w' μ.monic monic;
            solves = solves;
            divides = column;
            divisor = w';
            divisor_monic = monic;
            divisor_greatest = greatest;
            quotient = refl;
          }

          pub solution_sizes : ((j : ℕ) → j < m → size (N j) ≤ suc (rank n U.size *ₙ δ))
              → SmallSolution E T (suc (rank n U.size *ₙ δ)) d N (d * w') Y
          solution_sizes small = record {
            denominator = omega (arith, d_size, e_small, L.degrees_le);
            numerators = small;
            certifying_denominator_lem = omega (
              arith,
              size_mul_le S d w' (size d) (size w') (omega arith) (omega arith),
              d_size,
              e_small,
              degrees_ext n t.slots.size G.size sizes,
              K.small,
              L.degrees_le,
            );
            certifying_numerators_lem = λ i h. omega (arith, K.row_small i h, L.degrees_le);
          }
