-- L9, the certificate of absence is right: b was inserted into the last level U and got stuck at the empty slot h. The second
-- system is that of the last level, with coordinate h of the blocks for its right side.
use Rattle.std.specs.Prelude.{ℕ, suc, ◌<◌, ◌≤◌, ◌*◌ as ◌*ₙ◌, ◌≡◌, refl, [], ◌∷◌}
use Rattle.std.proofs.Common.{sym, ◌∙◌, ap₂, subst, subst₂, arith}
use Rattle.std.proofs.Math.Path.{ap}
use Rattle.std.proofs.Math.Decide.{ℕ_discrete}
use Rattle.ring.specs.Ring.{Ring, mul_zero, neg_zero}
use Rattle.ring.specs.Sum.{sum, sum_ext, sum_neg, sum_change, sum_add, sum_mul}
use Rattle.ring.specs.Identity.{quotes, identity}
use Rattle.ring.specs.Combination.{given, combination}
use Rattle.algebra.specs.Sized.{Sized, positive_nonzero, mul_cancel}
use Rattle.algebra.specs.Divides.{Divides}
use Rattle.reduction.specs.Total.{rank, degrees}
use Rattle.reduction.specs.Replace.{replace, replace_here, replace_other, replace_elim, extend, extend_below, extend_at}
use Rattle.reduction.specs.Pivot.{Pivot}
use Rattle.reduction.specs.Slots.{Slots, Filled, unweighted, put, put_same, filled_but, tailed, filled_tailed}
use Rattle.reduction.specs.Span.{InSpan, InSpanWith, span_slot, span_killed, with_hand, with_none}
use Rattle.reduction.specs.Independence.{span_pivot}
use Rattle.reduction.specs.Row.{row_zero}
use Rattle.reduction.specs.Euclidean.{Euclidean}
use Rattle.reduction.specs.Trace.{State}
use Rattle.reduction.specs.Insert.{Stuck}
use Rattle.reduction.specs.Inserting.{Inserting, kept, inserting_blocks, inserting_hand}
use Rattle.reduction.specs.System.{LinearSystem}
use Rattle.reduction.specs.Levels.{Columns, LevelKnown, level_spans}
use Rattle.reduction.specs.Dual.{Dual}
use Rattle.reduction.specs.Transpose.{Tops}
use Rattle.reduction.specs.Certificate.{RightAbsenceIn, SmallAbsence}
use Rattle.reduction.specs.Killing.{PivotOf, Killing}

-- the certificate: w at h, minus Y elsewhere
abbrev pub absence : {A : Type 0} → Ring A → ℕ → A → (ℕ → A) → ℕ → A
absence R h w Y = replace (λ k. R.neg (Y k)) h w

module _ {A : Type 0} {R : Ring A} {S : Sized R} (E : Euclidean S) (T : LinearSystem S) where
  open T use {rows as n, columns as m, degree as δ, matrix as M, side as b}
  open R use {add as ◌+◌, mul as ◌*◌, neg as -◌, zero as 𝟘, one as 𝟙}
  open S use {size, size_neg}

  infixl 65 ◌+◌
  infixl 65 ◌-◌
  infixl 70 ◌*◌
  infix 75 -◌
  abbrev ◌-◌ : A → A → A
  a - b = a + (- b)

  module _ {U : Slots A} (L : LevelKnown T m U) (X : Inserting S n unweighted U b) (K : Stuck S n unweighted X.now) where
    abbrev t : State A
    t = X.now

    abbrev h : ℕ
    h = K.at

    abbrev P : Pivot S n unweighted X.now.hand K.at X.now.size
    P = K.pivot

    -- the slot h was empty before
    none : U.size h ≡ 0
    none = omega (arith, (kept L.filled X).same h P.inside, K.empty)

    pub absence_tops : (D : ℕ) → ((q : ℕ) → q < n → U.size q ≤ D)
        → Tops S n (degrees n U.size) D (tailed n U (λ q. U.at q K.at))
    absence_tops D high = record {
      filled = filled_tailed (λ q. U.at q h) L.filled;
      tails = λ q l f y. omega (arith, ap size (extend_at n (U.at q) (U.at q h)), (L.filled q l f).all h P.inside);
      high = high;
    }

    module _ (w : A) (Y : ℕ → A) (Q : Dual S n (degrees n U.size) (tailed n U (λ q. U.at q K.at)) w Y) where
      abbrev q₀ : ℕ → A
      q₀ = absence R K.at w Y

      -- Y is zero at h
      product : (x : ℕ → A) → sum R n (λ i. q₀ i * x i) ≡ w * x h - sum R n (λ i. Y i * x i)
      product x = combination R qx (w * x h - Yx)
          (given 𝟙 changed ∷ given 𝟙 minus ∷ given (x h) (replace_here (λ k. - Y k) h w)
          ∷ given (x h) (Q.empty h P.inside none) ∷ [])
          (identity R (qx ∷ w ∷ x h ∷ Yx ∷ sum R n (λ i. (- Y i) * x i) ∷ q₀ h ∷ Y h ∷ [])
          (λ ρ qs qw qx qy qn qa qh. search quotes depth 16) refl)
        where
          qx : A
          qx = sum R n (λ i. q₀ i * x i)

          Yx : A
          Yx = sum R n (λ i. Y i * x i)

          changed : sum R n (λ i. q₀ i * x i) + (- Y h) * x h ≡ sum R n (λ i. (- Y i) * x i) + q₀ h * x h
          changed = sum_change R n h (λ i. q₀ i * x i) (λ i. (- Y i) * x i) P.inside
              (λ i l ne. ap (λ y. y * x i) (replace_other (λ k. - Y k) h w i ne))

          minus : sum R n (λ i. (- Y i) * x i) ≡ - sum R n (λ i. Y i * x i)
          minus =
              sum_ext R n (λ i. (- Y i) * x i) (λ i. - (Y i * x i))
              (λ i l. identity R (Y i ∷ x i ∷ []) (λ ρ qy qx. search quotes depth 16) refl)
              ∙ sum_neg R n (λ i. Y i * x i)

      -- it kills the blocks of the last level, and so their span
      kills : (x : ℕ → A) → InSpan R n n U x → sum R n (λ i. q₀ i * x i) ≡ 𝟘
      kills x = span_killed R q₀
          (λ q l f. product (U.at q) ∙ ap (λ y. w * U.at q h - y) (block q l f) ∙ R.add_neg (w * U.at q h))
        where
          block : (q : ℕ) → q < n → 0 < U.size q → sum R n (λ i. Y i * U.at q i) ≡ w * U.at q h
          block q l f =
              sum_ext R n (λ i. Y i * U.at q i) (λ i. Y i * extend n (U.at q) (U.at q h) i)
              (λ i g. ap (λ y. Y i * y) (sym (extend_below n (U.at q) (U.at q h) i g)))
              ∙ Q.equal q l f
              ∙ ap (λ y. w * y) (extend_at n (U.at q) (U.at q h))

      -- if it killed b too, it would kill the slots of t and the hand, whose pivots are at all places where it is not zero
      module _ (y : sum R n (λ i. absence R K.at w Y i * b i) ≡ 𝟘) where
        G : Slots A
        G = put X.now.slots K.at X.now.hand X.now.size

        full : Filled S n unweighted G
        unfolding G
        full = filled_but (put_same t.slots h t.hand t.size P.inside) (kept L.filled X).filled
            (subst₂ (λ v d. Pivot S n unweighted v h d)
            (sym (replace_here t.slots.at h t.hand)) (sym (replace_here t.slots.size h t.size)) P)

        -- x - τ·b is in the span of the last level
        all : (x : ℕ → A) → InSpanWith R n (suc n) t.slots t.hand x → sum R n (λ i. q₀ i * x i) ≡ 𝟘
        all x s =
            sum_ext R n (λ i. q₀ i * x i) (λ i. q₀ i * (x i - x n * b i) + x n * (q₀ i * b i))
            (λ i l. identity R (q₀ i ∷ x i ∷ x n ∷ b i ∷ []) (λ ρ qa qx qn qb. search quotes depth 16) refl)
            ∙ sum_add R n (λ i. q₀ i * (x i - x n * b i)) (λ i. x n * (q₀ i * b i))
            ∙ ap₂ ◌+◌ (kills (λ i. x i - x n * b i) (inserting_blocks L.filled X x s))
            (sum_mul R n (x n) (λ i. q₀ i * b i) ∙ ap (λ v. x n * v) y ∙ mul_zero R (x n))
            ∙ R.add_zero 𝟘

        filled : (q : ℕ) → q < n → ¬ (q ≡ h) → 0 < size (q₀ q) → 0 < t.slots.size q
        filled q l ne p = go (ℕ_discrete (t.slots.size q) 0)
          where
            go : Dec (t.slots.size q ≡ 0) → 0 < t.slots.size q
            go (yes v) = absurd (positive_nonzero S (q₀ q) p (replace_other (λ k. - Y k) h w q ne
                ∙ ap -◌ (Q.empty q l (omega (arith, (kept L.filled X).same q l))) ∙ neg_zero R))
            go (no v) = omega arith

        pivots : (q : ℕ) → q < n → 0 < size (q₀ q) → Pivot S n unweighted (G.at q) q (G.size q)
        unfolding G
        pivots q l p = full q l (replace_elim (λ i x. i < n → 0 < size (q₀ i) → 0 < x) t.slots.size h t.size
            (λ l p. omega (arith, P.positive, P.reached)) q (λ ne l p. filled q l ne p) l p)

        killed : (q : ℕ) → q < n → 0 < size (q₀ q) → sum R n (λ j. q₀ j * G.at q j) ≡ 𝟘
        unfolding G
        killed q l p = replace_elim (λ i v. i < n → 0 < size (q₀ i) → sum R n (λ j. q₀ j * v j) ≡ 𝟘) t.slots.at h t.hand
            (λ l p. all t.hand (with_hand R t.slots t.hand)) q
            (λ ne l p. all (t.slots.at q) (with_none R t.hand (span_slot R t.slots q l (filled q l ne p)))) l p

        contradiction : ⊥
        contradiction = Q.nonzero (sym (replace_here (λ k. - Y k) h w) ∙ row_zero S n G q₀ pivots killed h P.inside)

      -- L9
      pub absence_right : RightAbsenceIn E T (absence R K.at w Y)
      absence_right = record { kills = λ j l. kills (λ i. M i j) (L.spanned j l); nonzero = contradiction }

      pub absence_sizes : SmallAbsence E T (suc (rank n U.size *ₙ δ)) (absence R K.at w Y)
      absence_sizes i l = replace_elim (λ i x. i < n → size x ≤ suc (rank n U.size *ₙ δ)) (λ k. - Y k) h w
          (λ _. omega (arith, Q.small, L.degrees_le)) i
          (λ ne l. size_neg (suc (rank n U.size *ₙ δ)) (Y i) (omega (arith, Q.row_small i l, L.degrees_le))) l

      -- it is the only one of its kind
      added : ¬ PivotOf S n m M b h
      added X = absurd (omega (
        arith,
        none,
        (span_pivot L.filled (omega arith) (level_spans T L (record { parts = X.parts; equal = X.equal })) X.pivot).0,
      ))

      support : (i : ℕ) → i < n → ¬ (i ≡ h) → ¬ (q₀ i ≡ 𝟘) → PivotOf S n m M b i
      support i l ne nz = record {
        vector = U.at i;
        parts = C.parts;
        equal = C.equal;
        length = U.size i;
        pivot = L.filled i l f;
      }
        where
          go : Dec (U.size i ≡ 0) → 0 < U.size i
          go (yes e) = absurd (nz (replace_other (λ k. - Y k) h w i ne ∙ ap -◌ (Q.empty i l e) ∙ neg_zero R))
          go (no e) = omega arith

          f : 0 < U.size i
          f = go (ℕ_discrete (U.size i) 0)

          C : Columns T m (U.at i)
          C = L.within (U.at i) (span_slot R U i l f)

      module _ (c : A) (y : ℕ → A) (terms : (i : ℕ) → i < n → c * q₀ i ≡ y i * q₀ h) where
        -- the row y, with its sign changed and without its entry at h
        y' : ℕ → A
        y' = replace (λ k. - y k) h 𝟘

        w_nonzero : ¬ (q₀ h ≡ 𝟘)
        w_nonzero e = Q.nonzero (sym (replace_here (λ k. - Y k) h w) ∙ e)

        y_at : y h ≡ c
        y_at = mul_cancel S (q₀ h) (y h) c w_nonzero (combination R (q₀ h * y h) (q₀ h * c) (given (- 𝟙) (terms h P.inside) ∷ [])
            (identity R (q₀ h ∷ y h ∷ c ∷ []) (λ ρ q1 q2 q3. search quotes depth 16) refl))

        y_empty : (k : ℕ) → k < n → U.size k ≡ 0 → y' k ≡ 𝟘
        unfolding y'
        y_empty k l e = replace_elim (λ i x. i < n → U.size i ≡ 0 → x ≡ 𝟘) (λ k. - y k) h 𝟘 (λ l e. refl) k
            (λ ne l e. ap -◌ (mul_cancel S (q₀ h) (y k) 𝟘 w_nonzero (combination R (q₀ h * y k) (q₀ h * 𝟘)
            (given (- 𝟙) (terms k l) ∷ given c (replace_other (λ k. - Y k) h w k ne ∙ ap -◌ (Q.empty k l e) ∙ neg_zero R) ∷ [])
            (identity R (q₀ h ∷ y k ∷ c ∷ q₀ k ∷ []) (λ ρ q1 q2 q3 q4. search quotes depth 16) refl))) ∙ neg_zero R) l e

        -- on any vector
        y_kills : (x : ℕ → A) → InSpan R n n U x → sum R n (λ i. y i * x i) ≡ 𝟘
        y_kills x s = mul_cancel S (q₀ h) (sum R n (λ i. y i * x i)) 𝟘 w_nonzero
            (sym (sum_mul R n (q₀ h) (λ i. y i * x i))
            ∙ sum_ext R n (λ i. q₀ h * (y i * x i)) (λ i. c * (q₀ i * x i))
            (λ i l. combination R (q₀ h * (y i * x i)) (c * (q₀ i * x i))
            (given (- x i) (terms i l) ∷ []) (identity R (q₀ h ∷ y i ∷ x i ∷ c ∷ q₀ i ∷ [])
            (λ ρ q1 q2 q3 q4 q5. search quotes depth 16) refl))
            ∙ sum_mul R n c (λ i. q₀ i * x i) ∙ ap (λ v. c * v) (kills x s) ∙ mul_zero R c ∙ sym (mul_zero R (q₀ h)))

        y_row : (x : ℕ → A) → InSpan R n n U x → sum R n (λ i. y' i * x i) ≡ c * x h
        unfolding y'
        y_row x s = combination R (sum R n (λ i. y' i * x i)) (c * x h)
            (given 𝟙 changed ∷ given 𝟙 minus ∷ given (- 𝟙) (y_kills x s) ∷ given (x h) (replace_here (λ k. - y k) h 𝟘) ∷ given
            (x h) y_at ∷ [])
            (identity R (sum R n (λ i. y' i * x i) ∷ c ∷ x h ∷ sum R n (λ i. (- y i) * x i) ∷ sum R n (λ i. y i * x i) ∷ y' h ∷ y h
            ∷ [])
            (λ ρ q1 q2 q3 q4 q5 q6 q7. search quotes depth 20) refl)
          where
            changed : sum R n (λ i. y' i * x i) + (- y h) * x h ≡ sum R n (λ i. (- y i) * x i) + y' h * x h
            changed = sum_change R n h (λ i. y' i * x i) (λ i. (- y i) * x i) P.inside
                (λ i l ne. ap (λ v. v * x i) (replace_other (λ k. - y k) h 𝟘 i ne))

            minus : sum R n (λ i. (- y i) * x i) ≡ - sum R n (λ i. y i * x i)
            minus =
                sum_ext R n (λ i. (- y i) * x i) (λ i. - (y i * x i))
                (λ i l. identity R (y i ∷ x i ∷ []) (λ ρ q1 q2. search quotes depth 16) refl)
                ∙ sum_neg R n (λ i. y i * x i)

        lowest : Divides R w c
        lowest = Q.least c y' y_empty (λ i l f.
            sum_ext R n (λ k. y' k * extend n (U.at i) (U.at i h) k) (λ k. y' k * U.at i k)
            (λ k g. ap (λ v. y' k * v) (extend_below n (U.at i) (U.at i h) k g))
            ∙ y_row (U.at i) (span_slot R U i l f)
            ∙ ap (λ v. c * v) (sym (extend_at n (U.at i) (U.at i h))))

      pub absence_killing : Killing S n m M b (absence R K.at w Y)
      absence_killing = record {
        kills = λ j l. kills (λ i. M i j) (L.spanned j l);
        at = h;
        vector = t.hand;
        spanned = record {
          parts = C.parts;
          part = t.hand n;
          equal = λ k l. combination R (t.hand k) (sum R m (λ j. M k j * C.parts j) + t.hand n * b k)
              (given 𝟙 (C.equal k l) ∷ [])
              (identity R (t.hand k ∷ sum R m (λ j. M k j * C.parts j) ∷ t.hand n ∷ b k ∷ [])
              (λ ρ q1 q2 q3 q4. search quotes depth 16) refl);
        };
        length = t.size;
        pivot = P;
        added = added;
        support = support;
        nonzero = λ e. Q.nonzero (sym (replace_here (λ k. - Y k) h w) ∙ e);
        lowest = λ c y e. subst (λ x. Divides R x c) (sym (replace_here (λ k. - Y k) h w)) (lowest c y e);
      }
        where
          C : Columns T m (λ k. t.hand k + (- (t.hand n * b k)))
          C = L.within (λ k. t.hand k + (- (t.hand n * b k))) (inserting_hand L.filled X)

      pub absence_at : absence R K.at w Y absence_killing.at ≡ w
      unfolding absence_killing
      absence_at = replace_here (λ k. - Y k) h w
