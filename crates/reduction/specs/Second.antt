-- L8, the second system: its insertion cannot get stuck, and gives w within the sum of degrees of U; dividing w times the right
-- side gives Y within B.
use Rattle.std.specs.Prelude.{ℕ, suc, ◌<◌, ◌≤◌, ◌+◌ as ◌+ₙ◌, ◌-◌ as ◌-ₙ◌, ◌≡◌, refl, ◌⊎◌, [], ◌∷◌}
use Rattle.std.proofs.Common.{sym, ◌∙◌, ap, ap₂, inl, inr, arith}
use Rattle.std.proofs.Math.Decide.{ℕ_discrete}
use Rattle.ring.specs.Ring.{Ring, mul_zero}
use Rattle.ring.specs.Sum.{sum, sum_ext, sum_none, sum_reverse}
use Rattle.ring.specs.Identity.{quotes, identity}
use Rattle.ring.specs.Combination.{given, combination}
use Rattle.algebra.specs.Divides.{Divides}
use Rattle.algebra.specs.Sized.{Sized, size_of_zero, size_positive, positive_nonzero, size_mul_le}
use Rattle.reduction.specs.Total.{degrees, total_le, total_add, total_reverse}
use Rattle.reduction.specs.Pivot.{Vanishes}
use Rattle.reduction.specs.Slots.{Slots}
use Rattle.reduction.specs.Span.{InSpan, span_scale}
use Rattle.reduction.specs.Independence.{coefficient_size}
use Rattle.reduction.specs.Euclidean.{Associate, associate_nonzero, associate_size}
use Rattle.reduction.specs.Trace.{State}
use Rattle.reduction.specs.Kept.{tail_nonzero}
use Rattle.reduction.specs.Insert.{Stuck}
use Rattle.reduction.specs.Inserting.{Inserting, kept, inserting_hand}
use Rattle.reduction.specs.Least.{inserting_least}
use Rattle.reduction.specs.Dual.{Dual}
use Rattle.reduction.specs.Transpose.{Tops, masked_filled, masked_empty, back, transposed, second_side, weights}
use Rattle.reduction.specs.Transpose.{sizes_high, size_filled, transposed_filled, second_side_cases}

module _ {A : Type 0} {R : Ring A} {S : Sized R} {n B D : ℕ} {U : Slots A} (O : Tops S n B D U)
    (X : Inserting S n (weights R n D U) (transposed R n D U) (second_side R n D U)) where
  open R use {add as ◌+◌, mul as ◌*◌, neg as -◌, zero as 𝟘, one as 𝟙}
  open S use {size}

  infixl 65 ◌+◌
  infixl 70 ◌*◌
  infix 75 -◌
  abbrev C : Slots A
  C = transposed R n D U

  abbrev g : ℕ → A
  g = second_side R n D U

  abbrev ω : ℕ → ℕ
  ω = weights R n D U

  abbrev d : ℕ → ℕ
  d i = U.size (back n i)

  abbrev t : State A
  t = X.now

  own : InSpan R n n C (λ k. X.now.hand k + (- (X.now.hand n * g k)))
  own = inserting_hand (transposed_filled O) X

  -- L8: every coordinate that can be a pivot has a slot
  pub not_stuck : Stuck S n ω X.now → ⊥
  not_stuck K = positive_nonzero S (t.hand p) K.pivot.positive zero_there
    where
      p : ℕ
      p = K.at

      none : d p ≡ 0
      none = go (ℕ_discrete (d p) 0)
        where
          go : Dec (d p ≡ 0) → d p ≡ 0
          go (yes e) = e
          go (no e) = absurd (omega (
            arith,
            (kept (transposed_filled O) X).same p K.pivot.inside,
            K.empty,
            masked_filled (d p) 0 D (omega arith),
            sizes_high O p K.pivot.inside,
          ))

      gone : (q : ℕ) → own.coefficient q * C.at q p ≡ 𝟘
      gone q =
          ap (λ x. own.coefficient q * x) (masked_empty (d p) 𝟘 (U.at (back n p) (back n q)) none)
          ∙ mul_zero R (own.coefficient q)

      zero_there : t.hand p ≡ 𝟘
      zero_there = combination R (t.hand p) 𝟘
          (given 𝟙 (own.equal p K.pivot.inside ∙ sum_none R n (λ q. own.coefficient q * C.at q p) (λ q h. gone q))
          ∷ given (t.hand n) (masked_empty (d p) 𝟘 (U.at (back n p) n) none) ∷ [])
          (identity R (t.hand p ∷ t.hand n ∷ g p ∷ []) (λ ρ qh qn qg. search quotes depth 16) refl)

  -- so it ends with block zero
  module _ (z : Vanishes R n X.now.hand) where
    pub second_positive : 0 < size (X.now.hand n)
    second_positive = size_positive S (t.hand n) (tail_nonzero (kept (transposed_filled O) X) z)

    -- the slots cannot fall below their weights
    fall : degrees n C.size ≤ degrees n t.slots.size +ₙ degrees n U.size
    fall = omega (
      arith,
      total_le n (λ q. C.size q -ₙ 1) (λ q. (t.slots.size q -ₙ 1) +ₙ (d q -ₙ 1)) (λ q h. at q h (ℕ_discrete (d q) 0)),
      total_add n (λ q. t.slots.size q -ₙ 1) (λ q. d q -ₙ 1),
      total_reverse n (λ q. U.size q -ₙ 1),
    )
      where
        at : (q : ℕ) → q < n → Dec (d q ≡ 0) → C.size q -ₙ 1 ≤ (t.slots.size q -ₙ 1) +ₙ (d q -ₙ 1)
        at q h (yes y) = omega (arith, masked_empty (d q) 0 D y)
        at q h (no y) =
            let e : C.size q ≡ D = masked_filled (d q) 0 D (omega arith) in
            let f : 0 < t.slots.size q = omega (arith, (kept (transposed_filled O) X).same q h, sizes_high O q h) in
            let P = (kept (transposed_filled O) X).filled q h f in
            omega (arith, P.reached, P.positive, sizes_high O q h)

    -- w is the tail made monic
    module _ {Monic : A → Type 0} (m : Associate S Monic (X.now.hand n)) where
      abbrev w : A
      w = m.unit * X.now.hand n

      w_small : size w ≤ suc (degrees n U.size)
      w_small = omega (arith, associate_size S m second_positive, (kept (transposed_filled O) X).tails.hand second_positive, fall)

      -- w times the right side is in the span of the slots
      pub second_span : InSpan R n n C (λ i. w * g i)
      second_span = span_scale R (- m.unit) own (λ i. w * g i)
          (λ k h. sym (ap (λ x. (- m.unit) * (x + (- (t.hand n * g k)))) (z k h)
          ∙ identity R (m.unit ∷ t.hand n ∷ g k ∷ []) (λ ρ qu qh qg. search quotes depth 16) refl))

      -- w divides every κ with κ times the right side in the span of the slots
      module _ (κ : A) (y : ℕ → A) (none : (k : ℕ) → k < n → U.size k ≡ 0 → y k ≡ 𝟘)
          (equal : (i : ℕ) → i < n → 0 < U.size i → sum R n (λ k. y k * U.at i k) ≡ κ * U.at i n) where
        spanned : InSpan R n n C (λ i. κ * g i)
        spanned = record {
          coefficient = λ q. y (back n q);
          empty = λ q h e. none (back n q) (omega arith) (go q h e (ℕ_discrete (d q) 0));
          equal = λ i h. at i h (ℕ_discrete (d i) 0);
        }
          where
            go : (q : ℕ) → q < n → C.size q ≡ 0 → Dec (d q ≡ 0) → d q ≡ 0
            go q h e (yes r) = r
            go q h e (no r) = absurd (omega (arith, masked_filled (d q) 0 D (omega arith), sizes_high O q h))

            at : (i : ℕ) → i < n → Dec (d i ≡ 0) → κ * g i ≡ sum R n (λ q. y (back n q) * C.at q i)
            at i h (yes r) =
                ap (λ x. κ * x) (masked_empty (d i) 𝟘 (U.at (back n i) n) r) ∙ mul_zero R κ
                ∙ sym (sum_none R n (λ q. y (back n q) * C.at q i) (λ q l.
                ap (λ x. y (back n q) * x) (masked_empty (d i) 𝟘 (U.at (back n i) (back n q)) r) ∙ mul_zero R (y (back n q))))
            at i h (no r) =
                ap (λ x. κ * x) (masked_filled (d i) 𝟘 (U.at (back n i) n) (omega arith))
                ∙ sym (equal (back n i) (omega arith) (omega arith))
                ∙ sym (sum_reverse R n (λ k. y k * U.at (back n i) k))
                ∙ sum_ext R n (λ q. y (back n q) * U.at (back n i) (back n q)) (λ q. y (back n q) * C.at q i)
                (λ q l. ap (λ x. y (back n q) * x) (sym (masked_filled (d i) 𝟘 (U.at (back n i) (back n q)) (omega arith))))

        second_least : Divides R w κ
        second_least =
            let e = inserting_least (transposed_filled O) X κ spanned z in
            record {
              cofactor = e.cofactor * m.inverse;
              product = combination R κ (e.cofactor * m.inverse * w)
                  (given 𝟙 e.product ∷ given (- (e.cofactor * t.hand n)) m.unit_inverse ∷ [])
                  (identity R (κ ∷ e.cofactor ∷ m.inverse ∷ m.unit ∷ t.hand n ∷ [])
                  (λ ρ q1 q2 q3 q4 q5. search quotes depth 16) refl);
            }

      -- room: its weighted size
      pub second_room : (k : ℕ) → k < n → size (w * g k) ≤ (B +ₙ D) -ₙ ω k
      second_room k h = go (second_side_cases O k h)
        where
          go : (size (g k) +ₙ degrees n U.size ≤ B +ₙ d k) ⊎ (g k ≡ 𝟘) → size (w * g k) ≤ (B +ₙ D) -ₙ ω k
          go (inl y) = omega (
            arith,
            size_mul_le S w (g k) (suc (degrees n U.size)) (size (g k)) w_small (omega arith),
            sizes_high O k h,
          )
          go (inr y) = omega (arith, size_of_zero S (w * g k) (ap (λ x. w * x) y ∙ mul_zero R w))

      -- Y from its coefficients, as division gives them
      module _ (s : InSpan R n n C (λ i. w * g i)) (Y : ℕ → A) (e : (k : ℕ) → k < n → Y k ≡ s.coefficient (back n k)) where
        abbrev c : ℕ → A
        c = s.coefficient

        twice : (k : ℕ) → k < n → back n (back n k) ≡ k
        twice k h = omega arith

        -- coordinate i of the second system, its terms in reversed order
        row_equal : (i : ℕ) → i < n → 0 < U.size i → sum R n (λ k. Y k * U.at i k) ≡ w * U.at i n
        row_equal i h f =
            sum_ext R n (λ k. Y k * U.at i k) (λ k. c (back n k) * C.at (back n k) (back n i))
            (λ k l. ap₂ ◌*◌ (e k l) (sym (masked_filled (d (back n i)) 𝟘 (U.at (back n (back n i)) (back n (back n k))) f'
            ∙ ap₂ U.at (twice i h) (twice k l))))
            ∙ sum_reverse R n (λ q. c q * C.at q (back n i))
            ∙ sym (s.equal (back n i) (omega arith))
            ∙ ap (λ x. w * x) (masked_filled (d (back n i)) 𝟘 (U.at (back n (back n i)) n) f' ∙ ap (λ j. U.at j n) (twice i h))
          where
            f' : 0 < d (back n i)
            f' = omega (arith, ap U.size (twice i h))

        row_small : (k : ℕ) → k < n → Dec (size (c (back n k)) ≡ 0) → Dec (C.size (back n k) ≡ 0) → size (Y k) ≤ suc B
        row_small k h (yes y) v = omega (arith, ap size (e k h))
        row_small k h (no y) (yes v) = absurd (y (size_of_zero S (c (back n k)) (s.empty (back n k) (omega arith) v)))
        row_small k h (no y) (no v) = omega (
          arith,
          ap size (e k h),
          (size_filled O (back n k) (omega arith)).1,
          coefficient_size (transposed_filled O) (omega arith) s (B +ₙ D) second_room (back n k) (omega arith) (omega arith),
        )

        -- L8
        pub second_dual : Dual S n B U w Y
        second_dual = record {
          nonzero = associate_nonzero S m second_positive;
          small = w_small;
          empty = λ k h y. e k h
              ∙ s.empty (back n k) (omega arith) (masked_empty (d (back n k)) 0 D (ap U.size (twice k h) ∙ y));
          equal = row_equal;
          row_small = λ k h. row_small k h (ℕ_discrete (size (c (back n k))) 0) (ℕ_discrete (C.size (back n k)) 0);
          least = second_least;
        }
