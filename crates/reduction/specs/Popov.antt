-- The Popov form of slots: each vector reduced by the others without moving its pivot, its tail modulo d. Vectors are brought into
-- it one by one; with a hand (0 | h) where h divides d they span what they did. The second system of such slots has short rows.
use Rattle.std.specs.Prelude.{ℕ, suc, ◌<◌, ◌≤◌, ◌+◌ as ◌+ₙ◌, ◌-◌ as ◌-ₙ◌, ◌≡◌, refl, ◌⊎◌, [], ◌∷◌}
use Rattle.std.proofs.Common.{sym, ◌∙◌, ap, subst, inl, inr, arith}
use Rattle.std.proofs.Math.Decide.{ℕ_discrete}
use Rattle.ring.specs.Ring.{Ring, zero_mul}
use Rattle.ring.specs.Sum.{sum_ext, sum_none, sum_change}
use Rattle.ring.specs.Identity.{quotes, identity}
use Rattle.ring.specs.Combination.{given, combination}
use Rattle.algebra.specs.Sized.{Sized, positive_nonzero, size_of_zero, size_mul_le, size_mul_nonzero}
use Rattle.reduction.specs.Total.{degrees, degrees_ext}
use Rattle.reduction.specs.Replace.{replace, replace_here, replace_other, replace_elim, below_suc}
use Rattle.reduction.specs.Pivot.{Vanishes, Pivot, pivot_add, pivot_ext, HasPivot, find_pivot}
use Rattle.reduction.specs.Pivot.{Low, low_none, low_ext, low_neg, low_add, low_sum}
use Rattle.reduction.specs.Slots.{Slots, Filled, unweighted, put, put_here, put_sizes, put_same, filled_but}
use Rattle.reduction.specs.Span.{combined, InSpan, InSpanWith, span_combine, span_change}
use Rattle.reduction.specs.Row.{size_sum_leading}
use Rattle.reduction.specs.Dual.{Dual}
use Rattle.reduction.specs.Transpose.{Tops}

module _ {A : Type 0} {R : Ring A} (S : Sized R) (n : ℕ) (d : A) where
  open R use {add as ◌+◌, mul as ◌*◌, neg as -◌, zero as 𝟘, one as 𝟙}
  open S use {size}

  infixl 65 ◌+◌
  infixl 65 ◌-◌
  infixl 70 ◌*◌
  infix 75 -◌
  abbrev ◌-◌ : A → A → A
  a - b = a + (- b)

  -- v is slot i less multiples of other slots that do not move its pivot, its tail less a multiple of d besides
  pub record SlotReduced (U : Slots A) (i : ℕ) (v : ℕ → A) : Type 0 where
    pub factor : ℕ → A
    pub own : factor i ≡ 𝟘
    pub empty : (k : ℕ) → k < n → U.size k ≡ 0 → factor k ≡ 𝟘
    pub low : (k : ℕ) → k < n → 0 < U.size k → Low S n unweighted (λ c. factor k * U.at k c) i (U.size i)
    pub block : (c : ℕ) → c < n → v c ≡ U.at i c + (- combined R n factor U c)
    pub multiple : A
    pub tail : v n ≡ (U.at i n + (- combined R n factor U n)) + (- (multiple * d))

  -- v is reduced by the lengths of the slots, as the vector of slot i
  pub record SlotPopov (U : Slots A) (i : ℕ) (v : ℕ → A) : Type 0 where
    pub block : (j : ℕ) → j < n → ¬ (j ≡ i) → 0 < U.size j → size (v j) < U.size j
    pub tail : size (v n) < size d

  abbrev pub Popov : Slots A → Type 0
  Popov U = (i : ℕ) → i < n → 0 < U.size i → SlotPopov U i (U.at i)

  -- G came from U by such replacements: the same lengths and, with a hand (0 | h) where h divides d, the same span
  pub record Reworked (U G : Slots A) : Type 0 where
    pub sizes : (q : ℕ) → q < n → U.size q ≡ G.size q
    pub filled : Filled S n unweighted U → Filled S n unweighted G
    pub into : (h : ℕ → A) → Vanishes R n h → (c : A) → d ≡ c * h n → (u : ℕ → A)
        → InSpanWith R n (suc n) U h u → InSpanWith R n (suc n) G h u

  -- ---- one vector

  pub slot_reduced_none : (U : Slots A) (i : ℕ) → SlotReduced U i (U.at i)
  slot_reduced_none U i = record {
    factor = λ k. 𝟘;
    own = refl;
    empty = λ k h e. refl;
    low = λ k h f. low_none i (U.size i) (λ c l. zero_mul R (U.at k c));
    block = λ c h. whole c;
    multiple = 𝟘;
    tail = whole n ∙ identity R (U.at i n ∷ combined R n (λ k. 𝟘) U n ∷ d ∷ []) (λ ρ q1 q2 q3. search quotes depth 16) refl;
  }
    where
      whole : (c : ℕ) → U.at i c ≡ U.at i c - combined R n (λ k. 𝟘) U c
      whole c = combination R (U.at i c) (U.at i c - combined R n (λ k. 𝟘) U c)
          (given 𝟙 (sum_none R n (λ k. 𝟘 * U.at k c) (λ k h. zero_mul R (U.at k c))) ∷ [])
          (identity R (U.at i c ∷ combined R n (λ k. 𝟘) U c ∷ []) (λ ρ q1 q2. search quotes depth 16) refl)

  module _ {U : Slots A} {i : ℕ} {v : ℕ → A} (X : SlotReduced U i v) where
    -- a times slot j off
    pub slot_reduced_more : (j : ℕ) → j < n → ¬ (j ≡ i) → 0 < U.size j
        → (a : A) → Low S n unweighted (λ c. a * U.at j c) i (U.size i)
        → {v' : ℕ → A} → ((c : ℕ) → c < suc n → v' c ≡ v c - a * U.at j c) → SlotReduced U i v'
    slot_reduced_more j h ne f a low {v'} e = record {
      factor = factor;
      own = replace_other X.factor j (X.factor j + a) i (λ r. ne (sym r)) ∙ X.own;
      empty = λ k l z. replace_elim (λ q x. U.size q ≡ 0 → x ≡ 𝟘) X.factor j (X.factor j + a) (λ y. absurd (omega arith))
          k (λ r. X.empty k l) z;
      low = λ k l g. replace_elim (λ q x. Low S n unweighted (λ c. x * U.at q c) i (U.size i)) X.factor j (X.factor j + a)
          here k (λ r. X.low k l g);
      block = λ c l. combination R (v' c) (U.at i c - combined R n factor U c)
          (given 𝟙 (e c (omega arith)) ∷ given 𝟙 (X.block c l) ∷ given 𝟙 (changed c) ∷ [])
          (identity R (v' c ∷ v c ∷ a ∷ U.at j c ∷ U.at i c ∷ combined R n X.factor U c ∷ combined R n factor U c ∷ [])
          (λ ρ q1 q2 q3 q4 q5 q6 q7. search quotes depth 16) refl);
      multiple = X.multiple;
      tail = combination R (v' n) ((U.at i n - combined R n factor U n) - X.multiple * d)
          (given 𝟙 (e n (omega arith)) ∷ given 𝟙 X.tail ∷ given 𝟙 (changed n) ∷ [])
          (identity R (v' n ∷ v n ∷ a ∷ U.at j n ∷ U.at i n ∷ combined R n X.factor U n ∷ combined R n factor U n
          ∷ X.multiple ∷ d ∷ []) (λ ρ q1 q2 q3 q4 q5 q6 q7 q8 q9. search quotes depth 16) refl);
    }
      where
        factor : ℕ → A
        factor = replace X.factor j (X.factor j + a)

        here : Low S n unweighted (λ c. (X.factor j + a) * U.at j c) i (U.size i)
        here = low_ext (λ c l. identity R (X.factor j ∷ a ∷ U.at j c ∷ []) (λ ρ q1 q2 q3. search quotes depth 16) refl)
            (low_add (X.low j h f) low)

        changed : (c : ℕ) → combined R n factor U c ≡ combined R n X.factor U c + a * U.at j c
        changed c = combination R (combined R n factor U c) (combined R n X.factor U c + a * U.at j c)
            (given 𝟙 (sum_change R n j (λ q. factor q * U.at q c) (λ q. X.factor q * U.at q c) h
            (λ q l r. ap (λ x. x * U.at q c) (replace_other X.factor j (X.factor j + a) q r)))
            ∷ given (U.at j c) (replace_here X.factor j (X.factor j + a)) ∷ [])
            (identity R (combined R n factor U c ∷ combined R n X.factor U c ∷ a ∷ U.at j c ∷ X.factor j ∷ factor j ∷ [])
            (λ ρ q1 q2 q3 q4 q5 q6. search quotes depth 16) refl)

    -- s·d off the tail
    pub slot_reduced_tail : (s : A) {v' : ℕ → A} → ((c : ℕ) → c < n → v' c ≡ v c) → v' n ≡ v n - s * d → SlotReduced U i v'
    slot_reduced_tail s {v'} e t = record {
      factor = X.factor;
      own = X.own;
      empty = X.empty;
      low = X.low;
      block = λ c l. e c l ∙ X.block c l;
      multiple = X.multiple + s;
      tail = combination R (v' n) ((U.at i n - combined R n X.factor U n) - (X.multiple + s) * d)
          (given 𝟙 t ∷ given 𝟙 X.tail ∷ [])
          (identity R (v' n ∷ v n ∷ s ∷ d ∷ U.at i n ∷ combined R n X.factor U n ∷ X.multiple ∷ [])
          (λ ρ q1 q2 q3 q4 q5 q6 q7. search quotes depth 16) refl);
    }

    -- the pivot is where it was
    pub slot_reduced_pivot : Filled S n unweighted U → i < n → 0 < U.size i → Pivot S n unweighted v i (U.size i)
    slot_reduced_pivot full h f = pivot_ext (λ c l. sym (X.block c l))
        (pivot_add (full i h f) (low_neg (low_sum n (λ k c. X.factor k * U.at k c) (λ k l. at k l (ℕ_discrete (U.size k) 0)))))
      where
        at : (k : ℕ) → k < n → Dec (U.size k ≡ 0) → Low S n unweighted (λ c. X.factor k * U.at k c) i (U.size i)
        at k l (yes z) = low_none i (U.size i) (λ c g. ap (λ x. x * U.at k c) (X.empty k l z) ∙ zero_mul R (U.at k c))
        at k l (no z) = X.low k l (omega arith)

  -- ---- all of them

  pub reworked_none : (U : Slots A) → Reworked U U
  reworked_none U = record { sizes = λ q h. refl; filled = λ full. full; into = λ h z c e u s. s }

  -- the vector of slot i replaced
  pub reworked_more : {U G : Slots A} → Reworked U G → (i : ℕ) → i < n → 0 < G.size i → {v : ℕ → A} → SlotReduced G i v
      → Reworked U (put G i v (G.size i))
  reworked_more {U} {G} W i h f {v} X = record {
    sizes = λ q l. W.sizes q l ∙ sizes q;
    filled = λ full. filled_but (put_same G i v (G.size i) h) (W.filled full)
        (subst (Pivot S n unweighted (P.at i) i) (sizes i) (pivot_ext (λ c l. sym (put_here G i v (G.size i) c))
        (slot_reduced_pivot X (W.filled full) h f)));
    into = λ hand z c m u s. into hand z c m u (W.into hand z c m u s);
  }
    where
      P : Slots A
      P = put G i v (G.size i)

      sizes : (q : ℕ) → G.size q ≡ P.size q
      sizes = put_sizes G i v

      -- what was taken off, of the slots as they are now
      off : ℕ → A
      off = combined R n X.factor G

      taken : InSpan R n (suc n) P off
      taken = record {
        coefficient = X.factor;
        empty = λ q l e. X.empty q l (sizes q ∙ e);
        equal = λ k l. sum_ext R n (λ q. X.factor q * G.at q k) (λ q. X.factor q * P.at q k) (λ q g. same q k (ℕ_discrete q i));
      }
        where
          same : (q k : ℕ) → Dec (q ≡ i) → X.factor q * G.at q k ≡ X.factor q * P.at q k
          same q k (yes r) =
              let none : X.factor q ≡ 𝟘 = ap X.factor r ∙ X.own in
              ap (λ x. x * G.at q k) none ∙ zero_mul R (G.at q k)
              ∙ sym (ap (λ x. x * P.at q k) none ∙ zero_mul R (P.at q k))
          same q k (no r) = ap (λ x. X.factor q * x k) (sym (replace_other G.at i v q r))

      into : (hand : ℕ → A) → Vanishes R n hand → (c : A) → d ≡ c * hand n → (u : ℕ → A)
          → InSpanWith R n (suc n) G hand u → InSpanWith R n (suc n) P hand u
      into hand z c m u s = record {
        multiple = m';
        rest = span_combine R 𝟙 a changed taken (λ k. u k - m' * hand k)
            (below_suc n (λ k. u k - m' * hand k ≡ 𝟙 * x k + a * off k) block tail);
      }
        where
          a : A
          a = s.rest.coefficient i

          m' : A
          m' = s.multiple + a * X.multiple * c

          x : ℕ → A
          x k = u k - s.multiple * hand k - a * G.at i k + a * P.at i k

          changed : InSpan R n (suc n) P x
          changed = span_change R (omega arith) (put_same G i v (G.size i) h) s.rest a
              (λ e. absurd (omega (arith, sizes i))) x (λ k l. refl)

          block : (k : ℕ) → k < n → u k - m' * hand k ≡ 𝟙 * x k + a * off k
          block k l = combination R (u k - m' * hand k) (𝟙 * x k + a * off k)
              (given (- (a * X.multiple * c)) (z k l) ∷ given (- a) (put_here G i v (G.size i) k)
              ∷ given (- a) (X.block k l) ∷ [])
              (identity R (u k ∷ s.multiple ∷ a ∷ X.multiple ∷ c ∷ hand k ∷ G.at i k ∷ P.at i k ∷ off k ∷ v k ∷ [])
              (λ ρ q1 q2 q3 q4 q5 q6 q7 q8 q9 q10. search quotes depth 20) refl)

          tail : u n - m' * hand n ≡ 𝟙 * x n + a * off n
          tail = combination R (u n - m' * hand n) (𝟙 * x n + a * off n)
              (given (a * X.multiple) m ∷ given (- a) (put_here G i v (G.size i) n) ∷ given (- a) X.tail ∷ [])
              (identity R (u n ∷ s.multiple ∷ a ∷ X.multiple ∷ c ∷ hand n ∷ G.at i n ∷ P.at i n ∷ off n ∷ v n ∷ d ∷ [])
              (λ ρ q1 q2 q3 q4 q5 q6 q7 q8 q9 q10 q11. search quotes depth 24) refl)

  -- a reduced vector put into slot i: what was reduced stays so, as the lengths stay
  pub popov_put : (G : Slots A) (i : ℕ) {v : ℕ → A} → SlotPopov G i v → (q : ℕ) → (¬ (q ≡ i) → SlotPopov G q (G.at q))
      → SlotPopov (put G i v (G.size i)) q ((put G i v (G.size i)).at q)
  popov_put G i {v} X q old = replace_elim (λ q x. SlotPopov (put G i v (G.size i)) q x) G.at i v (turn X) q (λ r. turn (old r))
    where
      turn : {q : ℕ} {x : ℕ → A} → SlotPopov G q x → SlotPopov (put G i v (G.size i)) q x
      turn {q} {x} Y = record {
        block = λ j h ne f. omega (arith, Y.block j h ne (omega (arith, put_sizes G i v j)), put_sizes G i v j);
        tail = Y.tail;
      }

  -- room for the tails: a tail that is smaller than d has any
  pub popov_tops : {B D : ℕ} {U G : Slots A} → Tops S n B D U → size d +ₙ degrees n U.size ≤ suc B → Reworked U G
      → ((q : ℕ) → q < n → 0 < U.size q → (size (G.at q n) ≤ size (U.at q n)) ⊎ (size (G.at q n) < size d)) → Tops S n B D G
  popov_tops {B} {D} {U} {G} O room W tails = record {
    filled = W.filled O.filled;
    tails = λ q h f y. at q h (omega (arith, W.sizes q h)) y (tails q h (omega (arith, W.sizes q h)));
    high = λ q h. omega (arith, O.high q h, W.sizes q h);
  }
    where
      at : (q : ℕ) → q < n → 0 < U.size q → 0 < size (G.at q n)
          → (size (G.at q n) ≤ size (U.at q n)) ⊎ (size (G.at q n) < size d)
          → size (G.at q n) +ₙ degrees n G.size ≤ B +ₙ G.size q
      at q h f y (inl k) = omega (
        arith,
        O.tails q h f (omega arith),
        W.sizes q h,
        degrees_ext n U.size G.size W.sizes,
      )
      at q h f y (inr k) = omega (arith, room, degrees_ext n U.size G.size W.sizes)

  -- ---- the second system

  -- take j where row and slot are longest together: in row·(slot j) only the term at j counts, and it is shorter than d·w
  pub popov_short : {B : ℕ} {G : Slots A} → Filled S n unweighted G → Popov G → ¬ (d ≡ 𝟘) → {w : A} {Y : ℕ → A} → Dual S n B G w Y
      → (i : ℕ) → i < n → 0 < size (Y i) → size (Y i) +ₙ G.size i ≤ size (d * w)
  popov_short {B} {G} full popov nonzero {w} {Y} K i h p = go (find_pivot S G.size n Y)
    where
      go : HasPivot S G.size n Y ⊎ Vanishes R n Y → size (Y i) +ₙ G.size i ≤ size (d * w)
      go (inr z) = absurd (positive_nonzero S (Y i) p (z i h))
      go (inl x) = omega (
        arith,
        x.pivot.all i h,
        size_sum_leading S n j (λ k. Y k * G.at j k) M.inside (omega (arith, product, M.positive, C.positive)) other,
        product,
        C.reached,
        M.reached,
        ap size (K.equal j M.inside filled),
        size_mul_le S w (G.at j n) (size w) (size d -ₙ 1) (omega arith) (omega (arith, (popov j M.inside filled).tail)),
        size_mul_nonzero S d w nonzero K.nonzero,
        M.positive,
        C.positive,
        (popov j M.inside filled).tail,
      )
        where
          j : ℕ
          j = x.at

          M : Pivot S n G.size Y j x.size
          M = x.pivot

          filled : 0 < G.size j
          filled = by (ℕ_discrete (G.size j) 0)
            where
              by : Dec (G.size j ≡ 0) → 0 < G.size j
              by (yes e) = absurd (positive_nonzero S (Y j) M.positive (K.empty j M.inside e))
              by (no e) = omega arith

          C : Pivot S n unweighted (G.at j) j (G.size j)
          C = full j M.inside filled

          product : suc (size (Y j * G.at j j)) ≡ size (Y j) +ₙ size (G.at j j)
          product = S.size_mul (Y j) (G.at j j) M.positive C.positive

          other : (k : ℕ) → k < n → ¬ (k ≡ j) → size (Y k * G.at j k) < size (Y j * G.at j j)
          other k l ne = by (ℕ_discrete (size (Y k)) 0) (ℕ_discrete (G.size k) 0)
            where
              none : Y k ≡ 𝟘 → size (Y k * G.at j k) < size (Y j * G.at j j)
              none e = omega (
                arith,
                size_of_zero S (Y k * G.at j k) (ap (λ y. y * G.at j k) e ∙ zero_mul R (G.at j k)),
                product,
                M.positive,
                C.positive,
              )

              by : Dec (size (Y k) ≡ 0) → Dec (G.size k ≡ 0) → size (Y k * G.at j k) < size (Y j * G.at j j)
              by (yes e) f = none (S.size_none (Y k) e)
              by (no e) (yes f) = none (K.empty k l f)
              by (no e) (no f) = omega (
                arith,
                size_mul_le S (Y k) (G.at j k) (size (Y k)) (G.size k -ₙ 1) (omega arith)
                    (omega (arith, (popov j M.inside filled).block k l ne (omega arith))),
                M.all k l,
                M.reached,
                C.reached,
                product,
              )
