-- The span of slots: the combinations of their vectors, over the first l coordinates; l = n for blocks alone, l = n + 1 with
-- tails. The coefficients are data.
use Rattle.std.specs.Prelude.{ℕ, suc, ◌<◌, ◌≤◌, ◌≡◌, [], ◌∷◌}
use Rattle.std.proofs.Math.Path.{refl}
use Rattle.std.proofs.Common.{sym, ◌∙◌, ap, ap₂, arith}
use Rattle.std.proofs.Math.Decide.{ℕ_discrete}
use Rattle.ring.specs.Ring.{Ring, mul_zero, zero_mul}
use Rattle.ring.specs.Sum.{sum, sum_ext, sum_none, sum_add, sum_mul, sum_single, sum_change, sum_assoc}
use Rattle.ring.specs.Identity.{quotes, identity}
use Rattle.ring.specs.Combination.{given, combination}
use Rattle.reduction.specs.Replace.{replace, replace_here, replace_other}
use Rattle.reduction.specs.Slots.{Slots, Same, SameBlocks, SameBut}

module _ {A : Type 0} (R : Ring A) where
  open R use {add as ◌+◌, mul as ◌*◌, neg as -◌, zero as 𝟘, one as 𝟙}

  infixl 65 ◌+◌
  infixl 65 ◌-◌
  infixl 70 ◌*◌
  infix 75 -◌
  abbrev ◌-◌ : A → A → A
  a - b = a + (- b)

  -- coordinate k of the combination with the coefficients c
  abbrev pub combined : ℕ → (ℕ → A) → Slots A → ℕ → A
  combined n c U k = sum R n (λ q. c q * U.at q k)

  -- u is a combination of the filled slots
  pub record InSpan (n l : ℕ) (U : Slots A) (u : ℕ → A) : Type 0 where
    pub coefficient : ℕ → A
    pub empty : (q : ℕ) → q < n → U.size q ≡ 0 → coefficient q ≡ 𝟘
    pub equal : (k : ℕ) → k < l → u k ≡ combined n coefficient U k

  -- u is a combination of the filled slots and the hand h
  pub record InSpanWith (n l : ℕ) (U : Slots A) (h u : ℕ → A) : Type 0 where
    pub multiple : A
    pub rest : InSpan n l U (λ k. u k - multiple * h k)

  module _ {n l : ℕ} where
    pub span_zero : (U : Slots A) (u : ℕ → A) → ((k : ℕ) → k < l → u k ≡ 𝟘) → InSpan n l U u
    span_zero U u z = record {
      coefficient = λ q. 𝟘;
      empty = λ q h e. refl;
      equal = λ k h. z k h ∙ sym (sum_none R n (λ q. 𝟘 * U.at q k) (λ q g. zero_mul R (U.at q k)));
    }

    -- the vector of a filled slot
    pub span_slot : (U : Slots A) (q : ℕ) → q < n → 0 < U.size q → InSpan n l U (U.at q)
    span_slot U q h f = record {
      coefficient = c;
      empty = λ i l e. replace_other (λ _. 𝟘) q 𝟙 i (λ r. absurd (omega (arith, ap U.size r)));
      equal = λ k l. sym (sum_single R n q (λ i. c i * U.at i k) h (λ i g ne. other i k ne) ∙ here k);
    }
      where
        c : ℕ → A
        c = replace (λ _. 𝟘) q 𝟙

        other : (i k : ℕ) → ¬ (i ≡ q) → c i * U.at i k ≡ 𝟘
        other i k ne = ap (λ x. x * U.at i k) (replace_other (λ _. 𝟘) q 𝟙 i ne) ∙ zero_mul R (U.at i k)

        here : (k : ℕ) → c q * U.at q k ≡ U.at q k
        here k =
            ap (λ x. x * U.at q k) (replace_here (λ _. 𝟘) q 𝟙)
            ∙ identity R (U.at q k ∷ []) (λ ρ qu. search quotes depth 16) refl

    module _ {U : Slots A} where
      -- the span is closed under combinations
      pub span_combine : {u v : ℕ → A} (a b : A) → InSpan n l U u → InSpan n l U v
          → (x : ℕ → A) → ((k : ℕ) → k < l → x k ≡ a * u k + b * v k) → InSpan n l U x
      span_combine {u} {v} a b s t x e = record {
        coefficient = λ q. a * c q + b * d q;
        empty = λ q h z. ap₂ (λ y z. a * y + b * z) (s.empty q h z) (t.empty q h z)
            ∙ identity R (a ∷ b ∷ []) (λ ρ qa qb. search quotes depth 16) refl;
        equal = λ k h. e k h ∙ ap₂ (λ y z. a * y + b * z) (s.equal k h) (t.equal k h) ∙ sym (outside k);
      }
        where
          c : ℕ → A
          c = s.coefficient

          d : ℕ → A
          d = t.coefficient

          outside : (k : ℕ) → combined n (λ q. a * c q + b * d q) U k ≡ a * combined n c U k + b * combined n d U k
          outside k =
              sum_ext R n (λ q. (a * c q + b * d q) * U.at q k) (λ q. a * (c q * U.at q k) + b * (d q * U.at q k))
              (λ q h. identity R (a ∷ b ∷ c q ∷ d q ∷ U.at q k ∷ []) (λ ρ qa qb qc qd qu. search quotes depth 16) refl)
              ∙ sum_add R n (λ q. a * (c q * U.at q k)) (λ q. b * (d q * U.at q k))
              ∙ ap₂ ◌+◌ (sum_mul R n a (λ q. c q * U.at q k)) (sum_mul R n b (λ q. d q * U.at q k))

      pub span_combine_coefficient : {u v : ℕ → A} (a b : A) (s : InSpan n l U u) (t : InSpan n l U v) (x : ℕ → A)
          (e : (k : ℕ) → k < l → x k ≡ a * u k + b * v k) (q : ℕ)
          → (span_combine a b s t x e).coefficient q ≡ a * s.coefficient q + b * t.coefficient q
      unfolding span_combine
      span_combine_coefficient a b s t x e q = refl

      pub span_ext : {u : ℕ → A} → InSpan n l U u → (x : ℕ → A) → ((k : ℕ) → k < l → x k ≡ u k) → InSpan n l U x
      span_ext s x e = record { coefficient = s.coefficient; empty = s.empty; equal = λ k h. e k h ∙ s.equal k h }

      pub span_scale : {u : ℕ → A} (a : A) → InSpan n l U u → (x : ℕ → A) → ((k : ℕ) → k < l → x k ≡ a * u k) → InSpan n l U x
      span_scale {u} a s x e = span_combine a 𝟘 s s x
          (λ k h. e k h ∙ identity R (a ∷ u k ∷ []) (λ ρ qa qu. search quotes depth 16) refl)

      -- fewer coordinates
      pub span_fewer : {u : ℕ → A} {l' : ℕ} → l' ≤ l → InSpan n l U u → InSpan n l' U u
      span_fewer h s = record { coefficient = s.coefficient; empty = s.empty; equal = λ k g. s.equal k (omega arith) }

      -- the span depends only on what is looked at; the coefficients stay
      pub span_agree : {U' : Slots A} {u : ℕ → A} → ((q : ℕ) → q < n → U.size q ≡ U'.size q)
          → ((q k : ℕ) → q < n → 0 < U.size q → k < l → U.at q k ≡ U'.at q k) → InSpan n l U u → InSpan n l U' u
      span_agree {U'} sizes vectors s = record {
        coefficient = s.coefficient;
        empty = λ q g z. s.empty q g (sizes q g ∙ z);
        equal = λ k g. s.equal k g ∙ sum_ext R n (λ q. s.coefficient q * U.at q k) (λ q. s.coefficient q * U'.at q k)
            (λ q f. at q k f g (ℕ_discrete (U.size q) 0));
      }
        where
          c : ℕ → A
          c = s.coefficient

          at : (q k : ℕ) → q < n → k < l → Dec (U.size q ≡ 0) → c q * U.at q k ≡ c q * U'.at q k
          at q k f g (yes z) =
              ap (λ x. x * U.at q k) (s.empty q f z) ∙ zero_mul R (U.at q k)
              ∙ sym (ap (λ x. x * U'.at q k) (s.empty q f z) ∙ zero_mul R (U'.at q k))
          at q k f g (no z) = ap (λ x. c q * x) (vectors q k f (omega arith) g)

      pub span_same : {U' : Slots A} {u : ℕ → A} → l ≤ suc n → Same n U U' → InSpan n l U u → InSpan n l U' u
      span_same h e = span_agree e.sizes (λ q k g f b. e.vectors q k g f (omega arith))

      -- slot p changed: its part of u is taken out, a multiple of the new vector put in
      module _ {p : ℕ} {U' : Slots A} {u : ℕ → A} (h : l ≤ suc n) (e : SameBut n p U U') (s : InSpan n l U u)
          (a : A) (z : U'.size p ≡ 0 → a ≡ 𝟘) (x : ℕ → A)
          (ex : (k : ℕ) → k < l → x k ≡ u k - s.coefficient p * U.at p k + a * U'.at p k) where
        abbrev c : ℕ → A
        c = s.coefficient

        abbrev c' : ℕ → A
        c' = replace s.coefficient p a

        empty' : (q : ℕ) → q < n → U'.size q ≡ 0 → Dec (q ≡ p) → c' q ≡ 𝟘
        empty' q g y (yes r) = ap c' r ∙ replace_here c p a ∙ z (ap U'.size (sym r) ∙ y)
        empty' q g y (no r) = replace_other c p a q r ∙ s.empty q g (e.sizes q g r ∙ y)

        unchanged : (k : ℕ) → k < l → (q : ℕ) → q < n → ¬ (q ≡ p) → Dec (U.size q ≡ 0) → c' q * U'.at q k ≡ c q * U.at q k
        unchanged k g q f r (yes y) =
            ap (λ x. x * U'.at q k) (replace_other c p a q r ∙ s.empty q f y) ∙ zero_mul R (U'.at q k)
            ∙ sym (ap (λ x. x * U.at q k) (s.empty q f y) ∙ zero_mul R (U.at q k))
        unchanged k g q f r (no y) = ap₂ ◌*◌ (replace_other c p a q r) (sym (e.vectors q k f r (omega arith) (omega arith)))

        changed : (k : ℕ) → k < l → combined n c' U' k + c p * U.at p k ≡ combined n c U k + a * U'.at p k
        changed k g =
            sum_change R n p (λ q. c' q * U'.at q k) (λ q. c q * U.at q k) e.inside
            (λ q f r. unchanged k g q f r (ℕ_discrete (U.size q) 0))
            ∙ ap (λ y. combined n c U k + y * U'.at p k) (replace_here c p a)

        pub span_change : InSpan n l U' x
        span_change = record {
          coefficient = c';
          empty = λ q g y. empty' q g y (ℕ_discrete q p);
          equal = λ k g. combination R (x k) (combined n c' U' k)
              (given 𝟙 (ex k g) ∷ given 𝟙 (s.equal k g) ∷ given (- 𝟙) (changed k g) ∷ [])
              (identity R (x k ∷ c p ∷ U.at p k ∷ u k ∷ a ∷ U'.at p k ∷ combined n c U k ∷ combined n c' U' k ∷ [])
              (λ ρ qx qc qp qu qa qv qs qt. search quotes depth 20) refl);
        }

        pub span_change_coefficient : (q : ℕ) → span_change.coefficient q ≡ replace s.coefficient p a q
        unfolding span_change
        span_change_coefficient q = refl

        pub span_change_here : span_change.coefficient p ≡ a
        span_change_here = span_change_coefficient p ∙ replace_here c p a

      -- a row that kills the vectors of the filled slots kills their span
      pub span_killed : {u : ℕ → A} (Z : ℕ → A) → ((q : ℕ) → q < n → 0 < U.size q → sum R l (λ i. Z i * U.at q i) ≡ 𝟘)
          → InSpan n l U u → sum R l (λ i. Z i * u i) ≡ 𝟘
      span_killed {u} Z z s =
          sum_ext R l (λ i. Z i * u i) (λ i. Z i * sum R n (λ q. U.at q i * d q))
          (λ i h. ap (λ x. Z i * x) (s.equal i h ∙ turned i))
          ∙ sum_assoc R l n Z (λ i q. U.at q i) d
          ∙ sum_none R n (λ q. sum R l (λ i. Z i * U.at q i) * d q) (λ q h. at q h (ℕ_discrete (U.size q) 0))
        where
          d : ℕ → A
          d = s.coefficient

          turned : (i : ℕ) → combined n d U i ≡ sum R n (λ q. U.at q i * d q)
          turned i = sum_ext R n (λ q. d q * U.at q i) (λ q. U.at q i * d q) (λ q h. R.mul_comm (d q) (U.at q i))

          at : (q : ℕ) → q < n → Dec (U.size q ≡ 0) → sum R l (λ i. Z i * U.at q i) * d q ≡ 𝟘
          at q h (yes y) =
              ap (λ x. sum R l (λ i. Z i * U.at q i) * x) (s.empty q h y) ∙ mul_zero R (sum R l (λ i. Z i * U.at q i))
          at q h (no y) = ap (λ x. x * d q) (z q h (omega arith)) ∙ zero_mul R (d q)

    -- the hand itself
    pub with_hand : (U : Slots A) (h : ℕ → A) → InSpanWith n l U h h
    with_hand U h = record {
      multiple = 𝟙;
      rest = span_zero U (λ k. h k - 𝟙 * h k) (λ k g. identity R (h k ∷ []) (λ ρ qh. search quotes depth 16) refl);
    }

    -- what is in the span needs no hand
    pub with_none : {U : Slots A} {u : ℕ → A} (h : ℕ → A) → InSpan n l U u → InSpanWith n l U h u
    with_none {U} {u} h s = record {
      multiple = 𝟘;
      rest = span_ext s (λ k. u k - 𝟘 * h k) (λ k g. identity R (u k ∷ h k ∷ []) (λ ρ qu qh. search quotes depth 16) refl);
    }

  -- the span of the blocks does not depend on the tails
  pub span_blocks : {n : ℕ} {U U' : Slots A} {u : ℕ → A} → SameBlocks n U U' → InSpan n n U u → InSpan n n U' u
  span_blocks e = span_agree e.sizes e.vectors

  pub span_blocks_coefficient : {n : ℕ} {U U' : Slots A} {u : ℕ → A} (e : SameBlocks n U U') (s : InSpan n n U u) (q : ℕ)
      → (span_blocks e s).coefficient q ≡ s.coefficient q
  unfolding span_blocks span_agree
  span_blocks_coefficient e s q = refl
