-- L5, levels: what links the slots U of one level to the slots U' of the next, after the column a; with the degrees for L6.
use Rattle.std.specs.Prelude.{ℕ, suc, ◌<◌, ◌≤◌, min, ◌+◌ as ◌+ₙ◌, ◌≡◌, refl, ◌⊎◌, [], ◌∷◌}
use Rattle.std.proofs.Common.{ap, inl, inr, arith}
use Rattle.ring.specs.Ring.{Ring}
use Rattle.ring.specs.Identity.{quotes, identity}
use Rattle.algebra.specs.Sized.{Sized}
use Rattle.algebra.specs.Divides.{Divides, one_divides}
use Rattle.reduction.specs.Total.{rank, degrees, rank_ext, degrees_ext}
use Rattle.reduction.specs.Slots.{Slots, Filled, unweighted, Same, SameBlocks, same_sym, blocks_sym, filled_same}
use Rattle.reduction.specs.Span.{InSpan, span_combine, span_fewer, span_same, span_blocks}

-- the column went into a slot of its own
pub record Grows {A : Type 0} {R : Ring A} (S : Sized R) (n δ : ℕ) (U U' : Slots A) (kernel : A) : Type 0 where
  pub none : kernel ≡ R.zero
  pub one_more : rank n U'.size ≡ suc (rank n U.size)
  pub degrees_le : degrees n U'.size ≤ degrees n U.size +ₙ δ
  pub tails : (q : ℕ) → q < n → 0 < U'.size q → 0 < S.size (U'.at q n)
      → S.size (U'.at q n) +ₙ degrees n U'.size ≤ degrees n U.size +ₙ U'.size q

-- a multiple of the column, by its kernel, was in the span already
pub record Kernel {A : Type 0} {R : Ring A} (S : Sized R) (n : ℕ) (U U' : Slots A) (kernel : A) : Type 0 where
  pub positive : 0 < S.size kernel
  pub no_more : rank n U'.size ≡ rank n U.size
  pub degrees_le : S.size kernel +ₙ degrees n U'.size ≤ suc (degrees n U.size)

module _ {A : Type 0} {R : Ring A} (S : Sized R) (n δ : ℕ) where
  open R use {add as ◌+◌, mul as ◌*◌, neg as -◌, one as 𝟙}
  open S use {size, size_one}

  infixl 65 ◌+◌
  infixl 65 ◌-◌
  infixl 70 ◌*◌
  infix 75 -◌
  abbrev ◌-◌ : A → A → A
  a - b = a + (- b)

  -- the kernel is zero where the column has none
  pub record Link (a : ℕ → A) (U U' : Slots A) (kernel : A) : Type 0 where
    pub filled : Filled S n unweighted U'
    -- the span grows by the column
    pub up : (x : ℕ → A) → InSpan R n n U x → InSpan R n n U' x
    pub new : InSpan R n n U' a
    -- (x | τ) in the span of U' with tails: x - (τ - κ·kernel)·a is in the span of U
    pub down : (x : ℕ → A) → InSpan R n (suc n) U' x → (κ : A) → InSpan R n n U (λ k. x k - (x n - κ * kernel) * a k)
    pub kind : Grows S n δ U U' kernel ⊎ Kernel S n U U' kernel
    -- the kernel generates the ideal of all κ with κ·a in the span before
    pub least : (κ : A) → InSpan R n n U (λ k. κ * a k) → Divides R kernel κ

  -- a column of the span may be left out: the slots stay, whatever their tails, and the kernel is one
  pub link_drop : (a : ℕ → A) (U : Slots A) → Filled S n unweighted U → InSpan R n n U a → Link a U U 𝟙
  link_drop a U full s = record {
    filled = full;
    up = λ x t. t;
    new = s;
    down = λ x t κ. span_combine R 𝟙 (- (x n - κ * 𝟙)) (span_fewer R (omega arith) t) s (λ k. x k - (x n - κ * 𝟙) * a k)
        (λ k h. identity R (x k ∷ x n ∷ κ ∷ a k ∷ []) (λ ρ qx qn qκ qa. search quotes depth 16) refl);
    kind = inr record { positive = omega (arith, size_one); no_more = refl; degrees_le = omega (arith, size_one) };
    least = λ κ t. one_divides κ;
  }

  -- the column less a vector of the span before makes the same link
  pub link_shift : {a a' : ℕ → A} {U U' : Slots A} {kernel : A} → InSpan R n n U (λ k. a' k - a k) → Link a U U' kernel
      → Link a' U U' kernel
  link_shift {a} {a'} {kernel = kernel} s K = record {
    filled = K.filled;
    up = K.up;
    new = span_combine R 𝟙 𝟙 (K.up (λ k. a' k - a k) s) K.new a'
        (λ k h. identity R (a' k ∷ a k ∷ []) (λ ρ qb qa. search quotes depth 16) refl);
    down = λ x t κ. span_combine R 𝟙 (- (x n - κ * kernel)) (K.down x t κ) s (λ k. x k - (x n - κ * kernel) * a' k)
        (λ k h. identity R (x k ∷ x n ∷ κ ∷ kernel ∷ a k ∷ a' k ∷ []) (λ ρ qx qn qκ qe qa qb. search quotes depth 16) refl);
    kind = K.kind;
    least = λ κ t. K.least κ (span_combine R 𝟙 (- κ) t s (λ k. κ * a k)
        (λ k h. identity R (κ ∷ a k ∷ a' k ∷ []) (λ ρ qκ qa qb. search quotes depth 16) refl));
  }

  -- a link depends only on what is looked at: of the slots before, their blocks
  pub link_same : {a : ℕ → A} {U U₁ U' U₁' : Slots A} {kernel : A} → SameBlocks n U U₁ → Same n U' U₁'
      → Link a U U' kernel → Link a U₁ U₁' kernel
  link_same {a} {U} {U₁} {U'} {U₁'} {kernel} e e' K = record {
    filled = filled_same e' K.filled;
    up = λ x s. span_same R (omega arith) e' (K.up x (span_blocks R (blocks_sym e) s));
    new = span_same R (omega arith) e' K.new;
    down = λ x s κ. span_blocks R e (K.down x (span_same R (omega arith) (same_sym e') s) κ);
    kind = kind K.kind;
    least = λ κ s. K.least κ (span_blocks R (blocks_sym e) s);
  }
    where
      old_rank : rank n U.size ≡ rank n U₁.size
      old_rank = rank_ext n U.size U₁.size (λ q h. ap (min 1) (e.sizes q h))

      new_rank : rank n U'.size ≡ rank n U₁'.size
      new_rank = rank_ext n U'.size U₁'.size (λ q h. ap (min 1) (e'.sizes q h))

      old : degrees n U.size ≡ degrees n U₁.size
      old = degrees_ext n U.size U₁.size e.sizes

      new : degrees n U'.size ≡ degrees n U₁'.size
      new = degrees_ext n U'.size U₁'.size e'.sizes

      kind : Grows S n δ U U' kernel ⊎ Kernel S n U U' kernel → Grows S n δ U₁ U₁' kernel ⊎ Kernel S n U₁ U₁' kernel
      kind (inr k) = inr record {
        positive = k.positive;
        no_more = omega (arith, k.no_more, old_rank, new_rank);
        degrees_le = omega (arith, k.degrees_le, old, new);
      }
      kind (inl k) = inl record {
        none = k.none;
        one_more = omega (arith, k.one_more, old_rank, new_rank);
        degrees_le = omega (arith, k.degrees_le, old, new);
        tails = λ q h f y.
            let f' : 0 < U'.size q = omega (arith, e'.sizes q h) in
            let v : size (U'.at q n) ≡ size (U₁'.at q n) = ap size (e'.vectors q n h f' (omega arith)) in
            omega (arith, k.tails q h f' (omega arith), old, new, e'.sizes q h);
      }
