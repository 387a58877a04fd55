-- Weighted size and pivot of a block v of n coordinates with weights ω: the weighted size is the greatest size (v i) + ω i, the
-- pivot the first coordinate that reaches it. Truncated subtraction spares the case of a coordinate that is zero.
use Rattle.std.specs.Prelude.{ℕ, zero, suc, ◌-◌, ◌<◌, ◌≤◌, ◌+◌ as ◌+ₙ◌, ◌≡◌, refl, ◌⊎◌}
use Rattle.std.proofs.Common.{sym, ◌∙◌, ap, subst, inl, inr, arith}
use Rattle.std.proofs.Math.Decide.{ℕ_discrete, dec_lt, dec_le}
use Rattle.ring.specs.Ring.{Ring, mul_zero}
use Rattle.ring.specs.Sum.{sum}
use Rattle.algebra.specs.Sized.{Sized, size_of_zero, size_mul_le, size_longer, size_sum}
use Rattle.reduction.specs.Replace.{below_suc}

-- the block is zero
abbrev pub Vanishes : {A : Type 0} → Ring A → ℕ → (ℕ → A) → Type 0
Vanishes R n v = (i : ℕ) → i < n → v i ≡ R.zero

-- q is the pivot of v and d its weighted size: strictly smaller before q, no greater anywhere
pub record Pivot {A : Type 0} {R : Ring A} (S : Sized R) (n : ℕ) (ω : ℕ → ℕ) (v : ℕ → A) (q d : ℕ) : Type 0 where
  pub inside : q < n
  pub positive : 0 < S.size (v q)
  pub reached : S.size (v q) +ₙ ω q ≡ d
  pub before : (i : ℕ) → i < q → S.size (v i) ≤ (d - 1) - ω i
  pub all : (i : ℕ) → i < n → S.size (v i) ≤ d - ω i

-- v is zero, or of smaller weighted size than d, or of weighted size d with its pivot after q
pub record Low {A : Type 0} {R : Ring A} (S : Sized R) (n : ℕ) (ω : ℕ → ℕ) (v : ℕ → A) (q d : ℕ) : Type 0 where
  pub upto : (i : ℕ) → i < n → i ≤ q → S.size (v i) ≤ (d - 1) - ω i
  pub all : (i : ℕ) → i < n → S.size (v i) ≤ d - ω i

-- a vector of pivot q and weighted size d comes before one of q' and d'
abbrev pub Before : (q d q' d' : ℕ) → Type 0
Before q d q' d' = (d < d') ⊎ ((d ≡ d') × (q' < q))

pub before_decided : (q d q' d' : ℕ) → ¬ (q ≡ q') → Before q d q' d' ⊎ Before q' d' q d
before_decided q d q' d' ne = go (dec_lt d d') (dec_lt d' d) (dec_lt q q')
  where
    go : Dec (d < d') → Dec (d' < d) → Dec (q < q') → Before q d q' d' ⊎ Before q' d' q d
    go (yes h) b c = inl (inl h)
    go (no h) (yes k) c = inr (inl k)
    go (no h) (no k) (yes l) = inr (inr (omega arith, l))
    go (no h) (no k) (no l) = inl (inr (omega arith, omega arith))

module _ {A : Type 0} {R : Ring A} {S : Sized R} {n : ℕ} {ω : ℕ → ℕ} where
  open R use {add as ◌+◌, mul as ◌*◌, neg as -◌}
  open S use {size, size_none, size_mul, size_add, size_neg}

  infixl 65 ◌+◌
  infixl 70 ◌*◌
  infix 75 -◌
  pub pivot_low : {v : ℕ → A} {q d q' d' : ℕ} → Pivot S n ω v q d → Before q d q' d' → Low S n ω v q' d'
  pivot_low P (inl h) = record {
    upto = λ i l k. omega (arith, P.all i l);
    all = λ i l. omega (arith, P.all i l);
  }
  pivot_low P (inr h) = record {
    upto = λ i l k. omega (arith, P.before i (omega arith));
    all = λ i l. omega (arith, P.all i l);
  }

  pub low_pivot : {v : ℕ → A} {q d q' d' : ℕ} → Low S n ω v q d → Pivot S n ω v q' d' → Before q' d' q d
  low_pivot {v} {q} {d} {q'} {d'} L P = go (dec_lt q q') (dec_lt d' d)
    where
      go : Dec (q < q') → Dec (d' < d) → Before q' d' q d
      go h (yes k) = inl k
      go (yes h) (no k) = inr (omega (arith, L.all q' P.inside), h)
      go (no h) (no k) = absurd (omega (arith, L.upto q' P.inside (omega arith)))

  -- what comes before is closed under sums
  pub low_none : {v : ℕ → A} (q d : ℕ) → Vanishes R n v → Low S n ω v q d
  low_none {v} q d z = record {
    upto = λ i l k. omega (arith, size_of_zero S (v i) (z i l));
    all = λ i l. omega (arith, size_of_zero S (v i) (z i l));
  }

  pub low_ext : {u v : ℕ → A} {q d : ℕ} → ((i : ℕ) → i < n → u i ≡ v i) → Low S n ω u q d → Low S n ω v q d
  low_ext {u} {v} {q} {d} e L = record {
    upto = λ i l k. subst (λ x. size x ≤ (d - 1) - ω i) (e i l) (L.upto i l k);
    all = λ i l. subst (λ x. size x ≤ d - ω i) (e i l) (L.all i l);
  }

  pub low_neg : {v : ℕ → A} {q d : ℕ} → Low S n ω v q d → Low S n ω (λ i. - v i) q d
  low_neg {v} {q} {d} L = record {
    upto = λ i l k. size_neg ((d - 1) - ω i) (v i) (L.upto i l k);
    all = λ i l. size_neg (d - ω i) (v i) (L.all i l);
  }

  pub low_add : {u v : ℕ → A} {q d : ℕ} → Low S n ω u q d → Low S n ω v q d → Low S n ω (λ i. u i + v i) q d
  low_add {u} {v} {q} {d} K L = record {
    upto = λ i l k. size_add ((d - 1) - ω i) (u i) (v i) (K.upto i l k) (L.upto i l k);
    all = λ i l. size_add (d - ω i) (u i) (v i) (K.all i l) (L.all i l);
  }

  pub low_sum : (m : ℕ) (f : ℕ → ℕ → A) {q d : ℕ} → ((k : ℕ) → k < m → Low S n ω (f k) q d)
      → Low S n ω (λ i. sum R m (λ k. f k i)) q d
  low_sum m f {q} {d} L = record {
    upto = λ i l h. size_sum S ((d - 1) - ω i) m (λ k. f k i) (λ k g. (L k g).upto i l h);
    all = λ i l. size_sum S (d - ω i) m (λ k. f k i) (λ k g. (L k g).all i l);
  }

  -- what comes before does not move the pivot
  pub pivot_add : {u v : ℕ → A} {q d : ℕ} → Pivot S n ω u q d → Low S n ω v q d → Pivot S n ω (λ i. u i + v i) q d
  pivot_add {u} {v} {q} {d} P L = record {
    inside = P.inside;
    positive = omega (arith, same);
    reached = omega (arith, same);
    before = λ i h. size_add ((d - 1) - ω i) (u i) (v i) (P.before i h) (L.upto i (omega arith) (omega arith));
    all = λ i h. size_add (d - ω i) (u i) (v i) (P.all i h) (L.all i h);
  }
    where
      same : size (u q + v q) ≡ size (u q)
      same = size_longer S (u q) (v q) (omega (arith, L.upto q P.inside (omega arith)))

  pub pivot_ext : {u v : ℕ → A} {q d : ℕ} → ((i : ℕ) → i < n → u i ≡ v i) → Pivot S n ω u q d → Pivot S n ω v q d
  pivot_ext {u} {v} {q} {d} e P = record {
    inside = P.inside;
    positive = subst (λ x. 0 < size x) (e q P.inside) P.positive;
    reached = ap (λ x. size x +ₙ ω q) (sym (e q P.inside)) ∙ P.reached;
    before = λ i h. subst (λ x. size x ≤ (d - 1) - ω i) (e i (omega arith)) (P.before i h);
    all = λ i h. subst (λ x. size x ≤ d - ω i) (e i h) (P.all i h);
  }

  pub pivot_scale : {v : ℕ → A} {q d : ℕ} (c : A) → 0 < size c → Pivot S n ω v q d
      → Pivot S n ω (λ i. c * v i) q ((size c +ₙ d) - 1)
  pivot_scale {v} {q} {d} c h P = record {
    inside = P.inside;
    positive = omega (arith, size_mul c (v q) h P.positive);
    reached = omega (arith, size_mul c (v q) h P.positive);
    before = λ i l. bound i ((d - 1) - ω i) ((((size c +ₙ d) - 1) - 1) - ω i) (P.before i l) (omega arith);
    all = λ i l. bound i (d - ω i) (((size c +ₙ d) - 1) - ω i) (P.all i l) (omega arith);
  }
    where
      bound : (i a b : ℕ) → size (v i) ≤ a → ((0 < a) → (size c +ₙ a) - 1 ≤ b) → size (c * v i) ≤ b
      bound i a b l k = go (ℕ_discrete (size (v i)) 0)
        where
          go : Dec (size (v i) ≡ 0) → size (c * v i) ≤ b
          go (yes e) = omega (arith, size_of_zero S (c * v i) (ap (λ x. c * x) (size_none (v i) e) ∙ mul_zero R c))
          go (no e) = omega (arith, size_mul_le S c (v i) (size c) a (omega arith) l, k (omega arith))

  pub pivot_unique : {v : ℕ → A} {q d q' d' : ℕ} → Pivot S n ω v q d → Pivot S n ω v q' d' → (q ≡ q') × (d ≡ d')
  pivot_unique {v} {q} {d} {q'} {d'} P Q = go (dec_lt q q') (dec_lt q' q)
    where
      go : Dec (q < q') → Dec (q' < q) → (q ≡ q') × (d ≡ d')
      go (yes h) k = absurd (omega (arith, Q.before q h, P.all q' Q.inside))
      go (no h) (yes k) = absurd (omega (arith, P.before q' k, Q.all q P.inside))
      go (no h) (no k) =
          let e : q ≡ q' = omega arith in
          (e, sym P.reached ∙ ap (λ x. size (v x) +ₙ ω x) e ∙ Q.reached)

-- a block has a pivot or is zero
module _ {A : Type 0} {R : Ring A} (S : Sized R) (ω : ℕ → ℕ) where
  open R use {zero as 𝟘}
  open S use {size, size_none}

  pub record HasPivot (n : ℕ) (v : ℕ → A) : Type 0 where
    pub at : ℕ
    pub size : ℕ
    pub pivot : Pivot S n ω v at size

  pub find_pivot : (n : ℕ) (v : ℕ → A) → HasPivot n v ⊎ Vanishes R n v
  find_pivot zero v = inr (λ i h. absurd (omega arith))
  find_pivot (suc n) v = go (find_pivot n v)
    where
      -- the last coordinate is greater than all before
      last : ((i : ℕ) → i < n → size (v i) ≤ ((size (v n) +ₙ ω n) - 1) - ω i) → 0 < size (v n) → HasPivot (suc n) v
      last h p = record {
        at = n;
        size = size (v n) +ₙ ω n;
        pivot = record {
          inside = omega arith;
          positive = p;
          reached = refl;
          before = h;
          all = below_suc n (λ i. size (v i) ≤ (size (v n) +ₙ ω n) - ω i) (λ i l. omega (arith, h i l)) (omega arith);
        };
      }

      go : HasPivot n v ⊎ Vanishes R n v → HasPivot (suc n) v ⊎ Vanishes R (suc n) v
      go (inr z) = new (ℕ_discrete (size (v n)) 0)
        where
          new : Dec (size (v n) ≡ 0) → HasPivot (suc n) v ⊎ Vanishes R (suc n) v
          new (yes e) = inr (below_suc n (λ i. v i ≡ 𝟘) z (size_none (v n) e))
          new (no e) = inl (last (λ i h. omega (arith, size_of_zero S (v i) (z i h))) (omega arith))
      go (inl p) = compare (dec_le (size (v n)) (p.size - ω n))
        where
          P : Pivot S n ω v p.at p.size
          P = p.pivot

          compare : Dec (size (v n) ≤ p.size - ω n) → HasPivot (suc n) v ⊎ Vanishes R (suc n) v
          compare (yes b) = inl record {
            at = p.at;
            size = p.size;
            pivot = record {
              inside = omega (arith, P.inside);
              positive = P.positive;
              reached = P.reached;
              before = P.before;
              all = below_suc n (λ i. size (v i) ≤ p.size - ω i) P.all b;
            };
          }
          compare (no b) = inl (last (λ i h. omega (arith, P.all i h)) (omega arith))
